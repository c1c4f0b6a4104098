use mathlib.Core.Path.{◌≡◌, subst}
use Prim.Native.Nat.{ℕ, ◌-◌}
use native.Mathlib.Omega.{arith}
use borrow.Author.Rules.{rules}
use Rattle.transposition.specs.Groups.{group_count}
use Rattle.transposition.proofs.Filled.{Filled, filled_none, filled_next, filled_bits}
use Rattle.transposition.proofs.replace.word_of.Invariants.{rows}
use Rattle.transposition.proofs.replace.word_of.Goals as goal
use Rattle.transposition.proofs.replace.word_of.Goals.{After-loop-i}

-- all bytes
all : (c : After-loop-i) → let a = c.args in
    Filled group_count (rows a.groups a.k) c.loop-i.x
all c =
    let a = c.args in
    let l = c.loop-i in
    let e : l.i ≡ group_count = omega arith in
    subst (λ (n : ℕ). Filled n (rows a.groups a.k) l.x) e l.invariant.3

pub loop-i-init : goal.loop-i-init
loop-i-init c = let a = c.args in (omega arith, c.requires, search rules, filled_none (rows a.groups a.k))

pub with_byte-x-requires : goal.with_byte-x-requires
with_byte-x-requires c = (omega arith, c.loop-i.invariant.3.0)

pub loop-i-preserved : goal.loop-i-preserved
loop-i-preserved c = let a = c.args in
    let l = c.loop-i in
    let b = c.byte_of in
    let next =
    filled_next l.i (rows a.groups a.k) l.x b.result c.with_byte-x.result c.with_byte-x.ensures b.ensures l.invariant.3 in
    (omega arith, l.invariant.1, l.invariant.2, next)

pub overflow_cast-result : goal.overflow_cast-result
overflow_cast-result c = record { fits = (all c).0 }

pub returns : goal.returns
returns c i h = let a = c.args in filled_bits group_count (rows a.groups a.k) c.loop-i.x i (all c) h
