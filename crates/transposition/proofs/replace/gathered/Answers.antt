use Prim.Native.Nat.{◌-◌}
use native.Mathlib.Omega.{arith}
use borrow.Author.Rules.{rules}
use Rattle.transposition.proofs.Filled.{filled_none, filled_next}
use Rattle.transposition.proofs.replace.gathered.Invariants.{row}
use Rattle.transposition.proofs.replace.gathered.Goals as goal

pub loop-k-init : goal.loop-k-init
loop-k-init c = let a = c.args in (omega arith, c.requires, search rules, filled_none (row a.s a.g))

pub with_byte-q-requires : goal.with_byte-q-requires
with_byte-q-requires c = (omega arith, c.loop-k.invariant.3.0)

pub loop-k-preserved : goal.loop-k-preserved
loop-k-preserved c = let a = c.args in
    let l = c.loop-k in
    let next =
    filled_next l.k (row a.s a.g) l.q c.byte_of.result c.with_byte-q.result c.with_byte-q.ensures c.byte_of.ensures l.invariant.3 in
    (omega arith, l.invariant.1, l.invariant.2, next)

pub returns : goal.returns
returns c k h = c.loop-k.invariant.3.1 k (omega arith)
