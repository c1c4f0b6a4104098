use mathlib.Core.Path.{◌≡◌, sym, subst}
use Prim.Native.Nat.{ℕ}
use mir.Syntax.{w32}
use mir.Val.{Fits}
use native.Mathlib.Numerals.{add-one}
use native.Mathlib.Omega.{arith}
use borrow.Author.Rules.{rules}
use lib.ListN.{length, get_or}
use Rattle.tie_others.specs.Others.{IsOthers}
use Rattle.tie_others.proofs.Joined.{others-few, others-none, others_next}
use Rattle.tie_others.proofs.others.others_of.Goals as goal

pub loop-j-init : goal.loop-j-init
loop-j-init c = others-none _ _ _ _

pub joined-o-requires : goal.joined-o-requires
joined-o-requires c = let l = c.loop-j in
    let few = others-few _ _ _ _ l.j l.o l.invariant in
    (omega (arith, few.0, c.requires.1), omega (arith, few.1, c.requires.1))

pub loop-j-preserved : goal.loop-j-preserved
loop-j-preserved c = let l = c.loop-j in
    let a = c.args in
    let fits : (k : ℕ) → Fits w32 (get_or a.times.now k 0) = search rules in
    let more = others_next a.shovels.now a.times.now a.i a.y l.j l.o l.invariant (omega (arith, (fits l.j).fits)) in
    subst (λ (n : ℕ). IsOthers a.shovels.now a.times.now a.i a.y n c.joined-o.result) (sym (add-one l.j)) (rw c.joined-o.ensures more)

pub returns : goal.returns
returns c = let l = c.loop-j in
    let a = c.args in
    let e : l.j ≡ length a.times.now = omega arith in
    subst (λ (n : ℕ). IsOthers a.shovels.now a.times.now a.i a.y n l.o) e l.invariant
