use native.Mathlib.Nat.{add-sub_cancel}
use native.Mathlib.Numerals.{add-one}
use mathlib.Core.Path.{◌≡◌, sym, ap, ◌∙◌}
use Prim.Native.Nat.{ℕ, suc, ◌+◌, ◌-◌}
use native.Mathlib.Omega.{arith}
use lib.ListN.{get_or}
use Rattle.cycle.specs.Cycle.{return_from, first_return}
use Rattle.cycle.proofs.FirstReturn.{return_none, return_here, return_later}
use Rattle.card_table.proofs.table.first_return.Goals as goal

pub loop-steps-init : goal.loop-steps-init
unfolding first_return
loop-steps-init c = let a = c.args in (
  c.requires.by_index 0 (omega arith),
  omega arith,
  omega arith,
  omega arith,
  ap (λ (d : ℕ). return_from (λ y. get_or a.table.now y 0) d 1 (get_or a.table.now 0 0)) (add-sub_cancel a.size 1),
)

pub loop-steps-preserved : goal.loop-steps-preserved
loop-steps-preserved c = let a = c.args in
    let l = c.loop-steps in
    let f : ℕ → ℕ = λ y. get_or a.table.now y 0 in
    let d : a.size + 1 - l.steps ≡ suc (a.size + 1 - (l.steps + 1)) = omega arith in (
      c.requires.by_index l.x (omega arith),
      omega arith,
      omega arith,
      omega arith,
      ap (λ (t : ℕ). return_from f (a.size + 1 - (l.steps + 1)) t (f l.x)) (add-one l.steps)
          ∙ sym (return_later f (a.size + 1 - (l.steps + 1)) l.steps l.x c.if-x-eq0.false)
          ∙ ap (λ (d : ℕ). return_from f d l.steps l.x) (sym d) ∙ l.invariant.4,
    )

pub returns-then-size-steps : goal.returns-then-size-steps
returns-then-size-steps c = let l = c.loop-steps in
    sym (return_none _ (c.args.size + 1 - l.steps) l.steps l.x (omega arith)) ∙ l.invariant.4

pub returns-then-x-eq0 : goal.returns-then-x-eq0
returns-then-x-eq0 c = let a = c.args in
    let l = c.loop-steps in
    let f : ℕ → ℕ = λ y. get_or a.table.now y 0 in
    let d : a.size + 1 - l.steps ≡ suc (a.size - l.steps) = omega arith in
    sym (ap (λ (d : ℕ). return_from f d l.steps l.x) d ∙ return_here f (a.size - l.steps) l.steps l.x c.if-x-eq0.true) ∙ l.invariant.4
