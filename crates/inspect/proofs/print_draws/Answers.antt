use mathlib.Core.Path.{◌≡◌, refl, sym, ap, ◌∙◌}
use Prim.Native.Nat.{ℕ, suc, ◌+◌, ◌-◌}
use native.Mathlib.Omega.{arith}
use Rattle.cycle.specs.Notation.{iterate}
use Rattle.draws.specs.Calls.{stepped}
use Rattle.inspect.proofs.print_draws.Goals as goal

pub loop-number-init : goal.loop-number-init
unfolding iterate
loop-number-init g c = (omega arith, omega arith, refl, refl)

pub loop-number-preserved : goal.loop-number-preserved
unfolding iterate
loop-number-preserved g c = let a = c.args in
    let l = c.loop-number in
    let e : l.number + 1 - 1 ≡ suc (l.number - 1) = omega arith in
    let drawn = c.print_draw.ensures ∙ ap (stepped a.card.now) l.invariant.3 in
    (omega arith, omega arith, omega arith, drawn ∙ ap (λ (t : ℕ). iterate (stepped a.card.now) t a.state.now) (sym e))

pub returns : goal.returns
unfolding iterate
returns g c = let a = c.args in
    let l = c.loop-number in
    let e : l.number - 1 ≡ 4 = omega arith in
    l.invariant.3 ∙ ap (λ (t : ℕ). iterate (stepped a.card.now) t a.state.now) e
