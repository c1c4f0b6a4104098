use mathlib.Core.Path.{◌≡◌, refl, sym, ap, ◌∙◌}
use Prim.Native.Nat.{ℕ, suc, ◌+◌}
use Rattle.cycle.specs.Notation.{iterate}
use Rattle.draws.specs.Calls.{stepped}
use native.Mathlib.Omega.{arith}
use Rattle.case_words.proofs.row.print_draws.Goals as goal

pub loop-k-init : goal.loop-k-init
unfolding iterate
loop-k-init g c = (omega arith, refl, refl)

pub loop-k-preserved : goal.loop-k-preserved
unfolding iterate
loop-k-preserved g c = let a = c.args in
    let l = c.loop-k in
    let e : l.k + 1 ≡ suc l.k = omega arith in
    let drawn = c.print_next.ensures ∙ ap (stepped a.card.now) l.invariant.2 in
    (omega arith, omega arith, drawn ∙ ap (λ (t : ℕ). iterate (stepped a.card.now) t a.state.now) (sym e))

pub returns : goal.returns
returns g c = let a = c.args in
    let l = c.loop-k in
    let e : l.k ≡ a.count = omega arith in
    l.invariant.2 ∙ ap (λ (t : ℕ). iterate (stepped a.card.now) t a.state.now) e
