-- THE STEP BACK. Where the premises of coverage hold: step of step back is the state, step back of step is the state, and no other state has the given
-- one as its step.
use mathlib.Core.Path.{◌≡◌, refl, sym, ap, ◌∙◌}
use mathlib.Core.List.{List}
use Prim.Native.Nat.{ℕ, suc, ◌-◌, ◌*◌, ◌<◌}
use native.Mathlib.Decide.{dec_lt}
use native.Mathlib.Omega.{arith}
use lib.Pow.{pow_pos}
use Rattle.cycle.specs.Notation.{iterate}
use Rattle.tsc.specs.declared.Card.{Card}
use Rattle.tsc.specs.Step.{step, orbit}
use Rattle.tsc.specs.Coverage.{IsState, states, step_back, Covers, WellFormed, FullPeriod}
use Rattle.tsc.proofs.Step.{step_in_range, orbit_in_range}
use Rattle.tsc.proofs.Coverage.{period_covers}

pub step_back_in_range : (card : Card) (xs : List ℕ) → IsState card xs → IsState card (step_back card xs)
unfolding step_back
step_back_in_range card xs sx = orbit_in_range card xs sx (states card - 1)

module _ (card : Card) (wf : WellFormed card) (ok : FullPeriod card) where
  last : suc (states card - 1) ≡ states card
  last = omega (arith, pow_pos (card.words * card.width))

  pub step_of_back_lem : (xs : List ℕ) → IsState card xs → step card (step_back card xs) ≡ xs
  unfolding iterate step_back
  step_of_back_lem xs sx = ap (orbit card xs) last ∙ (period_covers card wf ok xs sx).returns

  pub back_only : (xs ys : List ℕ) → IsState card xs → IsState card ys → step card xs ≡ ys → xs ≡ step_back card ys
  unfolding iterate step_back
  back_only xs ys sx sy e =
      let c = period_covers card wf ok ys sy in
      let r = c.once xs sx in
      go c r.0 r.1 r.2 (dec_lt (suc r.0) (states card))
    where
      go : Covers card ys → (t : ℕ) → t < states card → orbit card ys t ≡ xs → Dec (suc t < states card) → xs ≡ orbit card ys (states card - 1)
      go c t l h (yes d) =
          let w = c.once ys sy in
          let a : suc t ≡ w.0 = w.3 (suc t) d (ap (step card) h ∙ e) in
          let b : 0 ≡ w.0 = w.3 0 (pow_pos (card.words * card.width)) refl in
          absurd (omega arith)
      go c t l h (no d) =
          let q : t ≡ states card - 1 = omega arith in
          sym h ∙ ap (orbit card ys) q

  pub back_of_step_lem : (xs : List ℕ) → IsState card xs → step_back card (step card xs) ≡ xs
  back_of_step_lem xs sx = sym (back_only xs (step card xs) sx (step_in_range card xs) refl)
