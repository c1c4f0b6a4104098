-- What the checks of a call come to: a refusal, or an accepted card and a state of its size.
use mathlib.Core.Path.{◌≡◌, sym, ap, ◌∙◌}
use mathlib.Core.Logic.{◌≢◌}
use mathlib.Core.List.{List, ◌++◌}
use Prim.Native.Nat.{ℕ, ◌^◌}
use native.Mathlib.Omega.{arith}
use borrow.Author.Tests.{eq-eqb, ne_eqb, eqb-true, lt-ltb, ltb-true, not-false}
use lib.Dec.{eqb, ltb}
use lib.ListN.{length, get_or}
use Rattle.cycle.proofs.Every.{every_at, every_of}
use Rattle.tsc.specs.declared.Card.{Card}
use Rattle.tsc.specs.Coverage.{IsState}
use Rattle.std.specs.Prelude.{Result, Ok, Err}
use Rattle.refusals.specs.declared.Refusal.{Refusal}
use Rattle.refusals.specs.Refusals.{number, first_of, NoneApplies, numbered, told}
use Rattle.refusals.proofs.Answers.{of_refusal, told_of_value, told_of_refusal, number_nonzero}
use Rattle.card_format.proofs.Verdict.{accepting-passed}
use Rattle.card_format.specs.Reading.{card_of}
use Rattle.card_format.specs.Verdict.{card_checks, verdict, accepting}
use Rattle.refusals.proofs.Refusals.{first-none, none_first, first_right, first-left, none_left, none_right}
use Rattle.state_words.specs.Checks.{state_checks}
use Rattle.draws.specs.Calls.{refusal_for, unless_refused}

-- what a call goes on with once nothing is refused: the values of the card
pub record Clear (bytes xs : List ℕ) (card : Card) : Type 0 where
  pub none : refusal_for bytes xs ≡ 0
  pub card_is : card ≡ card_of bytes

module _ (bytes xs : List ℕ) where
  pub refusal_card : verdict bytes ≢ 0 → verdict bytes ≡ refusal_for bytes xs
  unfolding verdict refusal_for
  refusal_card ne = sym (first-left (card_checks bytes) (state_checks (card_of bytes).words (card_of bytes).width xs) ne)

  pub refusal-state : verdict bytes ≡ 0 → first_of (state_checks (card_of bytes).words (card_of bytes).width xs) ≡ refusal_for bytes xs
  unfolding verdict refusal_for
  refusal-state z = sym (first_right (card_checks bytes) (state_checks (card_of bytes).words (card_of bytes).width xs) z)

  -- no refusal: the card is accepted and the words are a state of its size
  pub passed : refusal_for bytes xs ≡ 0 → (verdict bytes ≡ 0) × IsState (card_of bytes) xs
  unfolding verdict refusal_for state_checks NoneApplies
  passed z =
      let n : ℕ = (card_of bytes).width in
      let none = none_first (card_checks bytes ++ state_checks (card_of bytes).words (card_of bytes).width xs) z in
      let state = none_right (card_checks bytes) (state_checks (card_of bytes).words (card_of bytes).width xs) none in
      let size : length xs ≡ (card_of bytes).words = eqb-true (length xs) (card_of bytes).words (not-false _ state.0) in (
        first-none (card_checks bytes) (none_left (card_checks bytes) (state_checks (card_of bytes).words (card_of bytes).width xs) none),
        (size, λ k l. ltb-true (get_or xs k 0) (2 ^ n) (every_at (length xs) (λ k. ltb (get_or xs k 0) (2 ^ n)) (not-false _ state.1.0) k (omega arith))),
      )

  -- and the other way round
  pub passes : verdict bytes ≡ 0 → IsState (card_of bytes) xs → refusal_for bytes xs ≡ 0
  unfolding state_checks NoneApplies
  passes z sx =
      let n : ℕ = (card_of bytes).width in
      sym (refusal-state z)
      ∙ first-none (state_checks (card_of bytes).words (card_of bytes).width xs) (
        simp (eq-eqb (length xs) (card_of bytes).words sx.0),
        (simp (every_of (length xs) (λ k. ltb (get_or xs k 0) (2 ^ n)) (λ k l. lt-ltb (get_or xs k 0) (2 ^ n) (sx.1 k (omega (arith, sx.0))))), tt),
      )

  -- what a call tells once the card is refused
  pub told_by_card : {a : Result Card Refusal} {e : Refusal} → numbered a ≡ accepting bytes → a ≡ Err e → refusal_for bytes xs ≡ number e
  unfolding accepting
  told_by_card {e = e} h q =
      let r = of_refusal (verdict bytes) (card_of bytes) h q in
      sym (refusal_card (λ z. number_nonzero e (sym r ∙ z))) ∙ r

  -- and once the card is accepted and the state is checked against its values: the state's refusal, or that there is none
  module _ {a : Result Card Refusal} {card : Card} (h : numbered a ≡ accepting bytes) (found : a ≡ Ok card) where
    told_state : (r : ℕ) → r ≡ first_of (state_checks card.words card.width xs) → r ≡ refusal_for bytes xs
    told_state r checked =
        let p = accepting-passed bytes h found in
        checked ∙ ap (λ (card : Card). first_of (state_checks card.words card.width xs)) p.1 ∙ refusal-state p.0

    module _ {b : Result (Unit {0}) Refusal} (checked : told b ≡ first_of (state_checks card.words card.width xs)) where
      pub told_by_state : {e : Refusal} → b ≡ Err e → refusal_for bytes xs ≡ number e
      told_by_state q = told_of_refusal (told_state _ checked) q

      -- where there is none, the card's values are those found
      pub clear : {u : Unit {0}} → b ≡ Ok u → Clear bytes xs card
      clear q = record { none = told_of_value (told_state _ checked) q; card_is = (accepting-passed bytes h found).1 }

  pub unless_refused_lem : (ys : List ℕ) → refusal_for bytes xs ≢ 0 → xs ≡ unless_refused bytes xs ys
  unless_refused_lem ys ne = simp (ne_eqb (refusal_for bytes xs) 0 ne)

  pub unless_passed : (ys : List ℕ) → refusal_for bytes xs ≡ 0 → ys ≡ unless_refused bytes xs ys
  unless_passed ys z = simp (eq-eqb (refusal_for bytes xs) 0 z)
