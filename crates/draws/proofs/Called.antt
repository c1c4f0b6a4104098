-- What the calls promise, from what they begin with: the state moved by a map of states to states, or a refusal and the state as lent.
use mathlib.Core.Path.{◌≡◌, sym, ap, ap₂, ◌∙◌, subst}
use mathlib.Core.List.{List}
use Prim.Native.Nat.{ℕ, zero, ◌^◌, ◌≤◌, ◌<◌}
use native.Mathlib.Omega.{arith}
use lib.ListN.{length, take}
use Rattle.tsc.specs.declared.Card.{Card}
use Rattle.tsc.specs.declared.State.{State}
use Rattle.tsc.specs.Constants.{most_words}
use Rattle.tsc.specs.Coverage.{IsState, step_back}
use Rattle.tsc.specs.Step.{step}
use Rattle.tsc.specs.Word.{word}
use Rattle.tsc.proofs.Step.{step_in_range}
use Rattle.tsc.proofs.StepBack.{step_back_in_range, back_of_step_lem, step_of_back_lem, back_only}
use Rattle.tsc.proofs.Word.{word_lt}
use Rattle.card_format.specs.Reading.{card_of}
use Rattle.card_format.specs.Verdict.{Accepted}
use Rattle.cycle.proofs.Lists.{take-filled}
use Rattle.card_format.proofs.Verdict.{accepted_card}
use Rattle.std.specs.Prelude.{Result, Ok, Err}
use Rattle.refusals.specs.declared.Refusal.{Refusal}
use Rattle.refusals.specs.Refusals.{number, numbered}
use Rattle.refusals.proofs.Answers.{value_answered, refusal_answered, number_nonzero}
use Rattle.stepping.specs.State.{used, Holds, holding}
use Rattle.stepping.proofs.Holding.{held, holds}
use Rattle.draws.specs.Calls.{refusal_for, unless_refused, stepped, stepped_back, OnlyBefore, drawing}
use Rattle.draws.proofs.Opening.{Clear, passed, unless_refused_lem, unless_passed}

-- the step back of an accepted card is the one state before
pub only-before : (card : Card) → Accepted card → (xs : List ℕ) → IsState card xs → OnlyBefore card (step_back card xs) xs
only-before card ok xs sx = (
  step_back_in_range card xs sx,
  step_of_back_lem card ok.formed ok.period xs sx,
  λ zs sz. back_only card ok.formed ok.period zs xs sz sx,
)

-- a refused call leaves the state as lent
pub left : (bytes xs ys : List ℕ) (e : Refusal) → refusal_for bytes xs ≡ number e → xs ≡ unless_refused bytes xs ys
left bytes xs ys e r = unless_refused_lem bytes xs ys (λ z. number_nonzero e (sym r ∙ z))

-- a state as it is stored over n lent words
pub stored : (card : Card) (n : ℕ) (ys : List ℕ) (s : State) → n ≡ card.words → IsState card ys → s ≡ holding ys → take n s.words ≡ ys
stored card n ys s e sy h = ap (λ (s : State). take n s.words) h ∙ take-filled most_words n ys (sy.0 ∙ sym e)

-- ---- a call that is not refused

module _ {bytes xs : List ℕ} {card : Card} (k : Clear bytes xs card) where
  taken : Accepted (card_of bytes)
  taken = accepted_card bytes (passed bytes xs k.none).0

  pub in_range : IsState (card_of bytes) xs
  in_range = (passed bytes xs k.none).1

  pub few : length xs ≤ most_words
  few = omega (arith, in_range.0, taken.few)

  pub accepted : Accepted card
  accepted = rw k.card_is taken

  module _ {s : State} (e : s ≡ holding xs) where
    pub ready : Holds card s
    ready = rw (k.card_is, e) (holds (card_of bytes) xs in_range)

    -- what is worked out from the values is worked out from the card's bytes and the lent words
    pub of_values : {A : Type 0} (f : Card → List ℕ → A) → f card (used card s) ≡ f (card_of bytes) xs
    of_values f = ap₂ f k.card_is (ap₂ used k.card_is e ∙ held (card_of bytes) xs in_range)

  -- what step and step back promise of the words ys that they leave, once s is worked out from the values and stored
  pub step_made : {lent s : State} {ys : List ℕ} → lent ≡ holding xs → s ≡ holding (step card (used card lent)) → ys ≡ take (length xs) s.words
      → (0 ≡ refusal_for bytes xs) × ((ys ≡ stepped bytes xs) × (zero ≡ 0 → IsState (card_of bytes) ys × (step_back (card_of bytes) ys ≡ xs)))
  unfolding stepped
  step_made {lent} {s} {ys} el h e =
      let card = card_of bytes in
      let state = step_in_range card xs in
      let made = h ∙ of_values el (λ c w. holding (step c w)) in
      let exit : ys ≡ step card xs = e ∙ stored card (length xs) (step card xs) s in_range.0 state made in (
        sym k.none,
        (
          exit ∙ unless_passed bytes xs (step card xs) k.none,
          λ _. (subst (IsState card) (sym exit) state, ap (step_back card) exit ∙ back_of_step_lem card taken.formed taken.period xs in_range),
        ),
      )

  pub step_back_made : {lent s : State} {ys : List ℕ} → lent ≡ holding xs → s ≡ holding (step_back card (used card lent)) → ys ≡ take (length xs) s.words
      → (0 ≡ refusal_for bytes xs) × ((ys ≡ stepped_back bytes xs) × (zero ≡ 0 → OnlyBefore (card_of bytes) ys xs))
  unfolding stepped_back
  step_back_made {lent} {s} {ys} el h e =
      let card = card_of bytes in
      let before = only-before card taken xs in_range in
      let made = h ∙ of_values el (λ c w. holding (step_back c w)) in
      let exit : ys ≡ step_back card xs = e ∙ stored card (length xs) (step_back card xs) s in_range.0 before.0 made in
      (sym k.none, (exit ∙ unless_passed bytes xs (step_back card xs) k.none, λ _. subst (λ (ys : List ℕ). OnlyBefore card ys xs) (sym exit) before))

-- ---- the word of a draw's answer

narrow-word : (card : Card) (xs : List ℕ) (v w : ℕ) → v ≡ word card xs → ◌≡◌ {A = Result ℕ Refusal} (Ok v) (Ok w) → w < 2 ^ card.width
narrow-word card xs v w e h =
    let same : word card xs ≡ w = cc in
    rw same at (word_lt card xs)

pub drawing-refused : (bytes xs : List ℕ) (e : Refusal) → refusal_for bytes xs ≡ number e → numbered (Err e) ≡ drawing bytes xs
unfolding drawing
drawing-refused bytes xs e r = refusal_answered _ e _ r

pub drawing-word : (bytes xs : List ℕ) (w : ℕ) → w ≡ word (card_of bytes) (step (card_of bytes) xs) → refusal_for bytes xs ≡ 0 → numbered (Ok w) ≡ drawing bytes xs
unfolding drawing
drawing-word bytes xs w e z = value_answered _ w _ z e

-- ---- what a draw promises of its answer and of the words ys that it leaves

pub draw_made : {bytes xs : List ℕ} {card : Card} → Clear bytes xs card → {v : ℕ} {lent s : State} {ys : List ℕ} → lent ≡ holding xs → let next = step card (used card lent) in
    v ≡ word card next → s ≡ holding next → ys ≡ take (length xs) s.words
    → (numbered (Ok v) ≡ drawing bytes xs) × ((ys ≡ stepped bytes xs) × ((w : ℕ) → ◌≡◌ {A = Result ℕ Refusal} (Ok v) (Ok w) → w < 2 ^ (card_of bytes).width))
draw_made {bytes} {xs} k {v} el ev es ey =
    let card = card_of bytes in
    let drawn : v ≡ word card (step card xs) = ev ∙ of_values k el (λ c w. word c (step c w)) in
    (drawing-word bytes xs v drawn k.none, ((step_made k el es ey).1.0, λ w h. narrow-word card (step card xs) v w drawn h))
