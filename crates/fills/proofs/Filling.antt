-- What the checks of a fill come to, and its strip and state words then.
use mathlib.Core.Path.{◌≡◌, refl, sym, ap, ◌∙◌}
use mathlib.Core.Logic.{◌≢◌}
use mathlib.Core.List.{List, ◌++◌}
use Prim.Native.Nat.{ℕ, ◌+◌, ◌-◌, ◌≤◌}
use borrow.Author.Tests.{ne_eqb}
use lib.ListN.{length, take, drop}
use Rattle.tsc.specs.declared.State.{State}
use Rattle.tsc.specs.Step.{orbit}
use Rattle.tsc.specs.Word.{orbit_words}
use Rattle.tsc.proofs.Step.{orbit_in_range}
use Rattle.tsc.proofs.Word.{length-orbit_words}
use Rattle.refusals.specs.declared.Refusal.{Refusal}
use Rattle.refusals.specs.Refusals.{number, first_of}
use Rattle.refusals.proofs.Answers.{number_nonzero}
use Rattle.refusals.proofs.Refusals.{first-left, first_right, first_both}
use Rattle.card_format.specs.Reading.{card_of}
use Rattle.cycle.proofs.Lists.{put_part}
use Rattle.stepping.specs.State.{used, holding}
use Rattle.tsc.specs.declared.Card.{Card}
use Rattle.draws.specs.Calls.{call_checks, refusal_for}
use Rattle.draws.proofs.Opening.{Clear, passed}
use Rattle.draws.proofs.Called.{of_values, stored}
use Rattle.spans.specs.Span.{span_checks}
use Rattle.spans.proofs.Span.{span_within}
use Rattle.fills.specs.Fills.{fill_refusal, filled, filled_state}

module _ (bytes xs strip : List ℕ) (place count : ℕ) where
  pub refusal_call : refusal_for bytes xs ≢ 0 → refusal_for bytes xs ≡ fill_refusal bytes xs strip place count
  unfolding refusal_for fill_refusal
  refusal_call ne = sym (first-left (call_checks bytes xs) (span_checks (length strip) place count) ne)

  pub refusal_span : refusal_for bytes xs ≡ 0 → first_of (span_checks (length strip) place count) ≡ fill_refusal bytes xs strip place count
  unfolding refusal_for fill_refusal
  refusal_span z = sym (first_right (call_checks bytes xs) (span_checks (length strip) place count) z)

  -- no refusal: the call's checks are passed, and the span is in the strip
  pub fill_passed : fill_refusal bytes xs strip place count ≡ 0 → (refusal_for bytes xs ≡ 0) × (place + count ≤ length strip)
  unfolding refusal_for fill_refusal
  fill_passed z = let b = first_both (call_checks bytes xs) (span_checks (length strip) place count) z in (b.0, span_within (length strip) place count b.1)

  -- what a fill promises of its answer r, of the strip ws and of the state words ys that it leaves
  abbrev pub Promised : ℕ → List ℕ → List ℕ → Type 0
  Promised r ws ys =
      (r ≡ fill_refusal bytes xs strip place count) × ((ws ≡ filled bytes xs strip place count) × (ys ≡ filled_state bytes xs strip place count))

  pub promised_refused : (r : ℕ) → r ≢ 0 → r ≡ fill_refusal bytes xs strip place count → Promised r strip xs
  unfolding filled filled_state
  promised_refused r ne e = (e, rw (sym e) (simp (ne_eqb r 0 ne), simp (ne_eqb r 0 ne)))

  -- A REFUSAL LEAVES STRIP AND STATE AS LENT
  pub fill_refused : fill_refusal bytes xs strip place count ≢ 0 → (filled bytes xs strip place count ≡ strip) × (filled_state bytes xs strip place count ≡ xs)
  fill_refused ne = let p = promised_refused _ ne refl in (sym p.1.0, sym p.1.1)

  pub promised_passed : fill_refusal bytes xs strip place count ≡ 0
      → Promised 0 (take place strip ++ orbit_words (card_of bytes) xs count ++ drop (place + count) strip) (orbit (card_of bytes) xs count)
  unfolding filled filled_state
  promised_passed z = rw z (refl, (refl, refl))

  -- refused by the card or the state, and by the span
  pub refused_call : (e : Refusal) → refusal_for bytes xs ≡ number e → Promised (number e) strip xs
  refused_call e r = promised_refused _ (number_nonzero e) (sym r ∙ refusal_call (λ z. number_nonzero e (sym r ∙ z)))

  pub refused_span : {card : Card} → Clear bytes xs card → (e : Refusal) → first_of (span_checks (length strip) place count) ≡ number e → Promised (number e) strip xs
  refused_span k e r = promised_refused _ (number_nonzero e) (sym r ∙ refusal_span k.none)

  -- not refused: the part of the strip from the place on has come back with the words at its front, and the last state is stored
  module _ {given : Card} (k : Clear bytes xs given) (z : first_of (span_checks (length strip) place count) ≡ 0) where
    pub made : {lent s : State} {part ys : List ℕ} → lent ≡ holding xs → let held = used given lent in
        s ≡ holding (orbit given held count)
        → part ≡ orbit_words given held count ++ drop count (take (length strip - place) (drop place strip))
        → ys ≡ take (length xs) s.words
        → Promised 0 (take place strip ++ (part ++ drop (length strip - place) (drop place strip))) ys
    made {lent} {s} {part} {ys} el es ep ey =
        let card = card_of bytes in
        let done = promised_passed (sym (refusal_span k.none) ∙ z) in
        let words = orbit_words card xs count in
        let sx = (passed bytes xs k.none).1 in
        let state = es ∙ of_values k el (λ c w. holding (orbit c w count)) in
        let back : List ℕ → List ℕ = λ p. take place strip ++ (p ++ drop (length strip - place) (drop place strip)) in
        let part-is = ep ∙ of_values k el (λ c w. orbit_words c w count ++ drop count (take (length strip - place) (drop place strip))) in
        let size = length-orbit_words card xs count in
        let whole = ap back (part-is ∙ ap (λ (n : ℕ). words ++ drop n (take (length strip - place) (drop place strip))) (sym size))
        ∙ put_part strip words place ∙ ap (λ (n : ℕ). take place strip ++ words ++ drop (place + n) strip) size in
        (done.0, (whole ∙ done.1.0, ey ∙ stored card (length xs) (orbit card xs count) s sx.0 (orbit_in_range card xs sx count) state ∙ done.1.1))
