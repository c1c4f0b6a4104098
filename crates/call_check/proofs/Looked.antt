-- What a call comes to know when it looks at what was read of a card, and at the state.
use Rattle.std.proofs.Common.{◌≡◌, ◌≢◌, ℕ, List, sym, ap, ◌∙◌}
use Rattle.std.specs.Prelude.{Result, Ok, Err}
use Rattle.tsc.specs.declared.Card.{Card}
use Rattle.refusals.specs.declared.Refusal.{Refusal}
use Rattle.refusals.specs.Refusals.{number, first_of, numbered, told}
use Rattle.refusals.proofs.Answers.{value_answered, of_refusal, told_of_value, told_of_refusal, number_nonzero}
use Rattle.card_format.specs.Reading.{card_of, form_checks, reading}
use Rattle.card_format.specs.Verdict.{period_checks, verdict, accepting}
use Rattle.card_format.proofs.Verdict.{verdict-form, verdict-period, reading-sound}
use Rattle.draws.specs.Calls.{refusal_for}
use Rattle.draws.proofs.Opening.{refusal_card}

-- a refusal that the verdict tells is the call's
of_verdict : (bytes xs : List ℕ) (e : Refusal) → verdict bytes ≡ number e → refusal_for bytes xs ≡ number e
of_verdict bytes xs e v = sym (refusal_card bytes xs (λ z. number_nonzero e (sym v ∙ z))) ∙ v

-- the reader's refusal is the call's
pub by_reader : (bytes xs : List ℕ) {a : Result Card Refusal} {e : Refusal} → numbered a ≡ reading bytes → a ≡ Err e → refusal_for bytes xs ≡ number e
unfolding reading
by_reader bytes xs {e = e} h q =
    let form = of_refusal (first_of (form_checks bytes)) (card_of bytes) h q in
    of_verdict bytes xs e (sym (verdict-form bytes (λ z. number_nonzero e (sym form ∙ z))) ∙ form)

-- where it has values, the periods tell the verdict
module _ (bytes xs : List ℕ) {a : Result Card Refusal} {card : Card} (h : numbered a ≡ reading bytes) (found : a ≡ Ok card) where
  judged : (r : ℕ) → r ≡ first_of (period_checks card) → r ≡ verdict bytes
  unfolding period_checks
  judged r periods = let s = reading-sound bytes h found in periods ∙ ap (λ (c : Card). first_of (period_checks c)) s.1 ∙ verdict-period bytes s.0

  module _ {b : Result (Unit {0}) Refusal} (periods : told b ≡ first_of (period_checks card)) where
    pub by_periods : {e : Refusal} → b ≡ Err e → refusal_for bytes xs ≡ number e
    by_periods {e} q = of_verdict bytes xs e (told_of_refusal (judged _ periods) q)

    -- and where they have no refusal, the card is accepted
    pub accepted : {u : Unit {0}} → b ≡ Ok u → numbered a ≡ accepting bytes
    unfolding accepting
    accepted q = ap numbered found ∙ value_answered _ _ _ (told_of_value (judged _ periods) q) (reading-sound bytes h found).1
