use mathlib.Core.Path.{◌≡◌, sym, ap, ◌∙◌, subst}
use Prim.Native.Nat.{ℕ, ◌^◌, ◌≤◌, ◌<◌}
use Rattle.std.proofs.lemmas.Result.{err_from_is_err_and}
use Rattle.tsc.specs.Constants.{most_words}
use Rattle.tsc.specs.declared.Card.{Card}
use Rattle.tsc.specs.Step.{entry}
use Rattle.refusals.specs.Refusals.{first_of, told, numbered}
use Rattle.refusals.proofs.Answers.{value_answered, refusal_answered, of_refusal, told_of_value, told_of_refusal, number_nonzero}
use Rattle.card_format.specs.Reading.{card_of, form_checks, SoundForm, reading}
use Rattle.card_format.specs.Verdict.{period_checks, verdict, accepting}
use Rattle.card_format.proofs.Sound.{sound_card}
use Rattle.card_format.proofs.Verdict.{verdict-form, verdict-period, reading-sound, words-sound}
use Rattle.card.proofs.check.accept.Goals as goal
use Rattle.card.proofs.check.accept.Goals.{After-period_refusal, In-Ok}

-- ---- what is known at a place of the code
-- where the reader has values, the card is of sound form, and they are its own
sound : (c : In-Ok) → let card = c.args.card.now in SoundForm card × (c.in-Ok.values ≡ card_of card)
sound c = reading-sound _ c.read-found.ensures c.in-Ok.is

-- and what is told of them is the verdict
judged : (c : After-period_refusal) → told c.period_refusal.result ≡ verdict c.args.card.now
unfolding period_checks
judged c =
    let h = reading-sound _ c.read-found.ensures c.in-Ok.is in
    c.period_refusal.ensures ∙ ap (λ (card : Card). first_of (period_checks card)) h.1 ∙ verdict-period _ h.0

-- ---- the needs
pub period_refusal-requires : goal.period_refusal-requires
period_refusal-requires c = let h = sound c in
    subst (λ (card : Card). (card.words ≤ most_words) × ((y : ℕ) → y < 2 ^ card.words → entry card y < 2 ^ card.words)) (sym h.1)
    (words-sound _ h.0, (sound_card _ h.0).entries)

pub returns-in_err-period_refusal : goal.returns-in_err-period_refusal
unfolding accepting
returns-in_err-period_refusal c = let p = err_from_is_err_and c.from_residual.result c.from_residual.ensures.1 in
    rw (p.1, p.2) (refusal_answered _ _ _ (told_of_refusal (judged (goal.at.returns-in_err-period_refusal c).After-period_refusal) c.in_err-period_refusal.was))

pub returns-in_ok-period_refusal : goal.returns-in_ok-period_refusal
unfolding accepting
returns-in_ok-period_refusal c =
    ap numbered c.in-Ok.is
    ∙ value_answered _ _ _ (told_of_value (judged (goal.at.returns-in_ok-period_refusal c).After-period_refusal) c.in_ok-period_refusal.was)
    (reading-sound _ c.read-found.ensures c.in-Ok.is).1

-- the reader's refusal is the verdict too
pub returns-in_default : goal.returns-in_default
unfolding reading accepting
returns-in_default c =
    let card = c.args.card.now in
    let e = c.in_default.field-0 in
    let form = of_refusal (first_of (form_checks card)) (card_of card) c.read-found.ensures c.in_default.is in
    ap numbered c.in_default.is ∙ refusal_answered _ e _ (sym (verdict-form card (λ z. number_nonzero e (sym form ∙ z))) ∙ form)
