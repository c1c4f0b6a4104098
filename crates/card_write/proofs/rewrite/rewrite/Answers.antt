use Rattle.std.proofs.Common.{sym, ap, ◌∙◌, arith}
use Rattle.std.specs.Prelude.{Err}
use Rattle.std.proofs.lemmas.Result.{err_from_is_err_and}
use Rattle.refusals.specs.Refusals.{first_of}
use Rattle.refusals.proofs.Answers.{of_refusal, number_nonzero}
use Rattle.card_format.specs.Fields.{Bytes}
use Rattle.card_format.specs.Reading.{card_of, form_checks, reading}
use Rattle.card_format.proofs.Verdict.{verdict-form, reading-sound}
use Rattle.card_format.proofs.RoundTrip.{sound-rewriting, verdict-rewriting}
use Rattle.card_write.proofs.rewrite.rewrite.Goals as goal

pub returns-in_err-values : goal.returns-in_err-values
unfolding reading
returns-in_err-values c =
    let bytes = c.args.card.now in
    let p = err_from_is_err_and c.from_residual.result c.from_residual.ensures.1 in
    let e = c.in_err-values.field-0.0 in
    let form = of_refusal (first_of (form_checks bytes)) (card_of bytes) c.read.ensures c.in_err-values.was in
    let judged = sym form ∙ verdict-form bytes (λ z. number_nonzero e (sym form ∙ z)) in
    let h = verdict-rewriting bytes c.args.page.now (λ z. number_nonzero e (judged ∙ z)) in
    rw (p.1, p.2) (record { answer = ap Err judged ∙ sym h.0; after = sym h.1 })

pub returns : goal.returns
returns c =
    let a = c.args in
    let h = reading-sound a.card.now c.read.ensures c.in_ok-values.was in
    let b : Bytes a.card.now = λ i l. omega (arith, c.type_inv.card i) in
    let w = sound-rewriting a.card.now a.page.now b h.0 in
    let e = rw h.1 at c.write.ensures in record { answer = e.value ∙ w.0; after = e.page_after ∙ w.1 }
