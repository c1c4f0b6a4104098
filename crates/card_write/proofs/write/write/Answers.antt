use Rattle.std.proofs.Common.{◌≡◌, ◌≤◌, ◌<◌, length, sym, ap, ◌∙◌, arith}
use Rattle.std.specs.Prelude.{Ok}
use Rattle.std.proofs.lemmas.Result.{err_from_is_err_and}
use borrow.Author.Tests.{lt-ltb, le-ltb}
use Rattle.refusals.specs.Refusals.{first_of}
use Rattle.refusals.proofs.Answers.{told_of_value, told_of_refusal, number_nonzero}
use Rattle.card_format.specs.Writing.{written, value_checks}
use Rattle.card_format.proofs.Writing.{range_words, value_told, room_told, value_range, writing-refused, writing_done}
use Rattle.card_write.proofs.write.write.Goals as goal
use Rattle.card_write.proofs.write.write.Goals.{In_ok-value_refusal}

-- past the first test the values are fine
fine : (c : In_ok-value_refusal) → first_of (value_checks c.args.card) ≡ 0
fine c = told_of_value c.value_refusal.ensures c.in_ok-value_refusal.was

pub returns-in_err-value_refusal : goal.returns-in_err-value_refusal
returns-in_err-value_refusal c =
    let a = c.args in
    let p = err_from_is_err_and c.from_residual.result c.from_residual.ensures.1 in
    let e = c.in_err-value_refusal.field-0.0 in
    let t = told_of_refusal c.value_refusal.ensures c.in_err-value_refusal.was in
    let (v, after) = writing-refused a.card a.page.now _ (number_nonzero e) (value_told a.card (length a.page.now) (λ z. number_nonzero e (sym t ∙ z)) ∙ t) in
    rw (p.1, p.2) (record { value = v; page_after = after })

pub outline_of-o-requires : goal.outline_of-o-requires
outline_of-o-requires c = range_words _ (value_range _ (fine c))

pub returns-then-page-o : goal.returns-then-page-o
returns-then-page-o c =
    let a = c.args in
    let small : length a.page.now < length (written a.card) = omega (arith, c.if-page-o.true, c.outline_of-o.ensures.length_value) in
    let (v, after) = writing-refused a.card a.page.now 16 (λ e. absurd (omega arith)) (room_told a.card _ (fine (goal.at.returns-then-page-o c).In_ok-value_refusal) ∙ simp (lt-ltb _ _ small)) in
    record { value = v; page_after = after }

pub put_card-requires : goal.put_card-requires
put_card-requires c = record {
  card_value = (value_range _ (fine (goal.at.put_card-requires c).In_ok-value_refusal), c.outline_of-o.ensures.map_value);
  card_in_bounds = omega (arith, c.if-page-o.false, c.outline_of-o.ensures.length_value);
}

pub returns : goal.returns
returns c =
    let a = c.args in
    let room : length (written a.card) ≤ length a.page.now = omega (arith, c.if-page-o.false, c.outline_of-o.ensures.length_value) in
    let (v, after) = writing_done a.card a.page.now (room_told a.card _ (fine (goal.at.returns c).In_ok-value_refusal) ∙ simp (le-ltb _ _ room)) in
    record { value = ap Ok c.outline_of-o.ensures.length_value ∙ v; page_after = c.put_card.ensures ∙ after }
