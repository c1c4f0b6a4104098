use mathlib.Core.Path.{◌≡◌, ap}
use Prim.Native.Nat.{◌+◌, ◌≤◌}
use native.Mathlib.Omega.{arith}
use borrow.Author.Rules.{rules}
use lib.ListN.{length, length-drop}
use Rattle.std.proofs.lemmas.Result.{err_from_is_err_and}
use Rattle.cycle.proofs.Lists.{part_rest}
use Rattle.refusals.specs.Refusals.{first_of}
use Rattle.refusals.proofs.Answers.{told_of_value, told_of_refusal}
use Rattle.draws.proofs.Opening.{Clear}
use Rattle.call_check.proofs.Checked.{look_refused, look_clear}
use Rattle.draws.proofs.Called.{few, accepted, ready}
use Rattle.spans.specs.Span.{span_checks}
use Rattle.spans.proofs.Span.{span_within}
use Rattle.gates.proofs.GateStep.{only-p1}
use Rattle.fills.proofs.Filling.{refused_call, refused_span, made}
use Rattle.fill.proofs.call.fill.Goals as goal
use Rattle.fill.proofs.call.fill.Goals.{In_ok-span_refusal, In_ok-values}

-- past the first test neither card nor state is refused, and the values are the card's
passing : (c : In_ok-values) → Clear c.args.card.now c.args.state.now c.in_ok-values.values.now
passing c = look_clear _ _ (c.look.ensures _ c.read-found.ensures) c.in_ok-values.was

-- past the second the span is not
fits : (c : In_ok-span_refusal) → let a = c.args in first_of (span_checks (length a.strip.now) a.place a.count) ≡ 0
fits c = told_of_value c.span_refusal.ensures c.in_ok-span_refusal.was

inside : (c : In_ok-span_refusal) → let a = c.args in a.place + a.count ≤ length a.strip.now
inside c = span_within _ _ _ (fits c)

pub returns-in_err-values : goal.returns-in_err-values
returns-in_err-values c = let p = err_from_is_err_and c.from_residual.result c.from_residual.ensures.1 in
    let told = refused_call _ _ _ _ _ c.in_err-values.field-0.0 (look_refused c.args.card.now c.args.state.now (c.look.ensures _ c.read-found.ensures) c.in_err-values.was) in
    rw (p.1, p.2) (record { answer = told.0; words = told.1.0; after = told.1.1 })

pub returns-in_err-span_refusal : goal.returns-in_err-span_refusal
returns-in_err-span_refusal c = let p = err_from_is_err_and c.from_residual-in_err-span_refusal.result c.from_residual-in_err-span_refusal.ensures.1 in
    let told = refused_span _ _ _ _ _ (passing (goal.at.returns-in_err-span_refusal c).In_ok-values) c.in_err-span_refusal.field-0.0
    (told_of_refusal c.span_refusal.ensures c.in_err-span_refusal.was) in
    rw (p.1, p.2) (record { answer = told.0; words = told.1.0; after = told.1.1 })

pub load-held-requires : goal.load-held-requires
load-held-requires c = few (passing (goal.at.load-held-requires c).In_ok-values)

pub offset_bounds-strip-place : goal.offset_bounds-strip-place
offset_bounds-strip-place c = omega (arith, inside (goal.at.offset_bounds-strip-place c).In_ok-span_refusal)

pub slice_bounds-fill_words-count : goal.slice_bounds-fill_words-count
slice_bounds-fill_words-count c = omega (arith, inside (goal.at.slice_bounds-fill_words-count c).In_ok-span_refusal)

pub slice_bounds-fill_words-start : goal.slice_bounds-fill_words-start
slice_bounds-fill_words-start c = let h = inside (goal.at.slice_bounds-fill_words-start c).In_ok-span_refusal in search rules

pub fill_words-last-requires : goal.fill_words-last-requires
fill_words-last-requires c = let k = passing (goal.at.fill_words-last-requires c).In_ok-values in
    let a = c.args in (
      accepted k,
      ready k c.load-held.ensures,
      omega (arith, inside (goal.at.fill_words-last-requires c).In_ok-span_refusal, ap length (part_rest a.place a.strip.now), length-drop a.place a.strip.now),
      only-p1 _ _ _ k.card_is c.is_tsc1-is_tsc1.ensures,
    )

pub returns : goal.returns
returns c =
    let told = made _ _ _ _ _ (passing (goal.at.returns c).In_ok-values) (fits (goal.at.returns c).In_ok-span_refusal) c.load-held.ensures c.fill_words-last.ensures.value c.fill_words-last.ensures.words_after c.store.ensures in
    record { answer = told.0; words = told.1.0; after = told.1.1 }
