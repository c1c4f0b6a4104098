use Rattle.std.proofs.Common.{◌≢◌, ◌≤◌, rules, sym, subst, ◌∙◌, arith}
use Rattle.std.proofs.lemmas.Result.{err_from_is_err_and}
use Rattle.cycle.specs.Cycle.{first_return}
use Rattle.tsc.specs.declared.Card.{Card}
use Rattle.tsc.specs.Constants.{most_words}
use Rattle.tsc.specs.Step.{entry}
use Rattle.card_format.specs.Reading.{card_of, form_checks, reading}
use Rattle.card_format.proofs.Verdict.{reading-sound, words-sound}
use Rattle.refusals.specs.Refusals.{first_of}
use Rattle.refusals.proofs.Answers.{of_refusal, number_nonzero}
use Rattle.diagnoses.proofs.Answers.{form_told}
use Rattle.diagnosis.proofs.Shown.{OfCard, large, fits, below, table, told_sound, told_none, broken, room, shows}
use Rattle.diagnosis.proofs.call.shown.Goals as goal
use Rattle.diagnosis.proofs.call.shown.Goals.{After-entries-size, Else-first_return-size}

-- past the reader the card is of sound form, and its values are known
known : (c : After-entries-size) → OfCard c.args.card.now c.in_ok-found.found c.entries-size.result
known c = let (s, e) = reading-sound _ c.read.ensures c.in_ok-found.was in record { sound = s; read = e; entries = c.entries-size.ensures; long = search rules }

-- and past the test its table is no single cycle
unsound : (c : Else-first_return-size) → first_return (entry c.in_ok-found.found) c.entries-size.result ≢ c.entries-size.result
unsound c e = c.if-first_return-size.false (c.first_return.ensures ∙ e)

pub returns-in_err-found : goal.returns-in_err-found
unfolding reading
returns-in_err-found c =
    let p = err_from_is_err_and c.from_residual.result c.from_residual.ensures.1 in
    let form = of_refusal (first_of (form_checks c.args.card.now)) (card_of c.args.card.now) c.read.ensures c.in_err-found.was in
    rw (p.1, p.2) (record { refusal = sym (form_told _ (λ z. number_nonzero _ (sym form ∙ z)) ∙ form); places = tt })

pub entries-size-requires : goal.entries-size-requires
entries-size-requires c = let (s, e) = reading-sound _ c.read.ensures c.in_ok-found.was in subst (λ (card : Card). card.words ≤ most_words) (sym e) (words-sound _ s)

pub first_return-requires : goal.first_return-requires
first_return-requires c = let o = known (goal.at.first_return-requires c).After-entries-size in
    record { size_nonzero = (omega (arith, large _ _ _ o), fits _ _ _ o); by_index = below _ _ _ o }

pub returns-then-first_return-size : goal.returns-then-first_return-size
returns-then-first_return-size c = let o = known (goal.at.returns-then-first_return-size c).After-entries-size in
    record { refusal = told_sound _ _ _ o (sym c.first_return.ensures ∙ c.if-first_return-size.true); places = tt }

pub shared_ref_as_front-least_set : goal.shared_ref_as_front-least_set
shared_ref_as_front-least_set c = fits _ _ _ (known (goal.at.shared_ref_as_front-least_set c).After-entries-size)

pub least_set-marks-requires : goal.least_set-marks-requires
least_set-marks-requires c = let o = known (goal.at.least_set-marks-requires c).After-entries-size in
    (table _ _ _ o, broken _ _ _ o (unsound (goal.at.least_set-marks-requires c).Else-first_return-size))

pub listed-requires : goal.listed-requires
listed-requires c = let o = known (goal.at.listed-requires c).After-entries-size in
    room _ _ _ o (unsound (goal.at.listed-requires c).Else-first_return-size) c.least_set-marks.result (search rules) c.least_set-marks.ensures

pub returns : goal.returns
returns c = let o = known (goal.at.returns c).After-entries-size in
    let ne = unsound (goal.at.returns c).Else-first_return-size in
    record { refusal = told_none _ _ _ o ne; places = shows _ _ _ o ne c.least_set-marks.result (search rules) c.least_set-marks.ensures _ c.listed.ensures }
