use Rattle.std.proofs.Common.{sym}
use Rattle.std.proofs.lemmas.Result.{err_from_is_err_and}
use Rattle.tsc.specs.Coverage.{step_back}
use Rattle.card_format.specs.Reading.{card_of}
use Rattle.draws.specs.Calls.{stepped_back}
use Rattle.draws.proofs.Opening.{Clear}
use Rattle.call_check.proofs.Checked.{look_refused, look_clear}
use Rattle.draws.proofs.Called.{left, few, accepted, ready, step_back_made}
use Rattle.stepping.proofs.Columns.{sized, cycled}
use Rattle.generator.proofs.call.step_back.Goals as goal
use Rattle.generator.proofs.call.step_back.Goals.{In_ok-values}

-- nothing is refused, and the values are the card's
passing : (c : In_ok-values) → Clear c.args.card.now c.args.state.now c.in_ok-values.values.now
passing c = look_clear c.args.card.now c.args.state.now (c.look.ensures _ c.read-found.ensures) c.in_ok-values.was

pub returns-in_err-values-clause-answer : goal.returns-in_err-values-clause-answer
returns-in_err-values-clause-answer c = let p = err_from_is_err_and c.from_residual.result c.from_residual.ensures.1 in
    rw (p.1, p.2) (sym (look_refused c.args.card.now c.args.state.now (c.look.ensures _ c.read-found.ensures) c.in_err-values.was))

pub returns-in_err-values-clause-after : goal.returns-in_err-values-clause-after
unfolding stepped_back
returns-in_err-values-clause-after c = left _ _ (step_back (card_of c.args.card.now) c.args.state.now) c.in_err-values.field-0.0 (look_refused c.args.card.now c.args.state.now (c.look.ensures _ c.read-found.ensures) c.in_err-values.was)

pub load-held-requires : goal.load-held-requires
load-held-requires c = few (passing c)

pub terms_of-terms-requires : goal.terms_of-terms-requires
terms_of-terms-requires c = sized c.in_ok-values.values.now (accepted (passing (goal.at.terms_of-terms-requires c).In_ok-values))

pub backward-p-requires : goal.backward-p-requires
backward-p-requires c = cycled c.in_ok-values.values.now (accepted (passing (goal.at.backward-p-requires c).In_ok-values))

pub previous_state-previous-requires : goal.previous_state-previous-requires
previous_state-previous-requires c = let k = passing (goal.at.previous_state-previous-requires c).In_ok-values in
    record { accepted = accepted k; holds = ready k c.load-held.ensures; selects = c.terms_of-terms.ensures; first = c.backward-p.ensures.0; second = c.backward-p.ensures.1 }

pub returns : goal.returns
returns c =
    let made = step_back_made (passing (goal.at.returns c).In_ok-values) c.load-held.ensures c.previous_state-previous.ensures c.store.ensures in
    record { answer = made.0; after = made.1.0; only = made.1.1 }
