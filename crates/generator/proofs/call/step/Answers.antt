use Rattle.std.proofs.Common.{sym}
use Rattle.std.proofs.lemmas.Result.{err_from_is_err_and}
use Rattle.tsc.specs.Step.{step}
use Rattle.card_format.specs.Reading.{card_of}
use Rattle.draws.specs.Calls.{stepped}
use Rattle.draws.proofs.Opening.{Clear}
use Rattle.call_check.proofs.Checked.{look_refused, look_clear}
use Rattle.draws.proofs.Called.{left, few, accepted, ready, step_made}
use Rattle.stepping.specs.State.{Steps}
use Rattle.stepping.proofs.Columns.{sized, cycled, terms_width}
use Rattle.generator.proofs.Found.{clear_tsc1}
use Rattle.generator.proofs.call.step.Goals as goal
use Rattle.generator.proofs.call.step.Goals.{After-forward-p, In_ok-values}

-- nothing is refused, and the values are the card's
passing : (c : In_ok-values) → Clear c.args.card.now c.args.state.now c.in_ok-values.values.now
passing c = look_clear c.args.card.now c.args.state.now (c.look.ensures _ c.read-found.ensures) c.in_ok-values.was

-- what the step asks for
steps : (c : After-forward-p) → Steps c.in_ok-values.values.now c.terms_of-terms.result c.forward-p.result.odd c.forward-p.result.even c.load-held.result
steps c =
    let k = look_clear c.args.card.now c.args.state.now (c.look.ensures _ c.read-found.ensures) c.in_ok-values.was in
    record { accepted = accepted k; holds = ready k c.load-held.ensures; selects = c.terms_of-terms.ensures; first = c.forward-p.ensures.0; second = c.forward-p.ensures.1 }

pub returns-in_err-values-clause-answer : goal.returns-in_err-values-clause-answer
returns-in_err-values-clause-answer c = let p = err_from_is_err_and c.from_residual.result c.from_residual.ensures.1 in
    rw (p.1, p.2) (sym (look_refused c.args.card.now c.args.state.now (c.look.ensures _ c.read-found.ensures) c.in_err-values.was))

pub returns-in_err-values-clause-after : goal.returns-in_err-values-clause-after
unfolding stepped
returns-in_err-values-clause-after c = left _ _ (step (card_of c.args.card.now) c.args.state.now) c.in_err-values.field-0.0 (look_refused c.args.card.now c.args.state.now (c.look.ensures _ c.read-found.ensures) c.in_err-values.was)

pub load-held-requires : goal.load-held-requires
load-held-requires c = few (passing c)

-- TSC-1, by its gate formulas
pub returns-then-is_tsc1 : goal.returns-then-is_tsc1
returns-then-is_tsc1 c = let k = passing (goal.at.returns-then-is_tsc1 c).In_ok-values in
    let made = step_made (clear_tsc1 k c.is_tsc1.ensures c.if-is_tsc1.true) c.load-held.ensures c.next_state.ensures c.store.ensures in
    record { answer = made.0; after = made.1.0; undone = made.1.1 }

pub terms_of-terms-requires : goal.terms_of-terms-requires
terms_of-terms-requires c = sized c.in_ok-values.values.now (accepted (passing (goal.at.terms_of-terms-requires c).In_ok-values))

pub forward-p-requires : goal.forward-p-requires
forward-p-requires c = cycled c.in_ok-values.values.now (accepted (passing (goal.at.forward-p-requires c).In_ok-values))

pub next_state-next-requires : goal.next_state-next-requires
next_state-next-requires c = let st = steps (goal.at.next_state-next-requires c).After-forward-p in terms_width c.in_ok-values.values.now _ st.accepted st.selects

pub returns : goal.returns
returns c =
    let st = c.next_state-next.ensures c.in_ok-values.values.now (steps (goal.at.returns c).After-forward-p) in
    let made = step_made (passing (goal.at.returns c).In_ok-values) c.load-held.ensures st c.store-2.ensures in
    record { answer = made.0; after = made.1.0; undone = made.1.1 }
