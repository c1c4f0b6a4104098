use Rattle.std.proofs.Common.{ap, ◌∙◌}
use Rattle.std.proofs.lemmas.Result.{err_from_is_err_and}
use Rattle.tsc.specs.Step.{step}
use Rattle.card_format.specs.Reading.{card_of}
use Rattle.outputs.specs.declared.next.Output.{Output}
use Rattle.draws.specs.Calls.{stepped}
use Rattle.draws.proofs.Opening.{Clear}
use Rattle.call_check.proofs.Checked.{look_refused, look_clear}
use Rattle.draws.proofs.Called.{left, few, accepted, ready, drawing-refused, draw_made}
use Rattle.stepping.specs.State.{Steps}
use Rattle.stepping.proofs.Columns.{sized, cycled}
use Rattle.generator.proofs.Found.{clear_tsc1}
use Rattle.generator.proofs.call.draw.Goals as goal
use Rattle.generator.proofs.call.draw.Goals.{After-forward-p, In_ok-values, then-is_tsc1, else-is_tsc1}

-- nothing is refused, and the values are the card's
passing : (c : In_ok-values) → Clear c.args.card.now c.args.state.now c.in_ok-values.values.now
passing c = look_clear c.args.card.now c.args.state.now (c.look.ensures _ c.read-found.ensures) c.in_ok-values.was

-- what the step asks for
steps : (c : After-forward-p) → Steps c.in_ok-values.values.now c.terms_of-terms.result c.forward-p.result.odd c.forward-p.result.even c.load-held.result
steps c =
    let k = look_clear c.args.card.now c.args.state.now (c.look.ensures _ c.read-found.ensures) c.in_ok-values.was in
    record { accepted = accepted k; holds = ready k c.load-held.ensures; selects = c.terms_of-terms.ensures; first = c.forward-p.ensures.0; second = c.forward-p.ensures.1 }

pub returns-in_err-values-clause-answer : goal.returns-in_err-values-clause-answer
returns-in_err-values-clause-answer c = let p = err_from_is_err_and c.from_residual.result c.from_residual.ensures.1 in
    rw (p.1, p.2) (drawing-refused _ _ c.in_err-values.field-0.0 (look_refused c.args.card.now c.args.state.now (c.look.ensures _ c.read-found.ensures) c.in_err-values.was))

pub returns-in_err-values-clause-after : goal.returns-in_err-values-clause-after
unfolding stepped
returns-in_err-values-clause-after c = left _ _ (step (card_of c.args.card.now) c.args.state.now) c.in_err-values.field-0.0 (look_refused c.args.card.now c.args.state.now (c.look.ensures _ c.read-found.ensures) c.in_err-values.was)

pub load-held-requires : goal.load-held-requires
load-held-requires c = few (passing c)

pub terms_of-terms-requires : goal.terms_of-terms-requires
terms_of-terms-requires c = sized c.in_ok-values.values.now (accepted (passing (goal.at.terms_of-terms-requires c).In_ok-values))

pub rotations_of-rotations-requires : goal.rotations_of-rotations-requires
rotations_of-rotations-requires c = let z = sized c.in_ok-values.values.now (accepted (passing (goal.at.rotations_of-rotations-requires c).In_ok-values)) in (z.0, z.1)

pub forward-p-requires : goal.forward-p-requires
forward-p-requires c = cycled c.in_ok-values.values.now (accepted (passing (goal.at.forward-p-requires c).In_ok-values))

pub next_output-drawn-requires-else-is_tsc1 : goal.next_output-drawn-requires-else-is_tsc1
next_output-drawn-requires-else-is_tsc1 c = (c.in_ok-values.values.now, steps (goal.at.next_output-drawn-requires-else-is_tsc1 c).After-forward-p, c.rotations_of-rotations.ensures)

pub returns : goal.returns
returns c = let k = passing (goal.at.returns c).In_ok-values in
    elim c.if-is_tsc1.branch [
      -- TSC-1, by its gate formulas
      | then-is_tsc1 w ↦
          let e = w.drawn-is ∙ w.next_output-drawn.ensures in
          let made = draw_made (clear_tsc1 k c.is_tsc1.ensures w.if-is_tsc1.true) c.load-held.ensures (ap (λ (o : Output). o.word) e) (ap (λ (o : Output). o.state) e) c.store.ensures in
          record { answer = made.0; after = made.1.0; narrow = made.1.1 }
      | else-is_tsc1 w ↦
          let steps : Steps c.in_ok-values.values.now w.terms_of-terms.result w.forward-p.result.odd w.forward-p.result.even c.load-held.result =
          record { accepted = accepted k; holds = ready k c.load-held.ensures; selects = w.terms_of-terms.ensures; first = w.forward-p.ensures.0; second = w.forward-p.ensures.1 } in
          let e = w.drawn-is ∙ w.next_output-drawn-else-is_tsc1.ensures c.in_ok-values.values.now steps w.rotations_of-rotations.ensures in
          let made = draw_made k c.load-held.ensures (ap (λ (o : Output). o.word) e) (ap (λ (o : Output). o.state) e) c.store.ensures in
          record { answer = made.0; after = made.1.0; narrow = made.1.1 }
    ]
