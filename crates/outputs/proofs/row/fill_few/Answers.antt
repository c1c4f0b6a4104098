use Rattle.std.proofs.Common.{rules}
use Rattle.tsc.specs.declared.State.{State}
use Rattle.stepping.specs.State.{Holds}
use Rattle.outputs.specs.Output.{StepsByLeaves}
use Rattle.outputs.proofs.row.fill_few.Goals as goal
use Rattle.outputs.proofs.row.fill_few.Goals.{After-leaves_of-leaves}

-- what a step from a state of the card asks for
steps : (c : After-leaves_of-leaves) (t : State) → Holds c.args.card t → StepsByLeaves c.args.card c.terms_of-terms.result c.leaves_of-leaves.result c.rotations_of-rotations.result t
steps c t h =
    let p = c.forward-p in record {
      odd = p.result.odd;
      even = p.result.even;
      steps = record { accepted = c.requires.0; holds = h; selects = c.terms_of-terms.ensures; first = p.ensures.0; second = p.ensures.1 };
      filters = c.rotations_of-rotations.ensures;
      few = c.requires.2;
      leaves_of = c.leaves_of-leaves.ensures;
    }

pub fill_by-requires-clause-answers : goal.fill_by-requires-clause-answers
fill_by-requires-clause-answers c =
    let at = steps (goal.at.fill_by-requires-clause-answers c).After-leaves_of-leaves in
    (c.args.card, record { callable = λ t h. let r = at t h in search rules; output = λ t o h q. let r = at t h in search rules }, c.requires.1)

pub returns : goal.returns
returns c =
    let at = steps (goal.at.returns c).After-leaves_of-leaves in
    let both = c.fill_by.ensures c.args.card (record { callable = λ t h. let r = at t h in search rules; output = λ t o h q. let r = at t h in search rules }) c.requires.1 in
    record { value = both.0; words_after = both.1 }
