use Rattle.std.proofs.Common.{rules}
use Rattle.tsc.specs.declared.State.{State}
use Rattle.stepping.specs.State.{Holds, Steps}
use Rattle.outputs.proofs.row.fill_many.Goals as goal
use Rattle.outputs.proofs.row.fill_many.Goals.{After-rotations_of-rotations}

-- what a step from a state of the card asks for
steps : (c : After-rotations_of-rotations) (t : State) → Holds c.args.card t → Steps c.args.card c.terms_of-terms.result c.forward-p.result.odd c.forward-p.result.even t
steps c t h =
    let p = c.forward-p.ensures in
    record { accepted = c.requires.0; holds = h; selects = c.terms_of-terms.ensures; first = p.0; second = p.1 }

pub returns : goal.returns
returns c =
    let at = steps (goal.at.returns c).After-rotations_of-rotations in
    let both = c.fill_by.ensures c.args.card (record { callable = λ t h. search rules; output = λ t o h q. let st = at t h in search rules }) c.requires.1 in
    record { value = both.0; words_after = both.1 }
