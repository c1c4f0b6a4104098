use Rattle.std.proofs.Common.{rules, refl}
use Rattle.tsc.specs.declared.State.{State}
use Rattle.stepping.specs.State.{Holds, Steps}
use Rattle.stepping.proofs.Columns.{sized, cycled}
use Rattle.sample.proofs.draw.draw_rank.Goals as goal
use Rattle.sample.proofs.draw.draw_rank.Goals.{After-rotations_of-rotations}

-- what a step from a state of the card asks for
steps : (c : After-rotations_of-rotations) (t : State) → Holds c.args.card t → Steps c.args.card c.terms_of-terms.result c.forward-p.result.odd c.forward-p.result.even t
steps c t h =
    let p = c.forward-p.ensures in
    record { accepted = c.requires.0; holds = h; selects = c.terms_of-terms.ensures; first = p.0; second = p.1 }

pub forward-p-requires : goal.forward-p-requires
forward-p-requires c = cycled c.args.card c.requires.0

pub terms_of-terms-requires : goal.terms_of-terms-requires
terms_of-terms-requires c = sized c.args.card c.requires.0

pub rotations_of-rotations-requires : goal.rotations_of-rotations-requires
rotations_of-rotations-requires c = let z = sized c.args.card c.requires.0 in (z.0, z.1)

pub rank_by-requires-clause-answers : goal.rank_by-requires-clause-answers
rank_by-requires-clause-answers c =
    let at = steps (goal.at.rank_by-requires-clause-answers c).After-rotations_of-rotations in
    (c.args.card, record { callable = λ t h. let r = at t h in search rules; output = λ t o h q. let r = at t h in search rules }, c.requires.1, refl)

pub rank_by-requires-clause-several : goal.rank_by-requires-clause-several
rank_by-requires-clause-several c = (c.requires.0.narrow, c.requires.2, c.requires.3)

pub returns : goal.returns
returns c =
    let at = steps (goal.at.returns c).After-rotations_of-rotations in
    c.rank_by.ensures c.args.card (record { callable = λ t h. let r = at t h in search rules; output = λ t o h q. let r = at t h in search rules }) c.requires.1 refl
