use mathlib.Core.Path.{◌∙◌}
use native.Mathlib.Omega.{arith}
use lib.ListN.{set, length-set}
use Rattle.ties.specs.Ties.{most_shovels}
use Rattle.outcomes.proofs.Outcomes.{outcome_test, outcome-few}
use Rattle.outcomes.proofs.outcome.Varied.goes_elsewhere.Goals as goal

pub leaves-requires : goal.leaves-requires
leaves-requires c = let s = c.args.self.now in
    let l = s.several in
    let ys = set s.times.now s.place c.args.v in
    let z = length-set s.times.now s.place c.args.v in
    let f = outcome-few s.shovels.now ys s.known.now.chosen most_shovels _ c.outcome_of.ensures (omega (arith, z, l.0)) (omega (arith, z, l.1.few)) in
    (l.1.width, f.0, f.1)

pub returns : goal.returns
returns c = c.leaves.ensures ∙ outcome_test _ _ _ _ c.outcome_of.ensures
