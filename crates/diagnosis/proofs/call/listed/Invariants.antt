use Rattle.std.proofs.Common.{◌≡◌}
use Rattle.cycle.specs.Notation.{count, zero_filled}
use Rattle.completions.specs.Sets.{members}
use Rattle.diagnoses.specs.BadPlaces.{most_places}
use Rattle.diagnosis.specs.Marks.{marked}
use Rattle.diagnosis.proofs.call.listed.Given as goal

abbrev pub invariant-loop-x : goal.invariant-loop-x
invariant-loop-x l = (l.count ≡ count l.x (marked l.marks)) × (l.places ≡ zero_filled most_places (members l.x (marked l.marks)))
