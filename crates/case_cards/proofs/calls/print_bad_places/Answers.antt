use Rattle.std.proofs.Common.{◌≡◌, length, rules, arith}
use Rattle.diagnoses.specs.BadPlaces.{most_places}
use Rattle.diagnoses.proofs.Answers.{shown-fits}
use Rattle.case_cards.proofs.calls.print_bad_places.Goals as goal

-- no answer has more places than its array
pub shared_ref_as_front-places : goal.shared_ref_as_front-places
shared_ref_as_front-places g c =
    let z : length c.bad_places-found.result.places ≡ most_places = search rules in
    omega (arith, z, shown-fits _ _ c.bad_places-found.ensures)
