-- What is answered to places and a radius (document 02, Ten), whatever they are.
use Rattle.std.specs.Prelude.{cond, ◌&&◌, List, ℕ, eqb, ℤ, replicate}
use Rattle.cycle.specs.Notation.{tabulate}
use Rattle.refusals.specs.Refusals.{Check, first_of}
use Rattle.ties.specs.Ties.{most_shovels}
use Rattle.places.specs.Distances.{square}
use Rattle.places.specs.Places.{Places, distances_of, on_map, is_radius, place_checks}
use Rattle.nearby.specs.declared.WithinAnswer.{WithinAnswer}
use Rattle.nearby.specs.Nearby.{within_count, number_at}

-- what is looked at: 12 to 15, then 25
abbrev pub within_checks : Places → ℤ → List Check
within_checks q radius = place_checks q.shovels q.xs q.ys (on_map q.x q.y q.xs q.ys && is_radius radius)

-- the list, and how many stand on it
abbrev pub listing : Places → ℤ → WithinAnswer
listing q radius = record {
  shovels = tabulate most_shovels (number_at q.shovels (distances_of q) (square radius));
  count = within_count (distances_of q) (square radius);
  refusal = 0;
}

abbrev pub no_list : ℕ → WithinAnswer
no_list r = record { shovels = replicate most_shovels 0; count = 0; refusal = r }

-- what is answered: the list, or the refusal
unfoldable pub within_radius : Places → ℤ → WithinAnswer
within_radius q radius = let r = first_of (within_checks q radius) in cond (eqb r 0) (listing q radius) (no_list r)
