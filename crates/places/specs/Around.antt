-- What is said of a truck's place and the places around it, as the code hands them over.
use Rattle.std.specs.Prelude.{List, ℕ}
use Rattle.places.specs.declared.around.Around.{Around}
use Rattle.places.specs.Distances.{distances}
use Rattle.places.specs.Places.{Measurable}

-- the shovels' squared distances from the truck
abbrev pub distances_around : Around → List ℕ
distances_around a = distances a.x a.y a.xs.now a.ys.now

-- that they can be worked out
abbrev pub IsMeasurable : Around → Type 0
IsMeasurable a = Measurable a.x a.y a.xs.now a.ys.now
