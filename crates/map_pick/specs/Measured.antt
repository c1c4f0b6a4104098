-- What an inner function answers. The contract of the call does without.
use Rattle.std.specs.Prelude.{Bool, ◌&&◌, List, ℕ, leb, ltb, ℤ, length}
use Rattle.ties.specs.Ties.{most_shovels}
use Rattle.places.specs.Places.{paired}

-- whether the distances of all shovels can be worked out: none of 12, 13, 14 and 25 applies
abbrev pub can_measure : List ℕ → List ℤ → List ℤ → Bool → Bool
can_measure shovels xs ys mapped = mapped && paired shovels xs ys && ltb 0 (length shovels) && leb (length shovels) most_shovels
