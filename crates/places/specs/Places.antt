-- Places on the map, and what is refused of them (document 02, Ten): conditions 12 to 15 with places for times, then 25.
use Rattle.std.specs.Prelude.{◌≡◌, Bool, true, false, not, ◌&&◌, List, [], ◌∷◌, ◌++◌, ℕ, ◌*◌, eqb, leb, ℤ, pos, negsuc, nat_abs, length, get_or}
use Rattle.cycle.specs.Notation.{every}
use Rattle.refusals.specs.Refusals.{Check, check}
use Rattle.refusals.specs.declared.Refusal.TheVariants.{LengthMismatch, OffMap}
use Rattle.tie_list.specs.Checks.{number_checks}
use Rattle.places.specs.Distances.{distances}

-- the greatest coordinate either way, and the greatest radius
abbrev pub most_coordinate : ℕ
most_coordinate = 1000000

abbrev pub most_radius : ℕ
most_radius = 3000000

-- so the most that two coordinates are apart, and two places by squared distance
abbrev pub most_apart : ℕ
most_apart = 2 * most_coordinate

abbrev pub most_squared : ℕ
most_squared = 2 * (most_apart * most_apart)

-- what is handed over: the truck's place and, for each shovel, its number and its place
pub record Places : Type 0 where
  pub x : ℤ
  pub y : ℤ
  pub shovels : List ℕ
  pub xs : List ℤ
  pub ys : List ℤ

abbrev pub placed : ℤ → ℤ → List ℕ → List ℤ → List ℤ → Places
placed x y shovels xs ys = record { x = x; y = y; shovels = shovels; xs = xs; ys = ys }

-- the shovels' squared distances from the truck, which stand in place of times
abbrev pub distances_of : Places → List ℕ
distances_of q = distances q.x q.y q.xs q.ys

-- whether each shovel has a place
abbrev pub paired : List ℕ → List ℤ → List ℤ → Bool
paired shovels xs ys = eqb (length shovels) (length xs) && eqb (length shovels) (length ys)

-- whether a coordinate is on the map, whether all of a list are, and whether all are that are handed over
abbrev pub is_on_map : ℤ → Bool
is_on_map c = leb (nat_abs c) most_coordinate

unfoldable pub all_on_map : List ℤ → Bool
all_on_map cs = every (length cs) (λ i. is_on_map (get_or cs i (pos 0)))

abbrev pub on_map : ℤ → ℤ → List ℤ → List ℤ → Bool
on_map x y xs ys = is_on_map x && is_on_map y && all_on_map xs && all_on_map ys

-- whether it is a radius
abbrev pub is_radius : ℤ → Bool
is_radius (pos r) = leb r most_radius
is_radius (negsuc r) = false

-- 12 to 15, then 25 unless coordinates, and a radius where there is one, are allowed
unfoldable pub place_checks : List ℕ → List ℤ → List ℤ → Bool → List Check
place_checks shovels xs ys allowed =
    check LengthMismatch (not (paired shovels xs ys)) ∷ (number_checks shovels ++ check OffMap (not allowed) ∷ [])

-- what is asked where distances are worked out: as many ys as xs, and all of it on the map
pub record Measurable (x y : ℤ) (xs ys : List ℤ) : Type 0 where
  pub even : length xs ≡ length ys
  pub mapped : on_map x y xs ys ≡ true
