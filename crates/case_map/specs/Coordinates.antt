-- Places in the text of a case: x and y with a colon between, and lists of them. A coordinate is read as a number, 2^31 more than it is.
use Rattle.std.specs.Prelude.{Bool, cond, ◌&&◌, List, map, ℕ, ◌+◌, ◌-◌, Option, Some, None, eqb, leb, ltb, ℤ, pos, ◌-ℤ◌, length, get_or, take, drop}
use Rattle.case_numbers.specs.Numbers.{fold, most_number, numeral}
use Rattle.case_fields.specs.Text.{index_of, comma, parts}
use Rattle.case_fields.specs.Lists.{Held, room, empty, with_number, is_nothing}

abbrev pub bias : ℕ
bias = 2147483648

-- whether a minus stands in front
unfoldable pub is_negative : List ℕ → Bool
is_negative xs = leb 1 (length xs) && eqb (get_or xs 0 0) 45

-- a number below 0, and one from 0 on, with their bias; none where it is too far from 0
unfoldable pub below : Option ℕ → Option ℕ
below None = None
below (Some x) = cond (leb x bias) (Some (bias - x)) None

unfoldable pub above : Option ℕ → Option ℕ
above None = None
above (Some x) = cond (ltb x bias) (Some (bias + x)) None

-- decimal, a minus in front for one below 0; from -2147483648 to 2147483647
unfoldable pub biased_in : List ℕ → Option ℕ
biased_in xs = cond (is_negative xs) (below (numeral 10 (drop 1 xs))) (above (numeral 10 xs))

-- x or y of a place
unfoldable pub half_in : Bool → List ℕ → Option ℕ
half_in second xs = let at = index_of 58 xs in biased_in (cond second (drop (at + 1) xs) (take at xs))

-- all x or all y of places, commas between
unfoldable pub coordinates_in : Bool → List ℕ → Option Held
coordinates_in second xs = cond (is_nothing xs) (Some (empty room)) (fold (with_number most_number) (Some (empty room)) (map (half_in second) (parts comma xs)))

-- the coordinate
abbrev pub coordinate_of : ℕ → ℤ
coordinate_of x = pos x -ℤ pos bias
