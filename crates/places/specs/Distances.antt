-- Squared distances (document 02, Ten): coordinates are integers, in metres.
use Rattle.std.specs.Prelude.{List, ℕ, ◌+◌, ◌*◌, ℤ, pos, nat_abs, ◌-ℤ◌, length, get_or}
use Rattle.cycle.specs.Notation.{tabulate}

abbrev pub square : ℤ → ℕ
square z = nat_abs z * nat_abs z

unfoldable pub squared_distance : ℤ → ℤ → ℤ → ℤ → ℕ
squared_distance ax ay bx by = square (ax -ℤ bx) + square (ay -ℤ by)

-- those of the places (xs i, ys i) from (x, y)
unfoldable pub distances : ℤ → ℤ → List ℤ → List ℤ → List ℕ
distances x y xs ys = tabulate (length xs) (λ i. squared_distance x y (get_or xs i (pos 0)) (get_or ys i (pos 0)))
