-- Laws of squared distances: as integers, 0 at the same place alone, and how large they are on the map.
use mathlib.Core.Path.{◌≡◌, refl, sym, ap, ap₂, ◌∙◌}
use mathlib.Core.Logic.{◌↔◌}
use mathlib.Core.Bool.{true}
use mathlib.Core.List.{List}
use Prim.Native.Nat.{ℕ, zero, suc, ◌+◌, ◌≤◌, ◌<◌}
use native.Mathlib.Nat.{mul-le-mul, add-le-add}
use native.Mathlib.Omega.{arith}
use borrow.Author.Tests.{leb-true}
use lib.IntN.{ℤ, pos, negsuc, nat_abs, ◌+ℤ◌, ◌-ℤ◌, ◌*ℤ◌, +ℤ_idl, +ℤ_invr, -ℤ-+ℤ_cancel}
use lib.ListN.{length, get_or}
use Rattle.cycle.proofs.Digits.{length-tabulate, get_d_tabulate}
use Rattle.places.specs.Distances.{square, squared_distance, distances}
use Rattle.places.specs.Places.{most_coordinate, most_apart, most_squared, is_on_map}
use Rattle.places.proofs.Signed.{size_minus}

-- ---- on integers

square_is : (z : ℤ) → pos (square z) ≡ z *ℤ z
square_is (pos n) = refl
square_is (negsuc n) = refl

pub squared_is : (ax ay bx by : ℤ) → pos (squared_distance ax ay bx by) ≡ ((ax -ℤ bx) *ℤ (ax -ℤ bx)) +ℤ ((ay -ℤ by) *ℤ (ay -ℤ by))
unfolding squared_distance
squared_is ax ay bx by = ap₂ ◌+ℤ◌ (square_is (ax -ℤ bx)) (square_is (ay -ℤ by))

-- ---- 0 at the same place alone

square_zero : (z : ℤ) → square z ≡ 0 → z ≡ pos 0
square_zero (pos zero) e = refl
square_zero (pos (suc n)) e = absurd (omega arith)
square_zero (negsuc n) e = absurd (omega arith)

minus_zero : (a b : ℤ) → a -ℤ b ≡ pos 0 → a ≡ b
minus_zero a b e = sym (-ℤ-+ℤ_cancel a b) ∙ ap (λ (z : ℤ). z +ℤ b) e ∙ +ℤ_idl b

pub squared_zero : (ax ay bx by : ℤ) → (squared_distance ax ay bx by ≡ 0) ↔ ((ax ≡ bx) × (ay ≡ by))
unfolding squared_distance
squared_zero ax ay bx by = (
  (λ e. (minus_zero ax bx (square_zero _ (omega arith)), minus_zero ay by (square_zero _ (omega arith)))),
  (λ s. let x : ax -ℤ bx ≡ pos 0 = ap (λ (z : ℤ). z -ℤ bx) s.0 ∙ +ℤ_invr bx in
      let y : ay -ℤ by ≡ pos 0 = ap (λ (z : ℤ). z -ℤ by) s.1 ∙ +ℤ_invr by in
      ap₂ ◌+◌ (ap square x) (ap square y)),
)

-- ---- on the map

pub apart_le : (a b : ℤ) → is_on_map a ≡ true → is_on_map b ≡ true → nat_abs (a -ℤ b) ≤ most_apart
apart_le a b s t = omega (arith, size_minus a b, leb-true (nat_abs a) most_coordinate s, leb-true (nat_abs b) most_coordinate t)

pub squared_le : (ax ay bx by : ℤ) → is_on_map ax ≡ true → is_on_map ay ≡ true → is_on_map bx ≡ true → is_on_map by ≡ true → squared_distance ax ay bx by ≤ most_squared
unfolding squared_distance
squared_le ax ay bx by s t u v = add-le-add (mul-le-mul (apart_le ax bx s u) (apart_le ax bx s u)) (mul-le-mul (apart_le ay by t v) (apart_le ay by t v))

-- ---- of a list

module _ (x y : ℤ) (xs ys : List ℤ) where
  pub length-distances : length (distances x y xs ys) ≡ length xs
  unfolding distances
  length-distances = length-tabulate (length xs) (λ i. squared_distance x y (get_or xs i (pos 0)) (get_or ys i (pos 0)))

  pub distance_is : (i : ℕ) → i < length xs → get_or (distances x y xs ys) i 0 ≡ squared_distance x y (get_or xs i (pos 0)) (get_or ys i (pos 0))
  unfolding distances
  distance_is = get_d_tabulate (length xs) (λ i. squared_distance x y (get_or xs i (pos 0)) (get_or ys i (pos 0)))
