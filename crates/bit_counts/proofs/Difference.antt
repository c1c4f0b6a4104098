-- Integers as differences of two numbers: sums, opposites and sizes are then facts on numbers.
use mathlib.Core.Path.{◌≡◌, refl, ap}
use mathlib.Core.Bool.{Bool, true, false, cond}
use Prim.Native.Nat.{ℕ, zero, suc, ◌+◌, ◌-◌}
use native.Mathlib.Omega.{arith}
use borrow.Author.Tests.{ltb-true, ltb-false}
use lib.Dec.{ltb}
use lib.IntN.{ℤ, pos, negsuc, neg_ℤ, nat_abs, sub_ℕ, ◌+ℤ◌, ◌-ℤ◌}
use Rattle.bit_counts.specs.Counts.{above}

-- z is a - b
abbrev pub Difference : ℤ → ℕ → ℕ → Type 0
Difference (pos n) a b = a ≡ n + b
Difference (negsuc n) a b = b ≡ suc n + a

pub difference_of : (a b : ℕ) → Difference (sub_ℕ a b) a b
difference_of a b = go (ltb a b) refl
  where
    go : (t : Bool) → ltb a b ≡ t → Difference (cond t (negsuc (b - suc a)) (pos (a - b))) a b
    go true e = let h = ltb-true a b e in omega arith
    go false e = let h = ltb-false a b e in omega arith

pub difference_opposite : (z : ℤ) (a b : ℕ) → Difference z a b → Difference (neg_ℤ z) b a
difference_opposite (pos zero) a b h = omega arith
difference_opposite (pos (suc n)) a b h = h
difference_opposite (negsuc n) a b h = h

-- the same integer is a difference of any two numbers as far apart
pub difference_shift : (z : ℤ) (a b c d : ℕ) → Difference z a b → a + d ≡ c + b → Difference z c d
difference_shift (pos n) a b c d h e = omega arith
difference_shift (negsuc n) a b c d h e = omega arith

pub difference_plus : (y z : ℤ) (a b c d : ℕ) → Difference y a b → Difference z c d → Difference (y +ℤ z) (a + c) (b + d)
difference_plus (pos x) (pos y) a b c d h k = omega arith
difference_plus (pos x) (negsuc y) a b c d h k = difference_shift (sub_ℕ x (suc y)) x (suc y) _ _ (difference_of x (suc y)) (omega arith)
difference_plus (negsuc x) (pos y) a b c d h k = difference_shift (sub_ℕ y (suc x)) y (suc x) _ _ (difference_of y (suc x)) (omega arith)
difference_plus (negsuc x) (negsuc y) a b c d h k = omega arith

pub difference_minus : (y z : ℤ) (a b c d : ℕ) → Difference y a b → Difference z c d → Difference (y -ℤ z) (a + d) (b + c)
difference_minus y z a b c d h k = difference_plus y (neg_ℤ z) a b d c h (difference_opposite z c d k)

-- there is one difference of two numbers
pub difference_one : (y z : ℤ) (a b : ℕ) → Difference y a b → Difference z a b → y ≡ z
difference_one (pos x) (pos y) a b h k = ap pos (omega arith)
difference_one (pos x) (negsuc y) a b h k = absurd (omega arith)
difference_one (negsuc x) (pos y) a b h k = absurd (omega arith)
difference_one (negsuc x) (negsuc y) a b h k = ap negsuc (omega arith)

-- its size, and how far it is above zero
pub difference_size : (z : ℤ) (a b : ℕ) → Difference z a b → nat_abs z ≡ (a - b) + (b - a)
difference_size (pos n) a b h = omega arith
difference_size (negsuc n) a b h = omega arith

pub difference_above : (z : ℤ) (a b : ℕ) → Difference z a b → above z ≡ a - b
difference_above (pos n) a b h = omega arith
difference_above (negsuc n) a b h = omega arith
