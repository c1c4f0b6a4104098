-- Sizes of integers, and which of them machine integers hold.
use mathlib.Core.Path.{◌≡◌, refl}
use mathlib.Core.Bool.{Bool, true, false, cond}
use Prim.Native.Nat.{ℕ, zero, suc, ◌+◌, ◌-◌, ◌^◌, ◌≤◌, ◌<◌}
use native.Mathlib.Omega.{arith}
use borrow.Author.Tests.{ltb-true, ltb-false}
use lib.Dec.{ltb}
use lib.IntN.{ℤ, pos, negsuc, nat_abs, ◌-ℤ◌}
use lib.Signed.{mag}
use mir.Syntax.{w32}
use mir.Val.{hbits, SFits, to_z, of_z}
use mir.Facts.{to_z-of_z}

-- ---- differences

apart : (a b : ℕ) (t : Bool) → ltb a b ≡ t → nat_abs (cond t (negsuc (b - suc a)) (pos (a - b))) ≤ a + b
apart a b true e = let h : a < b = ltb-true a b e in omega arith
apart a b false e = let h : b ≤ a = ltb-false a b e in omega arith

pub size_minus : (a b : ℤ) → nat_abs (a -ℤ b) ≤ nat_abs a + nat_abs b
size_minus (pos a) (pos zero) = omega arith
size_minus (pos a) (pos (suc b)) = apart a (suc b) (ltb a (suc b)) refl
size_minus (pos a) (negsuc b) = omega arith
size_minus (negsuc a) (pos zero) = omega (arith, apart 0 (suc a) (ltb 0 (suc a)) refl)
size_minus (negsuc a) (pos (suc b)) = omega arith
size_minus (negsuc a) (negsuc b) = let h = apart (suc b) (suc a) (ltb (suc b) (suc a)) refl in omega arith

-- ---- what a machine integer of 32 bits reads back

-- as it is told of an entry of a slice
abbrev pub given : {z : ℤ} → mag z < 2 ^ hbits w32 → SFits w32 z
given h = record { sfits = h }

abbrev pub read : ℤ → ℤ
read z = to_z w32 (of_z w32 z)

pub read_back : {z : ℤ} → SFits w32 z → read z ≡ z
read_back fits = to_z-of_z fits
