-- Runs of bits from the front, of two lists one after the other, and one bit more.
use mathlib.Core.Path.{◌≡◌, ap}
use mathlib.Core.Bool.{not}
use mathlib.Core.List.{List, [], ◌∷◌, ◌++◌}
use Prim.Native.Nat.{ℕ, ◌+◌, ◌≤◌}
use native.Mathlib.Omega.{arith}
use lib.Dec.{eqb}
use lib.ListN.{length, get_or}
use Rattle.cycle.specs.Notation.{one}
use Rattle.cycle.proofs.Count.{count_none, count-first, count_le}
use Rattle.bit_counts.specs.Counts.{runs}
use Rattle.bit_counts.proofs.Sums.{one_or_other}

pub runs-first : (b : ℕ) → runs (b ∷ []) ≡ 1
unfolding runs
runs-first b = ap (λ (c : ℕ). 1 + c) (count_none _)

runs_front : (a b : ℕ) (bs : List ℕ) → runs (a ∷ b ∷ bs) ≡ one (not (eqb a b)) + runs (b ∷ bs)
unfolding runs
runs_front a b bs = omega (arith, count-first (length bs) (λ k. not (eqb (get_or (a ∷ b ∷ bs) k 0) (get_or (b ∷ bs) k 0))))

-- the last run of the first list and the first of the second are one where the bits on both sides are equal
pub runs_append : (x : ℕ) (s : List ℕ) (y : ℕ) (t : List ℕ)
    → runs ((x ∷ s) ++ y ∷ t) + one (eqb (get_or (x ∷ s) (length s) 0) y) ≡ runs (x ∷ s) + runs (y ∷ t)
runs_append x [] y t = omega (arith, runs_front x y t, runs-first x, one_or_other (eqb x y))
runs_append x (z ∷ s) y t = omega (arith, runs_front x z (s ++ y ∷ t), runs_front x z s, runs_append z s y t)

-- one run more where the bit differs from the last one
pub runs_next : (x b : ℕ) (bits : List ℕ) → runs (x ∷ (bits ++ b ∷ [])) ≡ runs (x ∷ bits) + one (not (eqb (get_or (x ∷ bits) (length bits) 0) b))
runs_next x b bits = omega (arith, runs_append x bits b [], runs-first b, one_or_other (eqb (get_or (x ∷ bits) (length bits) 0) b))

-- there are no more runs than bits
pub runs-bound : (bits : List ℕ) → runs bits ≤ length bits
unfolding runs
runs-bound [] = omega arith
runs-bound (b ∷ bs) = omega (arith, count_le (length bs) (λ k. not (eqb (get_or (b ∷ bs) k 0) (get_or bs k 0))))
