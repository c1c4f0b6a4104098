-- The largest of finitely many numbers.
use mathlib.Core.Path.{◌≡◌, refl, ap, ap₂}
use Prim.Native.Nat.{ℕ, zero, suc, ◌≤◌, max}
use native.Mathlib.Decide.{dec_le}
use native.Mathlib.Omega.{arith}
use Rattle.bit_counts.specs.Counts.{largest}

pub largest_ge : (n : ℕ) (f : ℕ → ℕ) (k : ℕ) → k ≤ n → f k ≤ largest n f
unfolding largest
largest_ge zero f k l = let e : k ≡ 0 = omega arith in omega (arith, ap f e)
largest_ge (suc n) f k l = go (dec_le k n) (largest_ge n f k)
  where
    go : Dec (k ≤ n) → (k ≤ n → f k ≤ largest n f) → f k ≤ max (largest n f) (f (suc n))
    go (yes h) ih = omega (arith, ih h)
    go (no h) ih = let e : k ≡ suc n = omega arith in omega (arith, ap f e)

pub largest_at : (n : ℕ) (f : ℕ → ℕ) → (k : ℕ) × (k ≤ n) × (largest n f ≡ f k)
unfolding largest
largest_at zero f = (0, omega arith, refl)
largest_at (suc n) f = go (dec_le (largest n f) (f (suc n))) (largest_at n f)
  where
    go : Dec (largest n f ≤ f (suc n)) → (k : ℕ) × (k ≤ n) × (largest n f ≡ f k) → (k : ℕ) × (k ≤ suc n) × (max (largest n f) (f (suc n)) ≡ f k)
    go (yes h) r = (suc n, omega arith, omega arith)
    go (no h) r = (r.0, omega (arith, r.1), omega (arith, r.2))

pub largest_le : (n : ℕ) (f : ℕ → ℕ) (b : ℕ) → ((k : ℕ) → k ≤ n → f k ≤ b) → largest n f ≤ b
largest_le n f b h = let r = largest_at n f in omega (arith, r.2, h r.0 r.1)

pub largest_ext : (n : ℕ) (f g : ℕ → ℕ) → ((k : ℕ) → k ≤ n → f k ≡ g k) → largest n f ≡ largest n g
unfolding largest
largest_ext zero f g h = h 0 (omega arith)
largest_ext (suc n) f g h = ap₂ max (largest_ext n f g (λ k l. h k (omega arith))) (h (suc n) (omega arith))
