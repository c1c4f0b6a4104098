-- What is counted of a list of bits (document 02, Eight), as NIST SP 800-22 defines it for its tests of frequency (2.1), cumulative sums (2.13) and runs (2.3).
use Rattle.std.specs.Prelude.{not, cond, List, [], ◌∷◌, reverse, ℕ, zero, suc, ◌+◌, max, eqb, ℤ, pos, negsuc, neg_ℤ, nat_abs, ◌+ℤ◌, length, get_or, take}
use Rattle.cycle.specs.Notation.{count}
use Rattle.bit_counts.specs.declared.Counts.{Counts}

-- X of 2.1: 1 for a one, -1 for a zero
abbrev pub sign : ℕ → ℤ
sign b = cond (eqb b 0) (negsuc 0) (pos 1)

-- ones minus zeros, the sum of the signs: S_n of 2.1
unfoldable pub balance : List ℕ → ℤ
balance [] = pos 0
balance (b ∷ bs) = sign b +ℤ balance bs

-- the running sum, after k bits: S_k of 2.13
abbrev pub running_sum : List ℕ → ℕ → ℤ
running_sum bits k = balance (take k bits)

-- how far a sum is above zero
abbrev pub above : ℤ → ℕ
above (pos n) = n
above (negsuc n) = 0

-- the largest of f 0, f 1, .., f n
unfoldable pub largest : ℕ → (ℕ → ℕ) → ℕ
largest zero f = f 0
largest (suc n) f = max (largest n f) (f (suc n))

-- the largest distance from zero of the running sum: z of 2.13, forward, and of the reversed bits backward
unfoldable pub furthest : List ℕ → ℕ
furthest bits = largest (length bits) (λ k. nat_abs (running_sum bits k))

-- runs, V_n of 2.3: one, and one more at each place where neighbours differ; none without bits
unfoldable pub runs : List ℕ → ℕ
runs [] = 0
runs (b ∷ bs) = 1 + count (length bs) (λ k. not (eqb (get_or (b ∷ bs) k 0) (get_or bs k 0)))

-- the four integers
unfoldable pub counts_of : List ℕ → Counts
counts_of bits = record { balance = balance bits; forward = furthest bits; backward = furthest (reverse bits); runs = runs bits }

-- ---- what one pass finds: how far the running sum comes above zero, and below

unfoldable pub peak : List ℕ → ℕ
peak bits = largest (length bits) (λ k. above (running_sum bits k))

unfoldable pub trough : List ℕ → ℕ
trough bits = largest (length bits) (λ k. above (neg_ℤ (running_sum bits k)))
