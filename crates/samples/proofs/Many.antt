-- Refusal 18 is told exactly where there are more ties than words.
use mathlib.Core.Path.{◌≡◌}
use mathlib.Core.Logic.{◌≢◌}
use Prim.Native.Nat.{ℕ, ◌^◌, ◌≤◌, ◌<◌}
use native.Mathlib.Decide.{dec_lt}
use native.Mathlib.Omega.{arith}
use borrow.Author.Tests.{lt-ltb, le-ltb}
use Rattle.refusals.specs.Refusals.{first_of, number}
use Rattle.refusals.specs.declared.Refusal.TheVariants.{TooManyTies}
use Rattle.samples.specs.Samples.{tie_checks}

module _ (n k : ℕ) where
  pub ties_fit : k ≤ 2 ^ n → first_of (tie_checks n k) ≡ 0
  unfolding first_of tie_checks
  ties_fit l = simp (le-ltb (2 ^ n) k l)

  pub ties-over : 2 ^ n < k → first_of (tie_checks n k) ≡ number TooManyTies
  unfolding first_of tie_checks
  ties-over l = simp (lt-ltb (2 ^ n) k l)

  pub ties-within : first_of (tie_checks n k) ≡ 0 → k ≤ 2 ^ n
  ties-within z = go (dec_lt (2 ^ n) k)
    where
      go : Dec (2 ^ n < k) → k ≤ 2 ^ n
      go (yes l) = absurd (omega (arith, z, ties-over l))
      go (no n) = omega arith

  pub ties_told : first_of (tie_checks n k) ≢ 0 → 2 ^ n < k
  ties_told ne = go (dec_lt (2 ^ n) k)
    where
      go : Dec (2 ^ n < k) → 2 ^ n < k
      go (yes l) = l
      go (no n) = absurd (ne (ties_fit (omega arith)))
