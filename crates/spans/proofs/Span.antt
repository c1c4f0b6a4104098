-- A span is refused exactly where its end, as a number that knows no overflow, lies past the strip.
use mathlib.Core.Path.{◌≡◌}
use Prim.Native.Nat.{ℕ, ◌+◌, ◌-◌, ◌≤◌, ◌<◌}
use native.Mathlib.Decide.{dec_lt}
use native.Mathlib.Omega.{arith}
use borrow.Author.Tests.{lt-ltb, le-ltb}
use Rattle.refusals.specs.Refusals.{first_of, number}
use Rattle.refusals.specs.declared.Refusal.TheVariants.{SpanOutOfBounds}
use Rattle.spans.specs.Span.{span_checks}

module _ (size place count : ℕ) where
  pub span_fits : place + count ≤ size → first_of (span_checks size place count) ≡ 0
  unfolding first_of span_checks
  span_fits h = simp (le-ltb size place (omega arith), le-ltb (size - place) count (omega arith))

  pub span_outside : size < place + count → first_of (span_checks size place count) ≡ number SpanOutOfBounds
  unfolding first_of span_checks
  span_outside h = go (dec_lt size place)
    where
      go : Dec (size < place) → first_of (span_checks size place count) ≡ number SpanOutOfBounds
      go (yes l) = simp (lt-ltb size place l)
      go (no n) = simp (le-ltb size place (omega arith), lt-ltb (size - place) count (omega arith))

  pub span_within : first_of (span_checks size place count) ≡ 0 → place + count ≤ size
  span_within z = go (dec_lt size (place + count))
    where
      go : Dec (size < place + count) → place + count ≤ size
      go (yes l) = absurd (omega (arith, z, span_outside l))
      go (no n) = omega arith
