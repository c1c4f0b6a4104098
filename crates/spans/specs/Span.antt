-- Condition 17 (document 02, One): what is refused of a place and a count of words in a strip.
use Rattle.std.specs.Prelude.{◌||◌, List, [], ◌∷◌, ℕ, ◌-◌, ltb}
use Rattle.refusals.specs.Refusals.{Check, check}
use Rattle.refusals.specs.declared.Refusal.TheVariants.{SpanOutOfBounds}

-- the place is greater than the strip's length, or the count does not fit behind it
unfoldable pub span_checks : ℕ → ℕ → ℕ → List Check
span_checks size place count = check SpanOutOfBounds (ltb size place || ltb (size - place) count) ∷ []
