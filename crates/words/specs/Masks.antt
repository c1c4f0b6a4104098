-- Words by their bits.
use Rattle.std.specs.Prelude.{◌≡◌, ℕ, ◌<◌}
use Rattle.cycle.specs.Notation.{bit}
use Rattle.tsc.specs.Constants.{widest_width}

-- bit i of x is f i, in every place of the widest word
abbrev pub HasBits : ℕ → (ℕ → ℕ) → Type 0
HasBits x f = (i : ℕ) → i < widest_width → bit i x ≡ f i
