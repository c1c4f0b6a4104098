-- A number as bytes, low byte first. Only the contracts of inner functions cite it; the public ones do without.
use Rattle.std.specs.Prelude.{List, ℕ, ◌/◌, ◌%◌, ◌^◌}
use Rattle.cycle.specs.Notation.{tabulate}

-- the bytes of a number
unfoldable pub low_bytes : ℕ → ℕ → List ℕ
low_bytes x size = tabulate size (λ i. x / 256 ^ i % 256)
