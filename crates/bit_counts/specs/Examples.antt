-- Worked examples of NIST SP 800-22: ONE table.
use Rattle.std.specs.Prelude.{◌≡◌, List, [], ◌∷◌, ℕ, ℤ, pos, negsuc}
use Rattle.cycle.specs.Notation.{All}
use Rattle.bit_counts.specs.declared.Counts.{Counts}
use Rattle.bit_counts.specs.Bits.{bits_of}
use Rattle.bit_counts.specs.Counts.{counts_of}

-- words of ten bits, and what is counted of them
pub record Example : Type 0 where
  pub words : List ℕ
  pub counts : Counts

abbrev counted : List ℕ → ℤ → ℕ → ℕ → ℕ → Example
counted ws b f k r = record { words = ws; counts = record { balance = b; forward = f; backward = k; runs = r } }

-- of the first three the standard tells the sum (2.1.4), the runs (2.3.4) and the forward distance (2.13.4), and of the first 100 bits of pi all four (2.1.8, 2.3.8,
-- 2.13.8); the rest is by hand
unfoldable pub examples : List Example
examples =
    counted (0b1011010101 ∷ []) (pos 2) 2 2 9
    ∷ counted (0b1001101011 ∷ []) (pos 2) 2 3 7
    ∷ counted (0b1011010111 ∷ []) (pos 4) 4 4 7
    ∷ counted
    (0b1100100100 ∷ 0b0011111101 ∷ 0b1010101000 ∷ 0b1000100001 ∷ 0b0110100011 ∷ 0b0000100011 ∷ 0b0100110001 ∷ 0b0011000110 ∷ 0b0110001010 ∷ 0b0010111000 ∷ [])
    (negsuc 15)
    16
    19
    52
    ∷ []

abbrev pub ExamplesHold : Type 0
ExamplesHold = All (λ e. counts_of (bits_of 10 e.words) ≡ e.counts) examples
