-- The rows marked P of document 01, At the edges: ONE table, and what it says of a row.
use Rattle.std.specs.Prelude.{◌≡◌, List, [], ◌∷◌, ◌++◌, ℕ, replicate}
use Rattle.std.proofs.Math.Option.{Option, some, none}
use Rattle.tsc.specs.Constants.{tsc2_table}
use Rattle.tsc.specs.Step.{step}
use Rattle.tsc.specs.Word.{word}
use Rattle.card_format.specs.Reading.{card_of}
use Rattle.card_format.specs.Verdict.{verdict}

-- a card, its verdict and, where given, the state that follows the all-zero state, and its word
pub record Row : Type 0 where
  pub bytes : List ℕ
  pub verdict : ℕ
  pub from_zero : Option (List ℕ × ℕ)

abbrev accepted : List ℕ → List ℕ → ℕ → Row
accepted b s w = record { bytes = b; verdict = 0; from_zero = some (s, w) }

abbrev refused : List ℕ → ℕ → Row
refused b v = record { bytes = b; verdict = v; from_zero = none }

-- TSC-1 and TSC-2, the generators of document 002
abbrev pub p1 : List ℕ
p1 = 0x00 ∷ []

abbrev pub p2 : List ℕ
p2 = 0x74 ∷ tsc2_table ++ (0x00 ∷ 0x01 ∷ 0x00 ∷ 0x00 ∷ 0x00 ∷ 0x02 ∷ [])

-- P1 to P12. The states and words of P6, P11 and P12 are not the paper's: they come from a second program
unfoldable pub rows : List Row
rows =
    accepted p1 (0xffffffff ∷ 0x12488421 ∷ 0xedb77bde ∷ 0xedb77bde ∷ []) 0x0b857478  -- P1
    ∷ accepted p2 (1 ∷ 0 ∷ 1 ∷ 0 ∷ []) 0x02401008  -- P2
    ∷ refused [] 1  -- P3
    ∷ refused (0x01 ∷ 0x03 ∷ []) 4  -- P4
    ∷ refused (0x02 ∷ 0x1c ∷ []) 6  -- P5
    ∷ accepted (0x02 ∷ 0x1d ∷ []) (0x1fffffff ∷ 0x12488421 ∷ 0x0db77bde ∷ 0x0db77bde ∷ []) 0x0b85b436  -- P6
    ∷ refused (0x05 ∷ 0x02 ∷ 0x00 ∷ 0x01 ∷ 0x02 ∷ 0x03 ∷ []) 7  -- P7
    ∷ refused (0x05 ∷ 0x02 ∷ 0x00 ∷ 0x01 ∷ 0x02 ∷ 0x03 ∷ 0x00 ∷ []) 5  -- P8
    ∷ refused (0x08 ∷ 0x01 ∷ []) 3  -- P9
    ∷ refused (0x08 ∷ 0x02 ∷ []) 9  -- P10
    ∷ accepted (0x08 ∷ 0x03 ∷ []) (0xffffffff ∷ 0x12488421 ∷ 0xffffffff ∷ 0xedb77bde ∷ []) 0x2fc78501  -- P11
    ∷ accepted (0x10 ∷ 0x00 ∷ []) (0x12488421 ∷ 0x12488421 ∷ 0x00000000 ∷ 0x00000000 ∷ []) 0x6322d1a8  -- P12
    ∷ []

-- what follows the all-zero state of a card
abbrev pub Follows : List ℕ → Option (List ℕ × ℕ) → Type 0
Follows bytes none = Unit {0}
Follows bytes (some d) =
    let card = card_of bytes in
    let next = step card (replicate card.words 0) in
    (next ≡ d.0) × (word card next ≡ d.1)

-- THE STATEMENT of a row: its verdict, and what follows the all-zero state where it is given
abbrev pub Holds : Row → Type 0
Holds r = (verdict r.bytes ≡ r.verdict) × Follows r.bytes r.from_zero
