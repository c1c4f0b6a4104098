-- Bytes of a number, and matrices of 8 by 8 bits: row k in byte k.
use Rattle.std.specs.Prelude.{◌≡◌, cond, ℕ, ◌+◌, ◌-◌, ◌*◌, ◌/◌, ◌%◌, ◌^◌, ◌<◌, eqb}
use Rattle.std.specs.Int.Bits.{bit_and}
use Rattle.cycle.specs.Notation.{bit}

-- byte k of x
abbrev pub byte : ℕ → ℕ → ℕ
byte k x = x / 256 ^ k % 256

-- byte k of x is f k
abbrev pub HasBytes : ℕ → (ℕ → ℕ) → Type 0
HasBytes x f = (k : ℕ) → k < 8 → byte k x ≡ f k

-- bit i of row k is f k i
abbrev pub HasRows : ℕ → (ℕ → ℕ → ℕ) → Type 0
HasRows x f = (k i : ℕ) → k < 8 → i < 8 → bit i (byte k x) ≡ f k i

-- rows become columns
abbrev pub IsTranspose : ℕ → ℕ → Type 0
IsTranspose r x = HasRows r (λ k i. bit k (byte i x))

-- the bits in a mask and those d places higher up: none is both, and all are below 2^64
abbrev pub Apart : ℕ → ℕ → Type 0
Apart d mask = (d < 64) × (mask * 2 ^ d < 2 ^ 64) × (bit_and mask (mask * 2 ^ d) ≡ 0)

-- where bit j comes from as these are exchanged
unfoldable pub source : ℕ → ℕ → ℕ → ℕ
source d mask j = cond (eqb (bit j mask) 1) (j + d) (cond (eqb (bit j (mask * 2 ^ d)) 1) (j - d) j)
