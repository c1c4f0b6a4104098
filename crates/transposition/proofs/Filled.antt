-- Bytes of a number: their bits, and a number put together of them, lowest first.
use mathlib.Core.Path.{◌≡◌, sym, ap, ◌∙◌}
use Prim.Native.Nat.{ℕ, ◌+◌, ◌*◌, ◌/◌, ◌%◌, ◌^◌, ◌<◌, ◌≤◌}
use native.Mathlib.Nat.{mod-lt, mod-eq_of_lt, add_comm, pow-succ', div-lt_iff_lt-mul, one-le-pow}
use native.Mathlib.Numerals.{add-one}
use native.Mathlib.Omega.{arith}
use lib.Arith.{digits_div, digits_mod, digits_lt}
use lib.Pow.{pow_mono, shr-shr, shl_exact}
use Rattle.cycle.specs.Notation.{sum, bit}
use Rattle.cycle.proofs.Bits.{bit_mod}
use Rattle.cycle.proofs.Digits.{pow_mul, from_digits, from_digits_of, digit_from_digits}
use Rattle.cycle.proofs.Every.{extend}
use Rattle.transposition.specs.Matrix.{byte, HasBytes}

pub bit_byte : (k i x : ℕ) → i < 8 → bit i (byte k x) ≡ bit (8 * k + i) x
bit_byte k i x l =
    bit_mod 8 i (x / 256 ^ k) l ∙ ap (λ (a : ℕ). x / a / 2 ^ i % 2) (sym (pow_mul 2 8 k)) ∙ ap (λ (a : ℕ). a % 2) (shr-shr x (8 * k) i)

pub byte_lt : (k x : ℕ) → byte k x < 256
byte_lt k x = mod-lt (x / 256 ^ k) (omega arith)

-- a byte below n survives a reduction to n bytes
byte_mod : (n k x : ℕ) → k < n → byte k (x % 256 ^ n) ≡ byte k x
byte_mod n k x l =
    ap (byte k) (sym (from_digits_of 256 n x (omega arith))) ∙ digit_from_digits 256 n (λ i. byte i x) (omega arith) (λ i h. byte_lt i x) k l

-- a byte shifted to place k of eight
pub place : (b k : ℕ) → b < 256 → k < 8 → b * 2 ^ (8 * k) % 2 ^ 64 ≡ b * 256 ^ k
place b k l h = shl_exact {a = b} 8 (8 * k) 64 l (omega arith) ∙ ap (λ (a : ℕ). b * a) (pow_mul 2 8 k)

pub with_byte_lt : (x b k : ℕ) → x < 256 ^ k → b < 256 → x + b * 256 ^ k < 256 ^ (k + 1)
with_byte_lt x b k lx lb = rw (add_comm x (b * 256 ^ k), add-one k, pow-succ' 256 k) (digits_lt lb lx)

pub bytes_fit : (n : ℕ) → n ≤ 8 → 256 ^ n ≤ 2 ^ 64
bytes_fit n l = rw (← pow_mul 2 8 n) (pow_mono {i = 8 * n} {j = 64} (omega arith))

-- the lowest n bytes of x are f 0, f 1, .., and it has no others
abbrev pub Filled : ℕ → (ℕ → ℕ) → ℕ → Type 0
Filled n f x = (x < 256 ^ n) × ((k : ℕ) → k < n → byte k x ≡ f k)

pub filled_none : (f : ℕ → ℕ) → Filled 0 f 0
filled_none f = (omega arith, λ k l. absurd (omega arith))

-- r is x with byte b above its n bytes
pub filled_next : (n : ℕ) (f : ℕ → ℕ) (x b r : ℕ) → (r ≡ x + b * 256 ^ n) × (r < 256 ^ (n + 1)) → b ≡ f n → Filled n f x → Filled (n + 1) f r
filled_next n f x b r (q, l) e h = (
  l,
  extend (λ k. byte k r ≡ f k) n (λ k lk. sym (byte_mod n k r lk) ∙ ap (byte k) low ∙ h.1 k lk)
      (mod-eq_of_lt ((div-lt_iff_lt-mul (one-le-pow n 256 (omega arith))).1 (rw (← pow-succ' 256 n, ← add-one n) l)) ∙ high ∙ e),
)
  where
    turn : r ≡ b * 256 ^ n + x
    turn = q ∙ add_comm x (b * 256 ^ n)

    low : r % 256 ^ n ≡ x
    low = ap (λ (a : ℕ). a % 256 ^ n) turn ∙ digits_mod b h.0

    high : r / 256 ^ n ≡ b
    high = ap (λ (a : ℕ). a / 256 ^ n) turn ∙ digits_div b h.0

-- the bits of a number so put together
pub filled_bits : (n : ℕ) (f : ℕ → ℕ) (x i : ℕ) → Filled n f x → i < 8 * n → bit i x ≡ bit (i % 8) (f (i / 8))
filled_bits n f x i h l =
    let e : i ≡ 8 * (i / 8) + i % 8 = omega arith in
    ap (λ (j : ℕ). bit j x) e ∙ sym (bit_byte (i / 8) (i % 8) x (omega arith)) ∙ ap (bit (i % 8)) (h.1 (i / 8) (omega arith))

-- the same byte in eight places
pub repeated_bytes : (b : ℕ) → b < 256 → HasBytes (b * 0x0101010101010101) (λ k. b)
unfolding sum
repeated_bytes b l k h =
    let e : b * 0x0101010101010101 ≡ from_digits 256 8 (λ i. b) = omega arith in
    ap (byte k) e ∙ digit_from_digits 256 8 (λ i. b) (omega arith) (λ i _. l) k h
