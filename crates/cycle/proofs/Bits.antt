-- The bits of an AND, an OR, an XOR, a complement, a number times a bit, a remainder, a sum and a double.
use mathlib.Core.Path.{◌≡◌, refl, sym, ap, ◌∙◌}
use Prim.Native.Nat.{ℕ, zero, suc, ◌+◌, ◌-◌, ◌*◌, ◌/◌, ◌%◌, ◌^◌, ◌≤◌, ◌<◌, min, max}
use native.Mathlib.Nat.{lt_of_lt_of_le, mod-lt, mod-eq_of_lt, zero-mul, mul-zero, one-mul, mul_assoc, mul-add, add_right_comm, add-mul-div_right, mod-add-div', pow-suc, pow-succ', zero-div, div-div-eq-div-mul, div-eq_of_lt}
use native.Mathlib.Omega.{arith}
use lib.Bits.{bit_and, bit_or, bit_xor, differ, and_step, or_step, xor_step, and_shr, or_shr, xor_shr, and_mask, xor_add_and}
use lib.Pow.{pow_pos, pow_mono, field, mod-mod-pow, ones_split, high, ones_lt}
use Rattle.cycle.specs.Notation.{bit}
use Rattle.cycle.proofs.Parity.{two_pos, bit_cases, bits_cases}
use Rattle.cycle.proofs.Digits.{from_digits_ext, from_digits_of}

pub bit_lt : (i x : ℕ) → bit i x < 2
bit_lt i x = mod-lt (x / 2 ^ i) two_pos

pub bit_zero : (i : ℕ) → bit i 0 ≡ 0
bit_zero i = ap (λ (a : ℕ). a % 2) (zero-div (2 ^ i))

-- a number of n bits has no others
pub bit_past : (n i x : ℕ) → x < 2 ^ n → n ≤ i → bit i x ≡ 0
bit_past n i x l h = ap (λ (a : ℕ). a % 2) (div-eq_of_lt (lt_of_lt_of_le l (pow_mono h)))

pub bit-times : (i b x : ℕ) → b < 2 → bit i (b * x) ≡ b * bit i x
bit-times i b x l =
    bit_cases (λ b. bit i (b * x) ≡ b * bit i x) (ap (bit i) (zero-mul x) ∙ bit_zero i ∙ sym (zero-mul (bit i x)))
    (ap (bit i) (one-mul x) ∙ sym (one-mul (bit i x))) b l

pub bit_suc : (i x : ℕ) → bit (suc i) x ≡ bit i (x / 2)
bit_suc i x = ap (λ (a : ℕ). x / a % 2) (pow-succ' 2 i) ∙ ap (λ (a : ℕ). a % 2) (sym (div-div-eq-div-mul x 2 (2 ^ i)))

-- a bit put into place i is nowhere else
pub bit_elsewhere : (i j b : ℕ) → b < 2 → ¬ j ≡ i → bit j (b * 2 ^ i) ≡ 0
bit_elsewhere i j b l ne = bit-times j b (2 ^ i) l ∙ ap (λ (a : ℕ). b * a) (none i j ne) ∙ mul-zero b
  where
    none : (i j : ℕ) → ¬ j ≡ i → bit j (2 ^ i) ≡ 0
    none zero zero ne = absurd (ne refl)
    none zero (suc j) ne = bit_suc j 1 ∙ bit_zero j
    none (suc i) zero ne = omega (arith, pow-suc 2 i)
    none (suc i) (suc j) ne =
        let half : 2 ^ suc i / 2 ≡ 2 ^ i = omega (arith, pow-suc 2 i) in
        bit_suc j (2 ^ suc i) ∙ ap (bit j) half ∙ none i j (λ e. ne (ap suc e))

pub bit-bit_and : (i x y : ℕ) → bit i (bit_and x y) ≡ bit i x * bit i y
bit-bit_and i x y =
    ap (λ (a : ℕ). a % 2) (and_shr x y i ∙ and_step (x / 2 ^ i) (y / 2 ^ i))
    ∙ bits_cases (λ b c. (bit_and (x / 2 ^ i / 2) (y / 2 ^ i / 2) * 2 + min b c) % 2 ≡ b * c) (omega arith) (omega arith) (omega arith) (omega arith)
    (bit i x) (bit i y) (bit_lt i x) (bit_lt i y)

pub bit-bit_or : (i x y : ℕ) → bit i (bit_or x y) ≡ max (bit i x) (bit i y)
bit-bit_or i x y =
    ap (λ (a : ℕ). a % 2) (or_shr x y i ∙ or_step (x / 2 ^ i) (y / 2 ^ i))
    ∙ bits_cases (λ b c. (bit_or (x / 2 ^ i / 2) (y / 2 ^ i / 2) * 2 + max b c) % 2 ≡ max b c) (omega arith) (omega arith) (omega arith) (omega arith)
    (bit i x) (bit i y) (bit_lt i x) (bit_lt i y)

pub bit-bit_xor : (i x y : ℕ) → bit i (bit_xor x y) ≡ (bit i x + bit i y) % 2
bit-bit_xor i x y =
    ap (λ (a : ℕ). a % 2) (xor_shr x y i ∙ xor_step (x / 2 ^ i) (y / 2 ^ i))
    ∙ bits_cases (λ b c. (bit_xor (x / 2 ^ i / 2) (y / 2 ^ i / 2) * 2 + differ b c) % 2 ≡ (b + c) % 2) (omega arith) (omega arith) (omega arith) (omega arith)
    (bit i x) (bit i y) (bit_lt i x) (bit_lt i y)

-- a bit below n survives a reduction to n bits
pub bit_mod : (n i x : ℕ) → i < n → bit i (x % 2 ^ n) ≡ bit i x
bit_mod n i x l =
    let j : ℕ = n - suc i in
    let e : n ≡ (j + 1) + i = omega arith in
    ap (λ (a : ℕ). bit i (x % 2 ^ a)) e ∙ ap (λ (a : ℕ). a % 2) (field x (j + 1) i) ∙ mod-mod-pow (x / 2 ^ i) j 1

pub mod_pow_mod : (n i x : ℕ) → i ≤ n → x % 2 ^ n % 2 ^ i ≡ x % 2 ^ i
mod_pow_mod n i x l =
    let e : n ≡ (n - i) + i = omega arith in
    ap (λ (a : ℕ). x % 2 ^ a % 2 ^ i) e ∙ mod-mod-pow x (n - i) i

-- the bits below n of 2 ^ n - 1 are ones
pub bit_ones : (n i : ℕ) → i < n → bit i (2 ^ n - 1) ≡ 1
bit_ones n i l =
    let j : ℕ = n - suc i in
    let e : n ≡ suc j + i = omega arith in
    ap (λ (a : ℕ). bit i (2 ^ a - 1)) e ∙ ap (bit i) (ones_split (suc j) i) ∙ ap (λ (a : ℕ). a % 2) (high (2 ^ suc j - 1) i (ones_lt i))
    ∙ omega (arith, pow-suc 2 j, pow_pos j)

-- the complement of a number of n bits
pub bit_not : (n i x : ℕ) → x < 2 ^ n → i < n → bit i ((2 ^ n - 1) - x) ≡ 1 - bit i x
bit_not n i x l h =
    let e : (2 ^ n - 1) - x ≡ bit_xor x (2 ^ n - 1) = omega (arith, xor_add_and x (2 ^ n - 1), and_mask x n ∙ mod-eq_of_lt l) in
    ap (bit i) e ∙ bit-bit_xor i x (2 ^ n - 1) ∙ omega (arith, bit_ones n i h, bit_lt i x)

-- p + C from bit i up: the carry out of the bits below i, and p from bit i up
pub shift_add : (i p C : ℕ) → (p + C) / 2 ^ i ≡ (p % 2 ^ i + C) / 2 ^ i + p / 2 ^ i
shift_add i p C =
    ap (λ (a : ℕ). (a + C) / 2 ^ i) (sym (mod-add-div' p (2 ^ i)))
    ∙ ap (λ (a : ℕ). a / 2 ^ i) (add_right_comm (p % 2 ^ i) (p / 2 ^ i * 2 ^ i) C)
    ∙ add-mul-div_right (p % 2 ^ i + C) (p / 2 ^ i) (pow_pos i)

-- bit i of a double depends on the bits below i alone
pub bit_double : (i t : ℕ) → bit i (2 * t) ≡ bit i (2 * (t % 2 ^ i))
bit_double i t =
    ap (λ (a : ℕ). bit i a) (ap (λ (a : ℕ). 2 * a) (sym (mod-add-div' t (2 ^ i))) ∙ mul-add 2 (t % 2 ^ i) (t / 2 ^ i * 2 ^ i)
    ∙ ap (λ (a : ℕ). 2 * (t % 2 ^ i) + a) (sym (mul_assoc 2 (t / 2 ^ i) (2 ^ i))))
    ∙ ap (λ (a : ℕ). a % 2) (add-mul-div_right (2 * (t % 2 ^ i)) (2 * (t / 2 ^ i)) (pow_pos i))
    ∙ omega arith

-- words of n bits with the same bits are equal
pub bits_ext : (n x y : ℕ) → x < 2 ^ n → y < 2 ^ n → ((i : ℕ) → i < n → bit i x ≡ bit i y) → x ≡ y
bits_ext n x y lx ly h =
    sym (mod-eq_of_lt lx) ∙ sym (from_digits_of 2 n x two_pos) ∙ from_digits_ext 2 n (λ i. bit i x) (λ i. bit i y) h
    ∙ from_digits_of 2 n y two_pos ∙ mod-eq_of_lt ly
