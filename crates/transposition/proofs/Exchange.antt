-- Bits exchanged with those some places higher up, and the transpose by three exchanges.
use mathlib.Core.Path.{◌≡◌, refl, sym, ap, ap₂, ◌∙◌}
use mathlib.Core.Bool.{true, cond}
use Prim.Native.Nat.{ℕ, suc, ◌+◌, ◌-◌, ◌*◌, ◌/◌, ◌%◌, ◌^◌, ◌<◌, ◌≤◌}
use native.Mathlib.Nat.{add_comm, mul-zero, mul_assoc}
use native.Mathlib.Decide.{dec_lt}
use native.Mathlib.Omega.{arith}
use borrow.Author.Tests.{eqb-true}
use lib.Bits.{bit_and, bit_xor, shifted_even}
use lib.Dec.{eqb}
use lib.Pow.{pow-add, shl-shr, shr-shr}
use Rattle.cycle.specs.Notation.{every, bit}
use Rattle.cycle.proofs.Bits.{bit_lt, bit-bit_and, bit-bit_xor, bit_zero}
use Rattle.cycle.proofs.Every.{every_at}
use Rattle.cycle.proofs.Parity.{bits_cases}
use Rattle.transposition.specs.Matrix.{IsTranspose, source}
use Rattle.transposition.proofs.Filled.{bit_byte}

-- ---- bits of a number shifted

pub bit_right : (d j x : ℕ) → bit j (x / 2 ^ d) ≡ bit (j + d) x
bit_right d j x = ap (λ (a : ℕ). a % 2) (shr-shr x d j) ∙ ap (λ (i : ℕ). bit i x) (add_comm d j)

bit-left : (d j x : ℕ) → d ≤ j → bit j (x * 2 ^ d) ≡ bit (j - d) x
bit-left d j x l =
    let e : j ≡ (j - d) + d = omega arith in
    ap (λ (i : ℕ). bit i (x * 2 ^ d)) e ∙ sym (bit_right d (j - d) (x * 2 ^ d)) ∙ ap (bit (j - d)) (shl-shr x d)

bit_below : (d j x : ℕ) → j < d → bit j (x * 2 ^ d) ≡ 0
bit_below d j x l =
    let n : ℕ = d - suc j in
    let e : d ≡ suc n + j = omega arith in
    ap (λ (a : ℕ). bit j (x * 2 ^ a)) e ∙ ap (λ (a : ℕ). bit j (x * a)) (pow-add 2 (suc n) j) ∙ ap (bit j) (sym (mul_assoc x (2 ^ suc n) (2 ^ j)))
    ∙ ap (λ (a : ℕ). a % 2) (shl-shr (x * 2 ^ suc n) j) ∙ shifted_even x n

-- ---- an exchange

module _ (d mask x : ℕ) where
  -- where the bits in the mask differ from those d places higher up
  abbrev pub differing : ℕ
  differing = bit_and (bit_xor x (x / 2 ^ d)) mask

  bit_differing : (j : ℕ) → bit j differing ≡ (bit j x + bit (j + d) x) % 2 * bit j mask
  bit_differing j =
      bit-bit_and j (bit_xor x (x / 2 ^ d)) mask ∙ ap (λ (a : ℕ). a * bit j mask) (bit-bit_xor j x (x / 2 ^ d) ∙ ap (λ (a : ℕ). (bit j x + a) % 2) (bit_right d j x))

  bit_shifted : (j : ℕ) → bit j (differing * 2 ^ d) ≡ (bit (j - d) x + bit j x) % 2 * bit j (mask * 2 ^ d)
  bit_shifted j = go (dec_lt j d)
    where
      go : Dec (j < d) → bit j (differing * 2 ^ d) ≡ (bit (j - d) x + bit j x) % 2 * bit j (mask * 2 ^ d)
      go (yes l) =
          bit_below d j differing l ∙ sym (ap (λ (a : ℕ). (bit (j - d) x + bit j x) % 2 * a) (bit_below d j mask l) ∙ mul-zero ((bit (j - d) x + bit j x) % 2))
      go (no g) =
          let e : j - d + d ≡ j = omega arith in
          bit-left d j differing (omega arith) ∙ bit_differing (j - d)
          ∙ ap₂ (λ (i b : ℕ). (bit (j - d) x + bit i x) % 2 * b) e (sym (bit-left d j mask (omega arith)))

  pub bit_exchange : bit_and mask (mask * 2 ^ d) ≡ 0 → (j : ℕ) → bit j (bit_xor (bit_xor x differing) (differing * 2 ^ d)) ≡ bit (source d mask j) x
  unfolding source
  bit_exchange apart j =
      bit-bit_xor j (bit_xor x differing) (differing * 2 ^ d)
      ∙ ap₂ (λ (a b : ℕ). (a + b) % 2) (bit-bit_xor j x differing ∙ ap (λ (a : ℕ). (bit j x + a) % 2) (bit_differing j)) (bit_shifted j)
      ∙ bits_cases (λ m n. m * n ≡ 0
      → ((bit j x + (bit j x + bit (j + d) x) % 2 * m) % 2 + (bit (j - d) x + bit j x) % 2 * n) % 2 ≡ bit (cond (eqb m 1) (j + d) (cond (eqb n 1) (j - d) j)) x)
      (λ e. omega (arith, bit_lt j x)) (λ e. omega (arith, bit_lt j x, bit_lt (j - d) x)) (λ e. omega (arith, bit_lt j x, bit_lt (j + d) x)) (λ e. absurd (omega arith))
      (bit j mask) (bit j (mask * 2 ^ d)) (bit_lt j mask) (bit_lt j (mask * 2 ^ d))
      (sym (bit-bit_and j mask (mask * 2 ^ d)) ∙ ap (bit j) apart ∙ bit_zero j)

-- ---- the transpose

-- where bit j comes from, in the end
from : ℕ → ℕ
from j = source 7 0x00AA00AA00AA00AA (source 14 0x0000CCCC0000CCCC (source 28 0x00000000F0F0F0F0 j))

all_from : every 64 (λ j. eqb (from j) (8 * (j % 8) + j / 8)) ≡ true
unfolding every from source
all_from = refl

pub transposed : (x y z r : ℕ) → ((j : ℕ) → bit j y ≡ bit (source 7 0x00AA00AA00AA00AA j) x) → ((j : ℕ) → bit j z ≡ bit (source 14 0x0000CCCC0000CCCC j) y)
    → ((j : ℕ) → bit j r ≡ bit (source 28 0x00000000F0F0F0F0 j) z) → IsTranspose r x
unfolding from
transposed x y z r hy hz hr k i lk li =
    let j : ℕ = 8 * k + i in
    let row : j / 8 ≡ k = omega arith in
    let place : j % 8 ≡ i = omega arith in
    let e : from j ≡ 8 * (j % 8) + j / 8 = eqb-true _ _ (every_at 64 (λ j. eqb (from j) (8 * (j % 8) + j / 8)) all_from j (omega arith)) in
    bit_byte k i r li ∙ hr j ∙ hz _ ∙ hy _ ∙ ap (λ (a : ℕ). bit a x) (e ∙ ap₂ (λ (a b : ℕ). 8 * a + b) place row) ∙ sym (bit_byte i k x lk)
