-- The selector by columns: bit i depends on the columns below i alone, and the parity law. And it is of n bits.
use mathlib.Core.Path.{◌≡◌, refl, sym, ap, ap₂, ◌∙◌}
use mathlib.Core.Bool.{Bool, true, false, cond}
use mathlib.Core.List.{List, [], ◌∷◌}
use Prim.Native.Nat.{ℕ, zero, suc, ◌+◌, ◌*◌, ◌/◌, ◌%◌, ◌^◌, ◌≤◌, ◌<◌}
use native.Mathlib.Nat.{add-mod, zero-div, mod-lt, lt_of_le_of_lt}
use native.Mathlib.Omega.{arith}
use lib.Bits.{bit_xor, and_le_r, xor_lt}
use lib.Dec.{eqb}
use lib.ListN.{length}
use lib.Pow.{pow_pos, ones_lt}
use Rattle.cycle.specs.Notation.{sum, bit}
use Rattle.cycle.proofs.Parity.{two_pos}
use Rattle.cycle.proofs.Sum.{sum_ext}
use Rattle.cycle.proofs.Digits.{from_digits, from_digits_ext, from_digits_of}
use Rattle.cycle.proofs.Bits.{bit-bit_xor, bit_mod, mod_pow_mod, shift_add, bit_double}
use Rattle.tsc.specs.declared.Card.{Card}
use Rattle.tsc.specs.Columns.{column}
use Rattle.tsc.specs.Selector.{and_words, sum_words, selector}
use Rattle.tsc.proofs.Columns.{all_ones, popcount, bit-and_words, sum_words_mod}
use Rattle.tsc.proofs.Number.{number, state_of, number_div, number_mod, number_ext, number-state_of, state_of_in_range}
use Rattle.tsc.proofs.Parity.{low_part, selector_bit, selector_bit_parity}

-- ---- p and s below bit i, by the number of the i low columns

module _ (m : ℕ) (xs : List ℕ) (e : length xs ≡ m) where
  low_part_number : (w : ℕ → ℕ) (i : ℕ) → low_part m w i (number m i xs) ≡ from_digits 2 i (λ j. w (column j xs))
  unfolding low_part sum
  low_part_number w zero = refl
  low_part_number w (suc i) =
      rw (number_div m xs e i, number_mod m xs e i) (ap (λ (a : ℕ). a + w (column i xs) * 2 ^ i) (low_part_number w i))

  and_words-low : (n i : ℕ) → i ≤ n → and_words n xs % 2 ^ i ≡ low_part m (all_ones m) i (number m i xs)
  and_words-low n i l =
      sym (from_digits_of 2 i (and_words n xs) two_pos)
      ∙ from_digits_ext 2 i (λ j. bit j (and_words n xs)) (λ j. all_ones m (column j xs)) (λ j k.
      bit-and_words n j xs (omega arith) ∙ ap (λ (a : ℕ). all_ones a (column j xs)) e)
      ∙ sym (low_part_number (all_ones m) i)

  sum_words-low : (i : ℕ) → sum_words xs % 2 ^ i ≡ low_part m (popcount m) i (number m i xs) % 2 ^ i
  sum_words-low i =
      sum_words_mod i xs ∙ ap (λ (a : ℕ). from_digits 2 i (λ j. popcount a (column j xs)) % 2 ^ i) e
      ∙ ap (λ (a : ℕ). a % 2 ^ i) (sym (low_part_number (popcount m) i))

-- ---- selector bit i is a function of the number of the columns below i

bit-cond : (sums : Bool) (i x y : ℕ) → bit i x ≡ y % 2 → bit i (cond sums x 0) ≡ cond sums y 0 % 2
bit-cond true i x y e = e
bit-cond false i x y e = ap (λ (a : ℕ). a % 2) (zero-div (2 ^ i))

xor_cancel : (v q : ℕ) → ((v + q) % 2 + q % 2) % 2 ≡ v % 2
xor_cancel v q = omega arith

pub bit-selector : (card : Card) (xs : List ℕ) → length xs ≡ card.words → (i : ℕ) → i < card.width
    → bit i (selector card xs) ≡ selector_bit card.words (eqb card.sum_term 1) card.constant i (number card.words i xs)
unfolding selector selector_bit
bit-selector card xs e i l =
    let m : ℕ = card.words in
    let n : ℕ = card.width in
    let C : ℕ = card.constant in
    let sums : Bool = eqb card.sum_term 1 in
    let p : ℕ = and_words n xs in
    let s : ℕ = sum_words xs in
    let x : ℕ = number m i xs in
    let v : ℕ = (low_part m (all_ones m) i x + C) / 2 ^ i in
    let w : ℕ = 2 * low_part m (popcount m) i x / 2 ^ i in
    let first : bit i ((p + C) % 2 ^ n) ≡ (v + p / 2 ^ i) % 2 =
    bit_mod n i (p + C) l
    ∙ ap (λ (a : ℕ). a % 2) (shift_add i p C ∙ ap (λ (a : ℕ). (a + C) / 2 ^ i + p / 2 ^ i) (and_words-low m xs e n i (omega arith))) in
    let double : bit i (2 * (s % 2 ^ n) % 2 ^ n) ≡ w % 2 =
    bit_mod n i (2 * (s % 2 ^ n)) l ∙ bit_double i (s % 2 ^ n)
    ∙ ap (λ (a : ℕ). bit i (2 * a)) (mod_pow_mod n i s (omega arith) ∙ sum_words-low m xs e i)
    ∙ sym (bit_double i (low_part m (popcount m) i x)) in
    bit-bit_xor i (bit_xor ((p + C) % 2 ^ n) p) (cond sums (2 * (s % 2 ^ n) % 2 ^ n) 0)
    ∙ ap₂ (λ (a b : ℕ). (a + b) % 2) (bit-bit_xor i ((p + C) % 2 ^ n) p ∙ ap (λ (a : ℕ). (a + bit i p) % 2) first)
    (bit-cond sums i (2 * (s % 2 ^ n) % 2 ^ n) w double)
    ∙ ap (λ (a : ℕ). (a + cond sums w 0 % 2) % 2) (xor_cancel v (p / 2 ^ i)) ∙ sym (add-mod v (cond sums w 0) 2)

-- only lower columns enter a selector bit: the selector is a parameter (document 002, Definition 2)
pub selector-lower : (card : Card) (xs ys : List ℕ) → length xs ≡ card.words → length ys ≡ card.words → (i : ℕ) → i < card.width
    → ((j : ℕ) → j < i → column j xs ≡ column j ys) → bit i (selector card xs) ≡ bit i (selector card ys)
selector-lower card xs ys ex ey i l h =
    bit-selector card xs ex i l
    ∙ ap (selector_bit card.words (eqb card.sum_term 1) card.constant i) (number_ext card.words i xs ys h)
    ∙ sym (bit-selector card ys ey i l)

-- THE PARITY LAW. Of all states of i columns, the number of those whose selector bit i is 1 is odd exactly where the constant is odd:
-- document 002 (4), B[alpha, i] = C modulo 2, so that an odd constant makes an odd parameter
pub selector-parity : (card : Card) → 2 ≤ card.words → (i : ℕ) → i < card.width
    → sum ((2 ^ card.words) ^ i) (λ z. bit i (selector card (state_of card.words i z))) % 2 ≡ card.constant % 2
selector-parity card enough i l =
    ap (λ (a : ℕ). a % 2)
    (sum_ext ((2 ^ m) ^ i) (λ z. bit i (selector card (state_of m i z))) (selector_bit m sums card.constant i) (λ z k.
    bit-selector card (state_of m i z) (state_of_in_range m i z).0 i l
    ∙ ap (selector_bit m sums card.constant i) (number-state_of m i z k)))
    ∙ selector_bit_parity m enough sums card.constant i
  where
    m : ℕ
    m = card.words

    sums : Bool
    sums = eqb card.sum_term 1

-- ---- it is of n bits

and_words_lt : (n : ℕ) (xs : List ℕ) → and_words n xs < 2 ^ n
unfolding and_words
and_words_lt n [] = ones_lt n
and_words_lt n (x ∷ xs) = lt_of_le_of_lt (and_le_r x (and_words n xs)) (and_words_lt n xs)

pub selector_lt : (card : Card) (xs : List ℕ) → selector card xs < 2 ^ card.width
unfolding selector
selector_lt card xs =
    let n : ℕ = card.width in
    xor_lt n _ _ (xor_lt n _ _ (mod-lt _ (pow_pos n)) (and_words_lt n xs)) (either (eqb card.sum_term 1) (mod-lt _ (pow_pos n)))
  where
    either : (b : Bool) {x : ℕ} → x < 2 ^ card.width → cond b x 0 < 2 ^ card.width
    either true l = l
    either false l = pow_pos card.width
