-- Rotation within n bits: it stays within n bits, and moves bit i to bit (i + k) modulo n. A word is below 2^n; absent words add nothing to it, and that of
-- at most four words is what the filter makes of them.
use mathlib.Core.Path.{◌≡◌, refl, sym, ap, ap₂, ◌∙◌, subst, fun_ext}
use mathlib.Core.Bool.{Bool, true, false, cond}
use mathlib.Core.List.{List}
use Prim.Native.Nat.{ℕ, ◌+◌, ◌-◌, ◌*◌, ◌/◌, ◌%◌, ◌^◌, ◌≤◌, ◌<◌}
use native.Mathlib.Nat.{add_comm, add-zero, zero-add, zero-mul, mul-mod_left, mod-lt, zero-mod, zero-div, mod-eq_of_lt, add-mod-mod, add-mod_right}
use native.Mathlib.Numerals.{add-one}
use native.Mathlib.Decide.{dec_lt}
use native.Mathlib.Omega.{arith}
use lib.Arith.{digits_lt}
use lib.Dec.{eqb}
use lib.ListN.{length, get_or, get_or-eq_default}
use lib.Pow.{pow_pos, pow-add, shl-shr, shr-shr, shr_lt, mod-pow-add, high, low}
use Rattle.cycle.specs.Notation.{sum, bit}
use Rattle.cycle.proofs.Bits.{bit_mod}
use Rattle.cycle.proofs.Digits.{length-tabulate, get_d_tabulate}
use Rattle.cycle.proofs.Sum.{sum_ext, sum_zero, sum_split}
use Rattle.tsc.specs.declared.Card.{Card}
use Rattle.tsc.specs.Constants.{filter_words}
use Rattle.tsc.specs.Word.{◌⊞◌, ◌⋘◌, filter1, filter2, further, filtered, word, word_at, orbit_words}

module _ (n x k : ℕ) (pos : 0 < n) (lx : x < 2 ^ n) where
  -- r places to the left, d places to the right
  r : ℕ
  r = k % n

  d : ℕ
  d = n - r

  r_lt : r < n
  unfolding r
  r_lt = mod-lt k pos

  split : n ≡ d + r
  unfolding d
  split = omega (arith, r_lt)

  rotate_parts : ◌⋘◌ n x k ≡ x % 2 ^ d * 2 ^ r + x / 2 ^ d
  unfolding ◌⋘◌ d r
  rotate_parts =
      ap (λ (a : ℕ). a + x / 2 ^ d)
      (ap (λ (a : ℕ). x * 2 ^ r % 2 ^ a) split ∙ mod-pow-add (x * 2 ^ r) d r
      ∙ ap₂ (λ (a b : ℕ). a % 2 ^ d * 2 ^ r + b) (shl-shr x r) (mul-mod_left x (2 ^ r)) ∙ add-zero (x % 2 ^ d * 2 ^ r))

  top_lt : x / 2 ^ d < 2 ^ r
  top_lt = shr_lt r d (subst (λ (a : ℕ). x < 2 ^ a) (split ∙ add_comm d r) lx)

  pub rotate_lt : ◌⋘◌ n x k < 2 ^ n
  rotate_lt =
      rw rotate_parts
      (subst (λ (a : ℕ). x % 2 ^ d * 2 ^ r + x / 2 ^ d < a) (sym (ap (λ (a : ℕ). 2 ^ a) split ∙ pow-add 2 d r)) (digits_lt (mod-lt x (pow_pos d)) top_lt))

  pub rotate_bit : (i : ℕ) → i < n → bit ((i + k) % n) (◌⋘◌ n x k) ≡ bit i x
  unfolding r
  rotate_bit i l = ap₂ (λ (a b : ℕ). bit a b) (sym (add-mod-mod i k n)) rotate_parts ∙ go (dec_lt i d)
    where
      L : ℕ
      L = x % 2 ^ d

      go : Dec (i < d) → bit ((i + r) % n) (L * 2 ^ r + x / 2 ^ d) ≡ bit i x
      go (yes below) =
          let moved : (i + r) % n ≡ r + i = mod-eq_of_lt (omega (arith, split)) ∙ add_comm i r in
          ap (λ (a : ℕ). bit a (L * 2 ^ r + x / 2 ^ d)) moved ∙ ap (λ (a : ℕ). a % 2) (sym (shr-shr (L * 2 ^ r + x / 2 ^ d) r i))
          ∙ ap (λ (a : ℕ). a / 2 ^ i % 2) (high L r top_lt) ∙ bit_mod d i x below
      go (no above) =
          let j : ℕ = i - d in
          let jn : i + r ≡ j + n = omega (arith, split) in
          let moved : (i + r) % n ≡ j = ap (λ (a : ℕ). a % n) jn ∙ add-mod_right j n ∙ mod-eq_of_lt (omega arith) in
          let ji : d + j ≡ i = omega arith in
          ap (λ (a : ℕ). bit a (L * 2 ^ r + x / 2 ^ d)) moved ∙ sym (bit_mod r j (L * 2 ^ r + x / 2 ^ d) (omega (arith, split)))
          ∙ ap (bit j) (low L r top_lt) ∙ ap (λ (a : ℕ). a % 2) (shr-shr x d j) ∙ ap (λ (a : ℕ). bit a x) ji

-- ---- further words

module _ (n : ℕ) where
  rotate_zero : (k : ℕ) → ◌⋘◌ n 0 k ≡ 0
  unfolding ◌⋘◌
  rotate_zero k = rw (zero-mul, zero-mod, zero-div)

  pub further-none : (x : ℕ → ℕ) → further n x 0 ≡ 0
  unfolding further sum
  further-none x = refl

  pub further_more : (x : ℕ → ℕ) (c : ℕ) → further n x (c + 1) ≡ further n x c + ◌⋘◌ n (x (filter_words + c)) (filter_words + c)
  unfolding further sum
  further_more x c = rw add-one

  -- words that are 0 add nothing
  pub further-zeros : (x : ℕ → ℕ) (c d : ℕ) → ((k : ℕ) → filter_words + c ≤ k → x k ≡ 0) → further n x (c + d) ≡ further n x c
  unfolding further
  further-zeros x c d h =
      let turned : ℕ → ℕ = λ j. ◌⋘◌ n (x (filter_words + j)) (filter_words + j) in
      sum_split c d turned
      ∙ ap (λ (s : ℕ). sum c turned + s)
      (sum_ext d (λ i. turned (c + i)) (λ i. 0) (λ i l. ap (λ (y : ℕ). ◌⋘◌ n y (filter_words + (c + i))) (h (filter_words + (c + i)) (omega arith)) ∙ rotate_zero (filter_words + (c + i)))
      ∙ sum_zero d)
      ∙ add-zero (sum c turned)

  -- so do those past the last word of a list
  further_past : (xs : List ℕ) (d : ℕ) → further n (λ k. get_or xs k 0) (length xs - filter_words + d) ≡ further n (λ k. get_or xs k 0) (length xs - filter_words)
  further_past xs d = further-zeros (λ k. get_or xs k 0) (length xs - filter_words) d (λ k l. get_or-eq_default xs 0 {n = k} (omega arith))

-- ---- the word

pub filtered_lt : (card : Card) (x : ℕ → ℕ) → filtered card x < 2 ^ card.width
unfolding filter1 filter2 ◌⊞◌
filtered_lt card x = go (eqb card.filter 2)
  where
    go : (b : Bool) → cond b (filter2 card.width x) (filter1 card.width x) < 2 ^ card.width
    go true = mod-lt _ (pow_pos card.width)
    go false = mod-lt _ (pow_pos card.width)

pub word_lt : (card : Card) (xs : List ℕ) → word card xs < 2 ^ card.width
unfolding word ◌⊞◌
word_lt card xs = mod-lt _ (pow_pos card.width)

-- a word depends on the state's words alone; absent ones count as 0
pub word_ext : (card : Card) (xs ys : List ℕ) → ((k : ℕ) → get_or xs k 0 ≡ get_or ys k 0) → word card xs ≡ word card ys
unfolding word
word_ext card xs ys h =
    let n : ℕ = card.width in
    let a : ℕ = length xs - filter_words in
    let b : ℕ = length ys - filter_words in
    let same : ◌≡◌ {A = ℕ → ℕ} (λ k. get_or xs k 0) (λ k. get_or ys k 0) = fun_ext h in
    ap₂ (◌⊞◌ n) (ap (filtered card) same)
    (sym (further_past n xs b) ∙ ap (λ (x : ℕ → ℕ). further n x (a + b)) same ∙ ap (further n (λ k. get_or ys k 0)) (add_comm a b) ∙ further_past n ys a)

-- the word of a state whose further words are absent, or 0, is what the filter makes of it
pub word-filtered : (card : Card) (xs : List ℕ) → ((k : ℕ) → filter_words ≤ k → get_or xs k 0 ≡ 0) → word card xs ≡ filtered card (λ k. get_or xs k 0)
unfolding word ◌⊞◌
word-filtered card xs zeros =
    let x : ℕ → ℕ = λ k. get_or xs k 0 in
    let d : ℕ = length xs - filter_words in
    let none : further card.width x d ≡ 0 =
    ap (further card.width x) (sym (zero-add d)) ∙ further-zeros card.width x 0 d (λ k l. zeros k (omega arith)) ∙ further-none card.width x in
    rw (none, add-zero) (mod-eq_of_lt (filtered_lt card x))

-- so cards of up to four words draw as document 01 has it
pub word_of_few : (card : Card) (xs : List ℕ) → length xs ≤ filter_words → word card xs ≡ filtered card (λ k. get_or xs k 0)
word_of_few card xs few = word-filtered card xs (λ k l. get_or-eq_default xs 0 {n = k} (omega arith))

-- ---- the words of the orbit

module _ (card : Card) (xs : List ℕ) (count : ℕ) where
  pub length-orbit_words : length (orbit_words card xs count) ≡ count
  unfolding orbit_words
  length-orbit_words = length-tabulate count _

  pub orbit_words_at : (t : ℕ) → t < count → get_or (orbit_words card xs count) t 0 ≡ word_at card xs t
  unfolding orbit_words
  orbit_words_at t l = get_d_tabulate count _ t l
