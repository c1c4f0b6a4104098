-- Bits and their text: entries, and a word's after those of the words before it.
use mathlib.Core.Path.{◌≡◌, refl, sym, ap, ◌∙◌}
use mathlib.Core.List.{List, [], ◌∷◌, ◌++◌, append-nil, map-append}
use Prim.Native.Nat.{ℕ, zero, suc, ◌+◌, ◌-◌, ◌*◌, ◌≤◌, ◌<◌}
use native.Mathlib.Nat.{mul-zero, mul-suc}
use native.Mathlib.Numerals.{add-one}
use native.Mathlib.Omega.{arith}
use lib.ListN.{length, get_or, take, drop}
use lib.Seq.{take-suc, drop-cons, drop-length, length-take-le}
use Rattle.cycle.specs.Notation.{All, bit}
use Rattle.cycle.proofs.Bits.{bit_lt}
use Rattle.bit_counts.specs.Bits.{word_bits, bits_of, digit, text}
use Rattle.bit_counts.proofs.Bits.{length-word_bits, length-bits_of, bits_of-append, word_bits_at, length-text, text_at}
use Rattle.bit_tally.specs.declared.tally.Tally.{Tally}
use Rattle.bit_tally.specs.Tally.{with_bit, tallied}

-- bits are 0 or 1
pub word_bits_lem : (n w : ℕ) → All (λ b. b < 2) (word_bits n w)
unfolding word_bits
word_bits_lem zero w = tt
word_bits_lem (suc n) w = (bit_lt n w, word_bits_lem n w)

all_append : (s t : List ℕ) → All (λ b. b < 2) s → All (λ b. b < 2) t → All (λ b. b < 2) (s ++ t)
all_append [] t a b = b
all_append (x ∷ s) t a b = (a.0, all_append s t a.1 b)

pub strip_bits_lem : (n : ℕ) (strip : List ℕ) → All (λ b. b < 2) (bits_of n strip)
unfolding bits_of
strip_bits_lem n [] = tt
strip_bits_lem n (w ∷ ws) = all_append (word_bits n w) (bits_of n ws) (word_bits_lem n w) (strip_bits_lem n ws)

-- ---- a word

pub length-word_text : (n w : ℕ) → length (text (word_bits n w)) ≡ n
length-word_text n w = length-text (word_bits n w) ∙ length-word_bits n w

-- place i has bit n - 1 - i, and the bits from it on begin with that bit
pub digit_at : (n w i : ℕ) → i < n → digit (bit (n - 1 - i) w) ≡ get_or (text (word_bits n w)) i 0
digit_at n w i l = sym (text_at (word_bits n w) i (omega (arith, length-word_bits n w)) ∙ ap digit (word_bits_at n w i l))

pub bit_next : (t : Tally) (n w i : ℕ) → i < n → tallied (with_bit t (bit (n - 1 - i) w)) (word_bits (n - (i + 1)) w) ≡ tallied t (word_bits (n - i) w)
unfolding word_bits tallied
bit_next t n w i l =
    let this : n - i ≡ suc (n - 1 - i) = omega arith in
    let rest : n - (i + 1) ≡ n - 1 - i = omega arith in
    ap (λ (j : ℕ). tallied (with_bit t (bit (n - 1 - i) w)) (word_bits j w)) rest ∙ sym (ap (λ (j : ℕ). tallied t (word_bits j w)) this)

pub no_bits : (t : Tally) (left w : ℕ) → left ≡ 0 → tallied t (word_bits left w) ≡ t
unfolding word_bits tallied
no_bits t left w e = ap (λ (n : ℕ). tallied t (word_bits n w)) e

-- ---- a strip

tallied-append : (t : Tally) (s r : List ℕ) → tallied t (s ++ r) ≡ tallied (tallied t s) r
unfolding tallied
tallied-append t [] r = refl
tallied-append t (b ∷ s) r = tallied-append (with_bit t b) s r

module _ (n : ℕ) (strip : List ℕ) (k : ℕ) (l : k < length strip) where
  abbrev w : ℕ
  w = get_or strip k 0

  -- the words from word k on begin with word k
  pub word_next : (t : Tally) → tallied (tallied t (word_bits n w)) (bits_of n (drop (k + 1) strip)) ≡ tallied t (bits_of n (drop k strip))
  unfolding bits_of
  word_next t =
      let first : w ∷ drop (k + 1) strip ≡ drop k strip = rw add-one (sym (drop-cons strip k 0 l)) in
      sym (tallied-append t (word_bits n w) (bits_of n (drop (k + 1) strip))) ∙ ap (λ (s : List ℕ). tallied t (bits_of n s)) first

  -- and those up to it end with it
  pub text_next : text (bits_of n (take k strip)) ++ text (word_bits n w) ≡ text (bits_of n (take (k + 1) strip))
  unfolding bits_of
  text_next =
      let last : take k strip ++ w ∷ [] ≡ take (k + 1) strip = rw add-one (sym (take-suc strip k 0 l)) in
      sym (map-append digit (bits_of n (take k strip)) (word_bits n w))
      ∙ ap text (ap (λ (r : List ℕ). bits_of n (take k strip) ++ r) (sym (append-nil (word_bits n w))) ∙ sym (bits_of-append n (take k strip) (w ∷ [])))
      ∙ ap (λ (s : List ℕ). text (bits_of n s)) last

pub length-words : (n : ℕ) (strip : List ℕ) (k : ℕ) → k ≤ length strip → length (text (bits_of n (take k strip))) ≡ n * k
length-words n strip k l = length-text (bits_of n (take k strip)) ∙ length-bits_of n (take k strip) ∙ ap (λ (m : ℕ). n * m) (length-take-le k strip l)

-- before the first word, and after the last
pub no_words : (n : ℕ) (strip page : List ℕ) → page ≡ text (bits_of n (take 0 strip)) ++ drop (n * 0) page
unfolding bits_of
no_words n strip page = ap (λ (m : ℕ). drop m page) (sym (mul-zero n))

pub all_counted : (n : ℕ) (strip : List ℕ) (t : Tally) (k : ℕ) → k ≡ length strip → t ≡ tallied t (bits_of n (drop k strip))
unfolding bits_of tallied
all_counted n strip t k e = ap (λ (s : List ℕ). tallied t (bits_of n s)) (sym (ap (λ (i : ℕ). drop i strip) e ∙ drop-length strip))

-- ---- places on the page

module _ (n k m : ℕ) where
  pub place_next : n * k + n ≡ n * (k + 1)
  place_next = rw (add-one, mul-suc) refl

  pub places_left : k < m → n * (m - k) ≡ n + n * (m - (k + 1))
  places_left l = let e : m - k ≡ suc (m - (k + 1)) = omega arith in ap (λ (x : ℕ). n * x) e ∙ omega (arith, mul-suc n (m - (k + 1)))
