-- The bits of a strip: how many, one strip after the other, and read back.
use mathlib.Core.Path.{◌≡◌, refl, sym, ap, ap₂, ◌∙◌}
use mathlib.Core.List.{List, [], ◌∷◌, ◌++◌, append_assoc, map-append}
use Prim.Native.Nat.{ℕ, zero, suc, ◌+◌, ◌-◌, ◌*◌, ◌%◌, ◌^◌, ◌<◌}
use native.Mathlib.Nat.{mod-eq_of_lt, mul-zero, mul-suc, mul-le-mul_left}
use native.Mathlib.Omega.{arith}
use lib.ListN.{length, get_or, take, drop, length-append, length-map, get_or-append}
use lib.Seq.{take_at, drop_at, get_or-append-add}
use Rattle.cycle.specs.Notation.{bit}
use Rattle.cycle.proofs.Digits.{from_digits_suc, from_digits_of}
use Rattle.bit_counts.specs.Bits.{word_bits, bits_of, digit, text, word_read, words_read}

pub length-word_bits : (n w : ℕ) → length (word_bits n w) ≡ n
unfolding word_bits
length-word_bits zero w = refl
length-word_bits (suc n) w = ap suc (length-word_bits n _)

pub length-bits_of : (n : ℕ) (strip : List ℕ) → length (bits_of n strip) ≡ n * length strip
unfolding bits_of
length-bits_of n [] = sym (mul-zero n)
length-bits_of n (w ∷ ws) =
    length-append (word_bits n w) (bits_of n ws) ∙ omega (arith, length-word_bits n w, length-bits_of n ws, mul-suc n (length ws))

pub bits_of-append : (n : ℕ) (s t : List ℕ) → bits_of n (s ++ t) ≡ bits_of n s ++ bits_of n t
unfolding bits_of
bits_of-append n [] t = refl
bits_of-append n (w ∷ ws) t = ap (λ (r : List ℕ). word_bits n w ++ r) (bits_of-append n ws t) ∙ sym (append_assoc (word_bits n w) (bits_of n ws) (bits_of n t))

-- entry i is bit n - 1 - i
pub word_bits_at : (n w i : ℕ) → i < n → get_or (word_bits n w) i 0 ≡ bit (n - 1 - i) w
unfolding word_bits
word_bits_at zero w i l = absurd (omega arith)
word_bits_at (suc n) w zero l = ap (λ (j : ℕ). bit j w) (omega arith)
word_bits_at (suc n) w (suc i) l = word_bits_at n w i (omega arith) ∙ ap (λ (j : ℕ). bit j w) (omega arith)

-- ---- as text

pub length-text : (bits : List ℕ) → length (text bits) ≡ length bits
length-text bits = length-map bits digit

pub text_at : (bits : List ℕ) (i : ℕ) → i < length bits → get_or (text bits) i 0 ≡ digit (get_or bits i 0)
text_at [] i l = absurd (omega arith)
text_at (b ∷ bs) zero l = refl
text_at (b ∷ bs) (suc i) l = text_at bs i (omega arith)

-- bit i of word k, counted from the top, stands at place n k + i
bits_of_at : (n : ℕ) (strip : List ℕ) (k i : ℕ) → k < length strip → i < n → get_or (bits_of n strip) (n * k + i) 0 ≡ bit (n - 1 - i) (get_or strip k 0)
unfolding bits_of
bits_of_at n [] k i l h = absurd (omega arith)
bits_of_at n (w ∷ ws) zero i l h =
    let first : n * 0 + i ≡ i = omega (arith, mul-zero n) in
    ap (λ (j : ℕ). get_or (word_bits n w ++ bits_of n ws) j 0) first
    ∙ get_or-append (word_bits n w) (bits_of n ws) 0 i (omega (arith, length-word_bits n w)) ∙ word_bits_at n w i h
bits_of_at n (w ∷ ws) (suc k) i l h =
    let later : n * suc k + i ≡ length (word_bits n w) + (n * k + i) = omega (arith, length-word_bits n w, mul-suc n k) in
    ap (λ (j : ℕ). get_or (word_bits n w ++ bits_of n ws) j 0) later
    ∙ get_or-append-add (word_bits n w) (bits_of n ws) (n * k + i) 0 ∙ bits_of_at n ws k i (omega arith) h

pub digit_on : (n : ℕ) (strip rest : List ℕ) (k i : ℕ) → k < length strip → i < n
    → get_or (text (bits_of n strip) ++ rest) (n * k + i) 0 ≡ digit (bit (n - 1 - i) (get_or strip k 0))
digit_on n strip rest k i l h =
    let inside : n * k + i < length (bits_of n strip) = omega (arith, length-bits_of n strip, mul-suc n k, mul-le-mul_left {m = suc k} {n = length strip} n l) in
    get_or-append (text (bits_of n strip)) rest 0 (n * k + i) (omega (arith, inside, length-text (bits_of n strip)))
    ∙ text_at (bits_of n strip) (n * k + i) inside ∙ ap digit (bits_of_at n strip k i l h)

-- ---- THE BITS READ BACK ARE THE WORDS

word_back : (n w : ℕ) → word_read (text (word_bits n w)) ≡ w % 2 ^ n
unfolding word_bits word_read
word_back zero w = omega arith
word_back (suc n) w =
    let size : length (text (word_bits n w)) ≡ n = length-text (word_bits n w) ∙ length-word_bits n w in
    let value : digit (bit n w) - 48 ≡ bit n w = omega arith in
    ap₂ (λ (x y : ℕ). x + y) (ap₂ (λ (x y : ℕ). x * 2 ^ y) value size) (word_back n w ∙ sym (from_digits_of 2 n w (omega arith)))
    ∙ sym (from_digits_suc 2 n (λ i. bit i w)) ∙ from_digits_of 2 (suc n) w (omega arith)

pub read_back : (n : ℕ) (strip rest : List ℕ) → ((k : ℕ) → k < length strip → get_or strip k 0 < 2 ^ n)
    → words_read n (length strip) (text (bits_of n strip) ++ rest) ≡ strip
unfolding bits_of words_read
read_back n [] rest h = refl
read_back n (w ∷ ws) rest h =
    let front = text (word_bits n w) in
    let size : length front ≡ n = length-text (word_bits n w) ∙ length-word_bits n w in
    let parts : text (word_bits n w ++ bits_of n ws) ++ rest ≡ front ++ (text (bits_of n ws) ++ rest)
    = ap (λ (t : List ℕ). t ++ rest) (map-append digit (word_bits n w) (bits_of n ws)) ∙ append_assoc front (text (bits_of n ws)) rest in
    ap₂ (λ (x : ℕ) (xs : List ℕ). x ∷ xs)
    (ap word_read (ap (take n) parts ∙ take_at front _ n size) ∙ word_back n w ∙ mod-eq_of_lt (h 0 (omega arith)))
    (ap (words_read n (length ws)) (ap (drop n) parts ∙ drop_at front _ n size) ∙ read_back n ws rest (λ k l. h (suc k) (omega arith)))
