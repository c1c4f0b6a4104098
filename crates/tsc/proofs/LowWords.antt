-- The low bits of a state's words, which hold its low columns: what a state looks like that is built column by column from the lowest.
use mathlib.Core.Path.{◌≡◌, refl, sym, ap, ap₂, ◌∙◌}
use mathlib.Core.List.{List, [], ◌∷◌, ◌++◌}
use Prim.Native.Nat.{ℕ, zero, suc, ◌+◌, ◌*◌, ◌/◌, ◌%◌, ◌^◌, ◌≤◌, ◌<◌}
use native.Mathlib.Nat.{mod-eq_of_lt, mod-one, zero-mod, zero-div, add_comm}
use native.Mathlib.Omega.{arith}
use lib.ListN.{length, get_or, replicate, take}
use lib.Pow.{mod-pow-add}
use Rattle.cycle.specs.Notation.{bit}
use Rattle.cycle.proofs.Bits.{bit_lt, bit_suc, bit_mod}
use Rattle.tsc.specs.Columns.{column}

unfoldable pub low_words : ℕ → List ℕ → List ℕ
low_words i [] = []
low_words i (x ∷ xs) = x % 2 ^ i ∷ low_words i xs

pub length_low_words : (i : ℕ) (xs : List ℕ) → length (low_words i xs) ≡ length xs
unfolding low_words
length_low_words i [] = refl
length_low_words i (x ∷ xs) = ap suc (length_low_words i xs)

pub get_or_low_words : (i : ℕ) (xs : List ℕ) (k : ℕ) → get_or (low_words i xs) k 0 ≡ get_or xs k 0 % 2 ^ i
unfolding low_words
get_or_low_words i [] k = sym (zero-mod (2 ^ i))
get_or_low_words i (x ∷ xs) zero = refl
get_or_low_words i (x ∷ xs) (suc k) = get_or_low_words i xs k

pub take_low_words : (m i : ℕ) (xs : List ℕ) → take m (low_words i xs) ≡ low_words i (take m xs)
unfolding low_words
take_low_words zero i xs = refl
take_low_words (suc m) i [] = refl
take_low_words (suc m) i (x ∷ xs) = ap (λ (l : List ℕ). x % 2 ^ i ∷ l) (take_low_words m i xs)

-- none of the columns
pub low_words_none : (xs : List ℕ) → low_words 0 xs ≡ replicate (length xs) 0
unfolding low_words
low_words_none [] = refl
low_words_none (x ∷ xs) = ap₂ (λ (y : ℕ) (l : List ℕ). y ∷ l) (mod-one x) (low_words_none xs)

-- all of them
pub low_words_all : (n : ℕ) (xs : List ℕ) → ((k : ℕ) → get_or xs k 0 < 2 ^ n) → low_words n xs ≡ xs
unfolding low_words
low_words_all n [] h = refl
low_words_all n (x ∷ xs) h = ap₂ (λ (y : ℕ) (l : List ℕ). y ∷ l) (mod-eq_of_lt (h 0)) (low_words_all n xs (λ k. h (suc k)))

-- the columns below i are there
pub column_low_words : (i j : ℕ) (xs : List ℕ) → j < i → column j (low_words i xs) ≡ column j xs
unfolding low_words column
column_low_words i j [] l = refl
column_low_words i j (x ∷ xs) l = ap₂ (λ (b c : ℕ). b + 2 * c) (bit_mod i j x l) (column_low_words i j xs l)

-- document 002 (2): bit k of column i is bit i of word k
pub bit-column : (i : ℕ) (xs : List ℕ) (k : ℕ) → bit k (column i xs) ≡ bit i (get_or xs k 0)
unfolding column
bit-column i [] k = ap (λ (a : ℕ). a % 2) (zero-div (2 ^ k)) ∙ sym (ap (λ (a : ℕ). a % 2) (zero-div (2 ^ i)))
bit-column i (x ∷ xs) zero = omega (arith, bit_lt i x)
bit-column i (x ∷ xs) (suc k) =
    let tail : (bit i x + 2 * column i xs) / 2 ≡ column i xs = omega (arith, bit_lt i x) in
    bit_suc k (bit i x + 2 * column i xs) ∙ ap (bit k) tail ∙ bit-column i xs k

-- one bit more
pub mod_bit : (x i : ℕ) → x % 2 ^ (i + 1) ≡ x % 2 ^ i + bit i x * 2 ^ i
mod_bit x i = ap (λ (k : ℕ). x % 2 ^ k) (add_comm i 1) ∙ mod-pow-add x 1 i ∙ add_comm (bit i x * 2 ^ i) (x % 2 ^ i)

-- absent words count as 0: words of zeros past the others change no column
pub column-zeros : (i n : ℕ) → column i (replicate n 0) ≡ 0
unfolding column
column-zeros i zero = refl
column-zeros i (suc n) = omega (arith, column-zeros i n, zero-div (2 ^ i))

pub column-filled : (i : ℕ) (xs : List ℕ) (n : ℕ) → column i (xs ++ replicate n 0) ≡ column i xs
unfolding column
column-filled i [] n = column-zeros i n
column-filled i (x ∷ xs) n = ap (λ (c : ℕ). bit i x + 2 * c) (column-filled i xs n)

-- so the columns of the first words are those of all, where the others are 0
pub column_front : (c i : ℕ) (xs : List ℕ) → ((k : ℕ) → c ≤ k → get_or xs k 0 ≡ 0) → column i (take c xs) ≡ column i xs
unfolding column
column_front zero i [] h = refl
column_front zero i (x ∷ xs) h =
    omega (arith, column_front zero i xs (λ k l. h (suc k) (omega arith)), ap (bit i) (h 0 (omega arith)), zero-div (2 ^ i))
column_front (suc c) i [] h = refl
column_front (suc c) i (x ∷ xs) h = ap (λ (d : ℕ). bit i x + 2 * d) (column_front c i xs (λ k l. h (suc k) (omega arith)))
