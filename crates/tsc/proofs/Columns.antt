-- Columns of a state: they determine it, and p and s are read off them.
use mathlib.Core.Path.{◌≡◌, refl, sym, ap, ap₂, ◌∙◌}
use mathlib.Core.List.{List, [], ◌∷◌}
use Prim.Native.Nat.{ℕ, zero, suc, ◌+◌, ◌*◌, ◌/◌, ◌%◌, ◌^◌, ◌<◌}
use native.Mathlib.Nat.{zero-mul, le_refl, pow-suc, add-mul, add-mod, add-mod-mod, suc_inj}
use native.Mathlib.Omega.{arith}
use lib.ListN.{length}
use Rattle.cycle.specs.Notation.{tabulate, bit}
use Rattle.cycle.proofs.Parity.{two_pos}
use Rattle.cycle.proofs.Sum.{sum_ext, sum_add, sum_zero}
use Rattle.cycle.proofs.Digits.{from_digits, from_digits_ext, from_digits_lt, from_digits_of, digit_from_digits, length-tabulate, get_d_tabulate, tabulate_ext}
use Rattle.cycle.proofs.Bits.{bit_lt, bit_suc, bit-bit_and, bit_ones, bits_ext}
use Rattle.tsc.specs.Columns.{InRange, column, from_columns}
use Rattle.tsc.specs.Selector.{and_words, sum_words}

pub column_lt : (i : ℕ) (xs : List ℕ) → column i xs < 2 ^ length xs
unfolding column
column_lt i [] = le_refl 1
column_lt i (x ∷ xs) = omega (arith, column_lt i xs, bit_lt i x, pow-suc 2 (length xs))

column_head : (i x c : ℕ) → (bit i x + 2 * c) % 2 ≡ bit i x
column_head i x c = omega arith

column_tail : (i x c : ℕ) → (bit i x + 2 * c) / 2 ≡ c
column_tail i x c = omega arith

-- ---- states from columns

-- the words above the lowest come from the columns' upper bits
from_columns_upper : (m n : ℕ) (c : ℕ → ℕ)
    → tabulate m (λ k. from_digits 2 n (λ i. bit (suc k) (c i))) ≡ tabulate m (λ k. from_digits 2 n (λ i. bit k (c i / 2)))
from_columns_upper m n c =
    tabulate_ext m (λ k. from_digits 2 n (λ i. bit (suc k) (c i))) (λ k. from_digits 2 n (λ i. bit k (c i / 2))) (λ k l.
    from_digits_ext 2 n (λ i. bit (suc k) (c i)) (λ i. bit k (c i / 2)) (λ i j. bit_suc k (c i)))

pub column-from_columns : (m n : ℕ) (c : ℕ → ℕ) (i : ℕ) → i < n → c i < 2 ^ m → column i (from_columns m n c) ≡ c i
unfolding column from_columns tabulate
column-from_columns zero n c i l h = omega (arith, h)
column-from_columns (suc m) n c i l h =
    let r : column i (from_columns m n (λ j. c j / 2)) ≡ c i / 2 =
    column-from_columns m n (λ j. c j / 2) i l (omega (arith, h, pow-suc 2 m)) in
    let u : column i (tabulate m (λ k. from_digits 2 n (λ j. bit (suc k) (c j)))) ≡ c i / 2 = ap (column i) (from_columns_upper m n c) ∙ r in
    let b : bit i (from_digits 2 n (λ j. bit 0 (c j))) ≡ bit 0 (c i) =
    digit_from_digits 2 n (λ j. bit 0 (c j)) two_pos (λ j k. bit_lt 0 (c j)) i l in
    omega (arith, u, b)

pub from_columns_in_range : (m n : ℕ) (c : ℕ → ℕ) → InRange m n (from_columns m n c)
unfolding from_columns
from_columns_in_range m n c = (
  length-tabulate m (λ k. from_digits 2 n (λ i. bit k (c i))),
  λ k l. rw (get_d_tabulate m (λ k. from_digits 2 n (λ i. bit k (c i))) k l) (from_digits_lt 2 n (λ i. bit k (c i)) (λ i l. bit_lt k (c i))),
)

-- states with the same columns are equal
pub columns_ext : (m n : ℕ) (xs ys : List ℕ) → InRange m n xs → InRange m n ys → ((i : ℕ) → i < n → column i xs ≡ column i ys) → xs ≡ ys
unfolding column
columns_ext zero n [] [] rx ry h = refl
columns_ext zero n [] (y ∷ ys) rx ry h = absurd (omega arith)
columns_ext zero n (x ∷ xs) ys rx ry h = absurd (omega arith)
columns_ext (suc m) n [] ys rx ry h = absurd (omega arith)
columns_ext (suc m) n (x ∷ xs) [] rx ry h = absurd (omega arith)
columns_ext (suc m) n (x ∷ xs) (y ∷ ys) rx ry h =
    ap₂ (λ (a : ℕ) (l : List ℕ). a ∷ l)
    (bits_ext n x y (rx.1 0 (omega arith)) (ry.1 0 (omega arith)) (λ i l. omega (arith, h i l)))
    (columns_ext m n xs ys (suc_inj rx.0, λ k l. rx.1 (suc k) (omega arith)) (suc_inj ry.0, λ k l. ry.1 (suc k) (omega arith)) (λ i l. omega (arith, h i l)))

-- ---- p and s by columns

-- 1 where all m bits of y are ones, else 0
unfoldable pub all_ones : ℕ → ℕ → ℕ
all_ones zero y = 1
all_ones (suc m) y = y % 2 * all_ones m (y / 2)

-- how many of the m bits of y are ones
unfoldable pub popcount : ℕ → ℕ → ℕ
popcount zero y = 0
popcount (suc m) y = y % 2 + popcount m (y / 2)

pub bit-and_words : (n i : ℕ) (xs : List ℕ) → i < n → bit i (and_words n xs) ≡ all_ones (length xs) (column i xs)
unfolding and_words all_ones column
bit-and_words n i [] l = bit_ones n i l
bit-and_words n i (x ∷ xs) l =
    bit-bit_and i x (and_words n xs) ∙ rw (column_head, column_tail) (ap (λ (a : ℕ). bit i x * a) (bit-and_words n i xs l))

pub sum_words_mod : (i : ℕ) (xs : List ℕ) → sum_words xs % 2 ^ i ≡ from_digits 2 i (λ j. popcount (length xs) (column j xs)) % 2 ^ i
unfolding sum_words popcount column
sum_words_mod i [] = ap (λ (a : ℕ). a % 2 ^ i) (sym (sum_ext i (λ j. 0 * 2 ^ j) (λ j. 0) (λ j l. zero-mul (2 ^ j)) ∙ sum_zero i))
sum_words_mod i (x ∷ xs) =
    add-mod x (sum_words xs) (2 ^ i) ∙ ap₂ (λ (a b : ℕ). (a + b) % 2 ^ i) (sym (from_digits_of 2 i x two_pos)) (sum_words_mod i xs)
    ∙ add-mod-mod (from_digits 2 i (λ j. bit j x)) (from_digits 2 i (λ j. popcount (length xs) (column j xs))) (2 ^ i)
    ∙ ap (λ (a : ℕ). a % 2 ^ i)
    (sym (sum_add i (λ j. bit j x * 2 ^ j) (λ j. popcount (length xs) (column j xs) * 2 ^ j))
    ∙ sum_ext i _ _ (λ j l. rw (column_head, column_tail) (sym (add-mul (bit j x) (popcount (length xs) (column j xs)) (2 ^ j)))))
