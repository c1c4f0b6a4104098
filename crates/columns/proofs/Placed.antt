-- A bit put above a word's i bits, and a column of few words.
use mathlib.Core.Path.{◌≡◌, sym, ap, ap₂, ◌∙◌}
use mathlib.Core.List.{List, ◌++◌}
use Prim.Native.Nat.{ℕ, ◌+◌, ◌*◌, ◌%◌, ◌^◌, ◌<◌, ◌≤◌}
use native.Mathlib.Nat.{pow-suc, mul-le-mul_right, le_of_suc-le-suc, one-mul, zero-mul, add-zero, lt_of_lt_of_le, mod-lt, mod-eq_of_lt}
use native.Mathlib.Numerals.{add-one}
use native.Mathlib.Omega.{arith}
use lib.ListN.{length, get_or, take, drop, length-drop, take-append-drop}
use lib.Pow.{shl_exact, pow_mono, pow_pos}
use lib.Seq.{length-take-le, take_all, ext_get_or, get_or-drop}
use Rattle.cycle.specs.Notation.{bit}
use Rattle.cycle.proofs.Bits.{bit_mod, bit_past}
use Rattle.cycle.proofs.Digits.{length-tabulate, get_d_tabulate, tabulate_ext, tabulate-get_or}
use Rattle.cycle.proofs.Lists.{over}
use Rattle.tsc.specs.Constants.{most_words}
use Rattle.tsc.specs.Columns.{column}
use Rattle.tsc.proofs.Columns.{column_lt}
use Rattle.tsc.proofs.LowWords.{low_words, length_low_words, get_or_low_words, bit-column, mod_bit}
use Rattle.words.proofs.Words.{words_from}
use Rattle.columns.specs.Replace.{with_column}

-- a bit shifted to place i in a word of w bits
pub placed : (b i w : ℕ) → b < 2 → i < w → b * 2 ^ i % 2 ^ w ≡ b * 2 ^ i
placed b i w l h = shl_exact {a = b} 1 i w l (omega arith)

-- a bit above i bits makes i + 1 bits
pub above_lt : (x b i : ℕ) → x < 2 ^ i → b < 2 → x + b * 2 ^ i < 2 ^ (i + 1)
above_lt x b i h l =
    let m : b * 2 ^ i ≤ 1 * 2 ^ i = mul-le-mul_right (2 ^ i) (le_of_suc-le-suc l) in
    omega (arith, ap (λ (k : ℕ). 2 ^ k) (add-one i) ∙ pow-suc 2 i, one-mul (2 ^ i))

-- a column of the first words, from word k on
pub column-few : (i k count : ℕ) (ws : List ℕ) → count ≤ most_words → length ws ≡ most_words → column i (words_from k count ws) < 2 ^ most_words
column-few i k count ws few e =
    lt_of_lt_of_le (column_lt i (words_from k count ws))
    (pow_mono {j = most_words} (omega (arith, length-drop k (take count ws), length-take-le count ws (omega arith))))

module _ (count i c : ℕ) (ws : List ℕ) where
  pub length-with_column : length (with_column count i c ws) ≡ most_words
  unfolding with_column
  length-with_column = length-tabulate most_words _

  with_at : (k : ℕ) → k < most_words → get_or (with_column count i c ws) k 0 ≡ get_or ws k 0 + bit k (c % 2 ^ count) * 2 ^ i
  unfolding with_column
  with_at k l = get_d_tabulate most_words _ k l

  pub get_or-with_column : (k : ℕ) → k < count → k < most_words → get_or (with_column count i c ws) k 0 ≡ get_or ws k 0 + bit k c * 2 ^ i
  get_or-with_column k h l = with_at k l ∙ ap (λ (b : ℕ). get_or ws k 0 + b * 2 ^ i) (bit_mod count k c h)

  -- the words past the first are as they were
  pub with_column_rest : count ≤ most_words → length ws ≡ most_words → over (with_column count i c ws) ws count ≡ with_column count i c ws
  with_column_rest few e =
      ap (λ (r : List ℕ). take count (with_column count i c ws) ++ r)
      (ext_get_or 0 (drop count ws) (drop count (with_column count i c ws)) (simp length-drop (omega (arith, length-with_column))) (λ k l.
      get_or-drop count ws k 0
      ∙ sym (get_or-drop count (with_column count i c ws) k 0 ∙ with_at (count + k) (omega (arith, length-drop count ws))
      ∙ ap (λ (b : ℕ). get_or ws (count + k) 0 + b * 2 ^ i) (bit_past count (count + k) (c % 2 ^ count) (mod-lt c (pow_pos count)) (omega arith))
      ∙ ap (λ (a : ℕ). get_or ws (count + k) 0 + a) (zero-mul (2 ^ i)) ∙ add-zero (get_or ws (count + k) 0))))
      ∙ take-append-drop count (with_column count i c ws)

-- column i of a state on top of the columns below it: the columns up to i
pub with_column-low : (count i : ℕ) (ws : List ℕ) → length ws ≡ most_words → column i ws < 2 ^ count → with_column count i (column i ws) (low_words i ws) ≡ low_words (i + 1) ws
unfolding with_column
with_column-low count i ws e few =
    let size : length (low_words (i + 1) ws) ≡ most_words = length_low_words (i + 1) ws ∙ e in
    tabulate_ext most_words (λ k. get_or (low_words i ws) k 0 + bit k (column i ws % 2 ^ count) * 2 ^ i) (λ k. get_or (low_words (i + 1) ws) k 0) (λ k l.
    ap₂ (λ (x b : ℕ). x + b * 2 ^ i) (get_or_low_words i ws k) (ap (bit k) (mod-eq_of_lt few) ∙ bit-column i ws k)
    ∙ sym (mod_bit (get_or ws k 0) i) ∙ sym (get_or_low_words (i + 1) ws k))
    ∙ tabulate-get_or most_words (low_words (i + 1) ws) (omega arith) ∙ take_all most_words (low_words (i + 1) ws) (omega arith)
