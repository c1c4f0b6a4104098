-- A state as one number: its columns are the digits in base 2^m, column 0 lowest. Counting states is counting their numbers.
use mathlib.Core.Path.{◌≡◌, sym, ap, ◌∙◌, subst}
use mathlib.Core.Bool.{Bool}
use mathlib.Core.List.{List}
use Prim.Native.Nat.{ℕ, suc, ◌+◌, ◌*◌, ◌/◌, ◌%◌, ◌^◌, ◌<◌}
use native.Mathlib.Nat.{mod-lt, mod-eq_of_lt}
use lib.ListN.{length}
use lib.Pow.{pow_pos}
use Rattle.cycle.specs.Notation.{one, count}
use Rattle.cycle.proofs.Count.{count_ext}
use Rattle.cycle.proofs.Pigeonhole.{sum_injective}
use Rattle.cycle.proofs.Digits.{pow_mul, from_digits, Digits, from_digits_ext, from_digits_suc, from_digits_lt, from_digits_div, from_digits_mod, from_digits_of, from_digits_injective}
use Rattle.tsc.specs.declared.Card.{Card}
use Rattle.tsc.specs.Columns.{InRange, column, from_columns}
use Rattle.tsc.specs.Coverage.{states, StandsOnce, ListsStates}
use Rattle.tsc.proofs.Columns.{column_lt, column-from_columns, from_columns_in_range, columns_ext}

-- the number of the i low columns
unfoldable pub number : ℕ → ℕ → List ℕ → ℕ
number m i xs = from_digits (2 ^ m) i (λ j. column j xs)

-- the state of a number
unfoldable pub state_of : ℕ → ℕ → ℕ → List ℕ
state_of m n z = from_columns m n (λ i. z / (2 ^ m) ^ i % 2 ^ m)

module _ (m : ℕ) (xs : List ℕ) (e : length xs ≡ m) where
  pub columns : (i : ℕ) → Digits (2 ^ m) i (λ j. column j xs)
  columns i j l = subst (λ (a : ℕ). column j xs < 2 ^ a) e (column_lt j xs)

  pub number_lt : (i : ℕ) → number m i xs < (2 ^ m) ^ i
  unfolding number
  number_lt i = from_digits_lt (2 ^ m) i (λ j. column j xs) (columns i)

  pub number_div : (i : ℕ) → number m (suc i) xs / (2 ^ m) ^ i ≡ column i xs
  unfolding number
  number_div i = from_digits_div (2 ^ m) i (λ j. column j xs) (columns i)

  pub number_mod : (i : ℕ) → number m (suc i) xs % (2 ^ m) ^ i ≡ number m i xs
  unfolding number
  number_mod i = from_digits_mod (2 ^ m) i (λ j. column j xs) (columns i)

pub number_suc : (m i : ℕ) (xs : List ℕ) → number m (suc i) xs ≡ column i xs * (2 ^ m) ^ i + number m i xs
unfolding number
number_suc m i xs = from_digits_suc (2 ^ m) i (λ j. column j xs)

pub number_ext : (m i : ℕ) (xs ys : List ℕ) → ((j : ℕ) → j < i → column j xs ≡ column j ys) → number m i xs ≡ number m i ys
unfolding number
number_ext m i xs ys h = from_digits_ext (2 ^ m) i (λ j. column j xs) (λ j. column j ys) h

pub number-columns : (m i : ℕ) (xs ys : List ℕ) → length xs ≡ m → length ys ≡ m → number m i xs ≡ number m i ys
    → (j : ℕ) → j < i → column j xs ≡ column j ys
unfolding number
number-columns m i xs ys ex ey =
    from_digits_injective (2 ^ m) i (λ j. column j xs) (λ j. column j ys) (pow_pos m) (columns m xs ex i) (columns m ys ey i)

pub number_injective : (m n : ℕ) (xs ys : List ℕ) → InRange m n xs → InRange m n ys → number m n xs ≡ number m n ys → xs ≡ ys
number_injective m n xs ys rx ry e = columns_ext m n xs ys rx ry (number-columns m n xs ys rx.0 ry.0 e)

pub state_of_in_range : (m n z : ℕ) → InRange m n (state_of m n z)
unfolding state_of
state_of_in_range m n z = from_columns_in_range m n (λ i. z / (2 ^ m) ^ i % 2 ^ m)

pub number-state_of : (m n z : ℕ) → z < (2 ^ m) ^ n → number m n (state_of m n z) ≡ z
unfolding number state_of
number-state_of m n z l =
    from_digits_ext (2 ^ m) n (λ i. column i (state_of m n z)) (λ i. z / (2 ^ m) ^ i % 2 ^ m) (λ i k.
    column-from_columns m n (λ i. z / (2 ^ m) ^ i % 2 ^ m) i k (mod-lt (z / (2 ^ m) ^ i) (pow_pos m)))
    ∙ from_digits_of (2 ^ m) n z (pow_pos m) ∙ mod-eq_of_lt l

-- ---- the numbers below N = 2^(m n) list the states

module _ (m n : ℕ) where
  pub number-below : (xs : List ℕ) → InRange m n xs → number m n xs < 2 ^ (m * n)
  number-below xs rx = rw (pow_mul 2 m n) (number_lt m xs rx.0 n)

  pub number_of : (z : ℕ) → z < 2 ^ (m * n) → number m n (state_of m n z) ≡ z
  number_of z l = number-state_of m n z (rw (pow_mul 2 m n) at l)

  pub state_of_injective : (y z : ℕ) → y < 2 ^ (m * n) → z < 2 ^ (m * n) → state_of m n y ≡ state_of m n z → y ≡ z
  state_of_injective y z ly lz e = sym (number_of y ly) ∙ ap (number m n) e ∙ number_of z lz

pub numbers_list : (card : Card) → ListsStates card (state_of card.words card.width)
numbers_list card xs sx =
    let m : ℕ = card.words in
    let n : ℕ = card.width in
    let z : ℕ = number m n xs in
    let below = number-below m n xs sx in (
      z,
      below,
      number_injective m n (state_of m n z) xs (state_of_in_range m n z) sx (number_of m n z below),
      λ u l e. sym (number_of m n u l) ∙ ap (number m n) e,
    )

-- however the states are listed, as many of them meet a test
pub count-listed : (card : Card) (s : ℕ → List ℕ) → ListsStates card s → (q : List ℕ → Bool)
    → count (states card) (λ t. q (s t)) ≡ count (states card) (λ z. q (state_of card.words card.width z))
unfolding count
count-listed card s lists q =
    sym (sum_injective (states card) (λ z. (place z).0) (λ t. one (q (s t))) (λ z l. (place z).1) (λ y z ly lz e.
    state_of_injective m n y z ly lz (sym (place y).2 ∙ ap s e ∙ (place z).2)))
    ∙ count_ext (states card) (λ z. q (s (place z).0)) (λ z. q (state_of m n z)) (λ z l. ap q (place z).2)
  where
    m : ℕ
    m = card.words

    n : ℕ
    n = card.width

    -- where the state of number z stands
    place : (z : ℕ) → StandsOnce (state_of m n z) s (states card)
    place z = lists (state_of m n z) (state_of_in_range m n z)
