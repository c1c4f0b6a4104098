-- A state by value has the columns and the word of the words that it holds.
use mathlib.Core.Path.{◌≡◌, refl, ap, ◌∙◌}
use mathlib.Core.List.{List}
use Prim.Native.Nat.{ℕ, ◌-◌, ◌^◌, ◌≤◌, ◌<◌}
use native.Mathlib.Nat.{le_refl}
use native.Mathlib.Decide.{dec_lt}
use native.Mathlib.Omega.{arith}
use lib.ListN.{length, get_or, replicate, length-append, length-replicate, get_or-eq_default}
use lib.Pow.{pow_pos}
use lib.Seq.{take_all}
use Rattle.cycle.proofs.Lists.{get_or-filled, over, over_zeros, take-filled}
use Rattle.cycle.specs.Notation.{zero_filled}
use Rattle.tsc.specs.declared.Card.{Card}
use Rattle.tsc.specs.Constants.{most_words}
use Rattle.tsc.specs.Columns.{InRange, column}
use Rattle.tsc.specs.Coverage.{IsState}
use Rattle.tsc.specs.Word.{word}
use Rattle.tsc.proofs.LowWords.{column-filled}
use Rattle.tsc.proofs.Word.{word_ext}
use Rattle.stepping.specs.State.{used, Holds, holding}

pub length-holding : (xs : List ℕ) → length xs ≤ most_words → length (holding xs).words ≡ most_words
length-holding xs h =
    omega (arith, length-append xs (replicate (most_words - length xs) 0), length-replicate {A = ℕ} (most_words - length xs) 0)

pub column-holding : (i : ℕ) (xs : List ℕ) → column i (holding xs).words ≡ column i xs
column-holding i xs = column-filled i xs (most_words - length xs)

pub word-holding : (card : Card) (xs : List ℕ) → word card (holding xs).words ≡ word card xs
word-holding card xs = word_ext card (holding xs).words xs (λ k. get_or-filled xs (most_words - length xs) k 0)

-- words of n bits, and zeros past them
pub holding_lt : (m n : ℕ) (xs : List ℕ) → InRange m n xs → (k : ℕ) → get_or (holding xs).words k 0 < 2 ^ n
holding_lt m n xs h k = rw (get_or-filled xs (most_words - length xs) k 0) (go (dec_lt k m))
  where
    go : Dec (k < m) → get_or xs k 0 < 2 ^ n
    go (yes l) = h.1 k l
    go (no g) = rw (get_or-eq_default xs 0 {n = k} (omega (arith, h.0))) (pow_pos n)

-- past the words it has zeros
pub holding-past : (xs : List ℕ) (k : ℕ) → length xs ≤ k → get_or (holding xs).words k 0 ≡ 0
holding-past xs k l = get_or-filled xs (most_words - length xs) k 0 ∙ get_or-eq_default xs 0 {n = k} l

-- zeros overwritten by words
pub over-holding : (xs : List ℕ) → over xs (replicate most_words 0) (length xs) ≡ (holding xs).words
over-holding xs = over_zeros xs most_words (length xs) (le_refl (length xs)) ∙ ap (zero_filled most_words) (take_all (length xs) xs (le_refl (length xs)))

-- a state of the card's size by value
pub held : (card : Card) (xs : List ℕ) → IsState card xs → used card (holding xs) ≡ xs
held card xs sx = take-filled most_words card.words xs sx.0

pub holds : (card : Card) (xs : List ℕ) → IsState card xs → Holds card (holding xs)
holds card xs sx = rw (held card xs sx) (sx, refl)
