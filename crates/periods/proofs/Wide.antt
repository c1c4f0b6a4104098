-- EVERY ACCEPTED CARD OF 32-BIT WORDS, from any start: its words don't repeat before all states have passed. The opposite of the all-zero state has a top
-- column that is not 0, and 0 in every other. The words of all such states are computed, for each number of words and both filters, and none is that of the
-- all-zero state.
--   opposite-of-zeros   the opposite of the all-zero state
--   wide-period         the theorem
use mathlib.Core.Path.{◌≡◌, refl, sym, ap, ◌∙◌, subst}
use mathlib.Core.Logic.{◌≢◌}
use mathlib.Core.Bool.{Bool, true, false, cond, not, ◌&&◌, and-eq-true_iff}
use mathlib.Core.List.{List, []}
use Prim.Native.Nat.{ℕ, suc, ◌-◌, ◌/◌, ◌%◌, ◌^◌, ◌<◌}
use native.Mathlib.Nat.{mod-lt, zero-div, zero-mod}
use native.Mathlib.Omega.{arith}
use borrow.Author.Tests.{eqb-false, not-true}
use lib.Dec.{eqb}
use lib.Pow.{pow_pos}
use Rattle.cycle.specs.Notation.{sum, every, tabulate, iterate}
use Rattle.cycle.specs.Period.{LeastPeriod}
use Rattle.cycle.proofs.Every.{every_at}
use Rattle.cycle.proofs.Iterate.{iterate-below}
use Rattle.tsc.specs.declared.Card.{Card}
use Rattle.tsc.specs.Constants.{most_words}
use Rattle.tsc.specs.Columns.{column, from_columns}
use Rattle.tsc.specs.Step.{entry}
use Rattle.tsc.specs.Word.{◌⊞◌, ◌⋘◌, filter1, filter2, further, word, word_at}
use Rattle.tsc.specs.Coverage.{states}
use Rattle.tsc.specs.Opposite.{opposite, Differs}
use Rattle.tsc.proofs.Columns.{column-from_columns}
use Rattle.tsc.proofs.Number.{state_of, state_of_in_range}
use Rattle.tsc.proofs.ColumnPeriod.{half_moves, moves, opposite_by}
use Rattle.tsc.proofs.WordPeriod.{word-period}
use Rattle.card_format.specs.Verdict.{Accepted}

-- ---- the words of states with a top column and nothing else

-- m words of n bits whose columns are 0 but the top one, which is c
top_only : ℕ → ℕ → ℕ → List ℕ
top_only m n c = from_columns m n (λ i. cond (eqb (suc i) n) c 0)

-- a card of this width and filter, and nothing else: the word of a state depends on no more
plain : ℕ → Bool → Card
plain n second =
    record {
      words = 0;
      width = n;
      table = [];
      odd_power = 0;
      even_power = 0;
      constant = 0;
      filter = cond second 2 1;
      sum_term = 0;
    }

word_plain : (card : Card) (xs : List ℕ) → word card xs ≡ word (plain card.width (eqb card.filter 2)) xs
unfolding word plain
word_plain card xs = rw (same (eqb card.filter 2)) refl
  where
    same : (b : Bool) → eqb (cond b 2 1) 2 ≡ b
    same true = refl
    same false = refl

-- whether for every top column but 0 the word is another than that of zeros
differing : ℕ → Bool → ℕ → Bool
differing n second m = every (2 ^ m - 1) (λ c. not (eqb (word (plain n second) (state_of m n 0)) (word (plain n second) (top_only m n (suc c)))))

-- it is, for up to 8 words (accepted cards have 2 and more)
computed : every (suc most_words) (λ m. differing 32 true m && differing 32 false m) ≡ true
unfolding sum every tabulate from_columns ◌⊞◌ ◌⋘◌ filter1 filter2 further word state_of top_only plain differing
computed = refl

words_differ : (m : ℕ) → m < suc most_words → (second : Bool) (c : ℕ) → c < 2 ^ m → c ≢ 0 → word (plain 32 second) (state_of m 32 0) ≢ word (plain 32 second) (top_only m 32 c)
unfolding differing
words_differ m l second c lc ne =
    let both = (and-eq-true_iff (differing 32 true m) (differing 32 false m)).0 (every_at (suc most_words) _ computed m l) in
    let e : suc (c - 1) ≡ c = omega (arith, ne) in
    subst (λ (c : ℕ). word (plain 32 second) (state_of m 32 0) ≢ word (plain 32 second) (top_only m 32 c)) e
    (eqb-false _ _ (not-true _ (every_at (2 ^ m - 1) _ (go second both.0 both.1) (c - 1) (omega (arith, ne)))))
  where
    go : (b : Bool) → differing 32 true m ≡ true → differing 32 false m ≡ true → differing 32 b m ≡ true
    go true y n = y
    go false y n = n

-- ---- the theorem

module _ (card : Card) (a : Accepted card) where
  abbrev m : ℕ
  m = card.words

  abbrev n : ℕ
  n = card.width

  -- the all-zero state
  abbrev zeros : List ℕ
  zeros = state_of m n 0

  column-zeros : (i : ℕ) → i < n → column i zeros ≡ 0
  unfolding state_of
  column-zeros i l =
      column-from_columns m n (λ i. 0 / (2 ^ m) ^ i % 2 ^ m) i l (mod-lt (0 / (2 ^ m) ^ i) (pow_pos m))
      ∙ ap (λ (a : ℕ). a % 2 ^ m) (zero-div ((2 ^ m) ^ i)) ∙ zero-mod (2 ^ m)

  -- the top column of the opposite
  moved : ℕ
  moved = iterate (entry card) (2 ^ (m - 1)) 0

  moved-below : moved < 2 ^ m
  unfolding moved
  moved-below = iterate-below (2 ^ m) (entry card) a.formed.entries (2 ^ (m - 1)) 0 (pow_pos m)

  opposite_of_zeros : opposite card zeros ≡ top_only m n moved
  unfolding top_only moved iterate
  opposite_of_zeros =
      opposite_by card a.formed a.period zeros (state_of_in_range m n 0) (λ i. cond (eqb (suc i) n) moved 0) (λ i l.
      ap (iterate (entry card) (moves card i)) (column-zeros i l) ∙ go (eqb (suc i) n))
    where
      go : (b : Bool) → iterate (entry card) (cond b (2 ^ (m - 1)) 0) 0 ≡ cond b moved 0
      go true = refl
      go false = refl

  zeros_differ : n ≡ 32 → Differs card zeros
  unfolding moved
  zeros_differ wide e =
      subst (λ (n : ℕ). word (plain n second) (state_of m n 0) ≢ word (plain n second) (top_only m n moved)) (sym wide)
      (words_differ m (omega (arith, a.few)) second moved moved-below (half_moves card a.formed a.period 0 (pow_pos m)))
      (sym (word_plain card zeros) ∙ e ∙ ap (word card) opposite_of_zeros ∙ word_plain card (top_only m n moved))
    where
      second : Bool
      second = eqb card.filter 2

  pub wide-period : n ≡ 32 → (start : List ℕ) → LeastPeriod (word_at card start) (states card)
  wide-period wide start = (word-period card a.formed a.period start).1 (zeros, state_of_in_range m n 0, zeros_differ wide)
