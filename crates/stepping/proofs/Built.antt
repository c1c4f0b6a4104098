-- States built column by column from the lowest: `Built xs i s` says that s has the columns of xs below i, and no other. The step back is such a loop. And where
-- column i of the step and of the step back comes from.
use mathlib.Core.Path.{◌≡◌, sym, ap, ap₂, ◌∙◌}
use mathlib.Core.Bool.{Bool, true, false, cond}
use mathlib.Core.List.{List}
use Prim.Native.Nat.{ℕ, ◌+◌, ◌^◌, ◌≤◌, ◌<◌}
use native.Mathlib.Nat.{mod-lt, lt_of_lt_of_le}
use native.Mathlib.Omega.{arith}
use lib.Dec.{eqb}
use lib.ListN.{length, get_or, take, replicate}
use lib.Pow.{pow_pos, pow_mono}
use Rattle.cycle.specs.Notation.{iterate, bit}
use Rattle.cycle.proofs.Cycle.{cycle_undo}
use Rattle.tsc.specs.declared.Card.{Card}
use Rattle.tsc.specs.declared.State.{State}
use Rattle.tsc.specs.Constants.{most_words}
use Rattle.tsc.specs.Columns.{InRange, column}
use Rattle.tsc.specs.Selector.{selector}
use Rattle.tsc.specs.Step.{entry, power, step}
use Rattle.tsc.specs.Coverage.{IsState, step_back}
use Rattle.tsc.proofs.LowWords.{low_words, length_low_words, get_or_low_words, take_low_words, low_words_none, low_words_all, column_low_words, column_front}
use Rattle.tsc.proofs.Columns.{column_lt}
use Rattle.tsc.proofs.Number.{columns}
use Rattle.tsc.proofs.Selector.{selector-lower}
use Rattle.tsc.proofs.Step.{column-step}
use Rattle.tsc.proofs.StepBack.{step_back_in_range, step_of_back_lem}
use Rattle.card_format.specs.Verdict.{Accepted}
use Rattle.cycle.proofs.Lists.{take-filled}
use Rattle.columns.specs.Replace.{with_column, image_of}
use Rattle.columns.proofs.Placed.{with_column-low}
use Rattle.columns.proofs.Powers.{image_power}
use Rattle.selectors.specs.declared.selector.Terms.{Terms}
use Rattle.stepping.specs.State.{used, Holds, holding, undone, Steps, Undoes}
use Rattle.stepping.proofs.Holding.{length-holding, column-holding, holding_lt, holding-past}

abbrev pub Built : List ℕ → ℕ → State → Type 0
Built xs i s = s.words ≡ low_words i (holding xs).words

module _ (xs : List ℕ) (h : length xs ≤ most_words) where
  pub built_none : (s : State) → s.words ≡ replicate most_words 0 → Built xs 0 s
  built_none s e = e ∙ ap (λ (n : ℕ). replicate n 0) (sym (length-holding xs h)) ∙ sym (low_words_none (holding xs).words)

  pub built_next : (count i c : ℕ) (s r : State) → length xs ≤ count → Built xs i s → r.words ≡ with_column count i c s.words → c ≡ column i xs → Built xs (i + 1) r
  built_next count i c s r few b e ec =
      e ∙ ap₂ (with_column count i) (ec ∙ sym (column-holding i xs)) b
      ∙ with_column-low count i (holding xs).words (length-holding xs h) (rw (column-holding i xs) (lt_of_lt_of_le (column_lt i xs) (pow_mono few)))

pub built_lt : (xs : List ℕ) (i : ℕ) (s : State) → Built xs i s → (k : ℕ) → k < most_words → get_or s.words k 0 < 2 ^ i
built_lt xs i s b k l = rw (b, get_or_low_words i (holding xs).words k) (mod-lt _ (pow_pos i))

-- with every column built
pub built_all : (m n i : ℕ) (xs : List ℕ) (s : State) → InRange m n xs → i ≡ n → Built xs i s → s ≡ holding xs
built_all m n i xs s r e b =
    let ws = (holding xs).words in
    ap {B = State} (λ (w : List ℕ). record { words = w }) (b ∙ ap (λ (i : ℕ). low_words i ws) e ∙ low_words_all n ws (holding_lt m n xs r))

-- column i of a state s of the card, put through the table as bit i of a selector z says
module _ (card : Card) (terms : Terms) (odd even : List ℕ) (s : State) (count i : ℕ) (few : card.words ≤ count) (l : i < card.width) where
  -- the first words of s have the columns of those that the card uses
  column-used : Holds card s → column i (take count s.words) ≡ column i (used card s)
  column-used held =
      let xs : List ℕ = used card s in
      ap (λ (t : State). column i (take count t.words)) held.1
      ∙ column_front count i (holding xs).words (λ k lk. holding-past xs k (omega (arith, held.0.0))) ∙ column-holding i xs

  column-few : (ys : List ℕ) → IsState card ys → column i ys < 2 ^ card.words
  column-few ys sy = columns card.words ys sy.0 card.width i l

  -- column i of the step
  pub step-column : Steps card terms odd even s → {z : ℕ} → z ≡ selector card (used card s)
      → image_of odd even (bit i z) (column i (take count s.words)) ≡ column i (step card (used card s))
  step-column st e =
      let xs : List ℕ = used card s in
      ap₂ (λ (z c : ℕ). image_of odd even (bit i z) c) e (column-used st.holds)
      ∙ image_power card odd even card.odd_power card.even_power (bit i (selector card xs)) (column i xs) st.first st.second (column-few xs st.holds.0)
      ∙ sym (column-step card st.accepted.formed xs st.holds.0.0 i l)

  -- column i of the step back, once the columns below it are found: they are all that the selector bit depends on
  pub back_column : Undoes card terms odd even s → {z : ℕ} (found : State) → z ≡ selector card (used card found) → Built (step_back card (used card s)) i found
      → image_of odd even (bit i z) (column i (take count s.words)) ≡ column i (step_back card (used card s))
  back_column u found e b =
      let m : ℕ = card.words in
      let ok : Accepted card = u.accepted in
      let held : Holds card s = u.holds in
      let xs : List ℕ = used card s in
      let ys : List ℕ = step_back card xs in
      let sy : IsState card ys = step_back_in_range card xs held.0 in
      let z : ℕ = bit i (selector card ys) in
      let low : used card found ≡ low_words i ys =
      ap (take m) b ∙ take_low_words m i (holding ys).words ∙ ap (low_words i) (take-filled most_words m ys sy.0) in
      let same : bit i (selector card (used card found)) ≡ z =
      ap (λ (w : List ℕ). bit i (selector card w)) low
      ∙ selector-lower card (low_words i ys) ys (length_low_words i ys ∙ sy.0) sy.0 i l (λ j k. column_low_words i j ys k) in
      let moved : column i xs ≡ iterate (entry card) (power card z) (column i ys) =
      ap (column i) (sym (step_of_back_lem card ok.formed ok.period xs held.0)) ∙ column-step card ok.formed ys sy.0 i l in
      ap₂ (image_of odd even) (ap (bit i) e ∙ same) (column-used held)
      ∙ image_power card odd even (undone m card.odd_power) (undone m card.even_power) z (column i xs) u.first u.second (column-few xs held.0)
      ∙ ap (iterate (entry card) (cond (eqb z 1) (undone m card.odd_power) (undone m card.even_power))) moved
      ∙ back (eqb z 1) (column i ys) (column-few ys sy)
    where
      back : (t : Bool) (c : ℕ) → c < 2 ^ card.words → iterate (entry card) (cond t (undone card.words card.odd_power) (undone card.words card.even_power))
          (iterate (entry card) (cond t card.odd_power card.even_power) c) ≡ c
      back true c h = cycle_undo (2 ^ card.words) (entry card) 0 (pow_pos card.words) u.accepted.period.cycle card.odd_power c h
      back false c h = cycle_undo (2 ^ card.words) (entry card) 0 (pow_pos card.words) u.accepted.period.cycle card.even_power c h

-- ---- the step back, column after column

module _ (card : Card) (terms : Terms) (odd even : List ℕ) (s : State) (u : Undoes card terms odd even s) where
  -- the words of the step back; they are a state, and fit one by value
  abbrev earlier : List ℕ
  earlier = step_back card (used card s)

  in_range : IsState card earlier
  in_range = step_back_in_range card (used card s) u.holds.0

  fits : length earlier ≤ most_words
  fits = omega (arith, in_range.0, u.accepted.few)

  pub back_none : (found : State) → found.words ≡ replicate most_words 0 → Built (step_back card (used card s)) 0 found
  back_none found e = built_none earlier fits found e

  pub back_next : (count i z : ℕ) (found next : State) → card.words ≤ count → i < card.width → z ≡ selector card (used card found) → Built (step_back card (used card s)) i found
      → next.words ≡ with_column count i (image_of odd even (bit i z) (column i (take count s.words))) found.words → Built (step_back card (used card s)) (i + 1) next
  back_next count i z found next few l ez b e =
      built_next earlier fits count i _ found next (omega (arith, in_range.0)) b e (back_column card terms odd even s count i few l u found ez b)

  pub back_all : (i : ℕ) (found : State) → i ≡ card.width → Built (step_back card (used card s)) i found → found ≡ holding (step_back card (used card s))
  back_all i found e b = built_all card.words card.width i earlier found in_range e b
