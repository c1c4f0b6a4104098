-- A state by value that has the n columns of some words, and zeros in its other columns, is the state of these words; so the step of a state is known by
-- its columns, however they were worked out.
use mathlib.Core.Path.{◌≡◌, sym, ap, ap₂, ◌∙◌}
use mathlib.Core.List.{List}
use Prim.Native.Nat.{ℕ, ◌-◌, ◌*◌, ◌^◌, ◌≤◌, ◌<◌}
use native.Mathlib.Nat.{lt_of_lt_of_le, zero-mul, one-mul}
use native.Mathlib.Decide.{dec_lt}
use native.Mathlib.Omega.{arith}
use lib.ListN.{length, get_or, take}
use lib.Pow.{pow_mono, ones_lt}
use lib.Seq.{ext_get_or}
use Rattle.cycle.specs.Notation.{bit}
use Rattle.cycle.proofs.Bits.{bit_zero, bit_past, bit_ones, bits_ext}
use Rattle.tsc.specs.declared.Card.{Card}
use Rattle.tsc.specs.declared.State.{State}
use Rattle.tsc.specs.Constants.{most_words, widest_width}
use Rattle.tsc.specs.Columns.{InRange, column}
use Rattle.tsc.specs.Selector.{selector}
use Rattle.tsc.specs.Step.{step}
use Rattle.tsc.proofs.LowWords.{bit-column}
use Rattle.tsc.proofs.Step.{step_in_range}
use Rattle.card_format.specs.Verdict.{Accepted}
use Rattle.words.specs.Widths.{IsWidth}
use Rattle.words.proofs.Reduced.{width_is}
use Rattle.columns.specs.Replace.{HasColumns, IsCycle, image_of, Replaced}
use Rattle.selectors.specs.declared.selector.Terms.{Terms}
use Rattle.selectors.specs.Terms.{IsTerms}
use Rattle.stepping.specs.State.{used, holding, Steps}
use Rattle.stepping.proofs.Holding.{length-holding, column-holding, holding_lt, holding-past}
use Rattle.stepping.proofs.Built.{step-column}

-- what the selector and the widths of a card ask for
pub sized : (card : Card) → Accepted card → (0 < card.width) × (card.width ≤ widest_width) × (card.words ≤ most_words)
sized card ok = (omega (arith, ok.formed.width), ok.narrow, ok.few)

module _ (m n : ℕ) (xs : List ℕ) (r : InRange m n xs) (few : m ≤ most_words) (narrow : n ≤ widest_width) where
  -- bit i of word k
  in_place : (f : ℕ → ℕ) → ((i : ℕ) → i < n → f i ≡ column i xs) → (k i : ℕ) → Dec (i < n) → bit k (bit i (2 ^ n - 1) * f i) ≡ bit i (get_or (holding xs).words k 0)
  in_place f h k i (yes l) =
      ap (bit k) (ap₂ (λ (a b : ℕ). a * b) (bit_ones n i l) (h i l ∙ sym (column-holding i xs)) ∙ one-mul (column i (holding xs).words))
      ∙ bit-column i (holding xs).words k
  in_place f h k i (no g) =
      ap (λ (a : ℕ). bit k (a * f i)) (bit_past n i (2 ^ n - 1) (ones_lt n) (omega arith)) ∙ ap (bit k) (zero-mul (f i)) ∙ bit_zero k
      ∙ sym (bit_past n i (get_or (holding xs).words k 0) (holding_lt m n xs r k) (omega arith))

  -- words whose first `count`, at least m, have these columns, and whose others are 0
  holding-columns : (count : ℕ) (s : State) (f : ℕ → ℕ) (low : ℕ) → m ≤ count → length s.words ≡ most_words → ((k : ℕ) → get_or s.words k 0 < 2 ^ widest_width) → low ≡ 2 ^ n - 1
      → HasColumns count s.words (λ i. bit i low * f i) → ((k : ℕ) → count ≤ k → get_or s.words k 0 ≡ 0) → ((i : ℕ) → i < n → f i ≡ column i xs) → s ≡ holding xs
  holding-columns count s f low lm all fits e c others h =
      ap {B = State} (λ (w : List ℕ). record { words = w })
      (ext_get_or 0 s.words (holding xs).words (all ∙ sym (length-holding xs (omega arith))) (λ k lk. word k (dec_lt k count)))
    where
      word : (k : ℕ) → Dec (k < count) → get_or s.words k 0 ≡ get_or (holding xs).words k 0
      word k (yes l) =
          bits_ext widest_width (get_or s.words k 0) (get_or (holding xs).words k 0) (fits k) (lt_of_lt_of_le (holding_lt m n xs r k) (pow_mono narrow)) (λ i li.
          c k l i li ∙ ap (λ (b : ℕ). bit k (bit i b * f i)) e ∙ in_place f h k i (dec_lt i n))
      word k (no g) = others k (omega arith) ∙ sym (holding-past xs k (omega arith))

-- what its powers ask for
pub cycled : (card : Card) → Accepted card → (0 < card.words) × (card.words ≤ most_words) × IsCycle card.words card.table
cycled card ok = (omega (arith, ok.formed.words), ok.few, record { entries = ok.formed.entries; cycle = ok.period.cycle })

-- the width of a card's terms
pub terms_width : (card : Card) (terms : Terms) → Accepted card → IsTerms card terms → IsWidth terms.width
terms_width card terms ok t = width_is _ _ (sized card ok).0 (sized card ok).1 t.width

-- the step, where every column in `low` was put through the power that its bit of z picks
pub step_made : (card : Card) (terms : Terms) (odd even : List ℕ) (s : State) → Steps card terms odd even s → (count z low : ℕ) (r : State) → card.words ≤ count
    → z ≡ selector card (used card s) → low ≡ 2 ^ card.width - 1 → length r.words ≡ most_words → ((k : ℕ) → get_or r.words k 0 < 2 ^ widest_width)
    → Replaced count odd even s.words z low r.words → r ≡ holding (step card (used card s))
step_made card terms odd even s st count z low r few ez el all fits made =
    let xs = used card s in
    holding-columns card.words card.width (step card xs) (step_in_range card xs) st.accepted.few st.accepted.narrow count r
    (λ i. image_of odd even (bit i z) (column i (take count s.words))) low few all fits el made.columns made.others
    (λ i l. step-column card terms odd even s count i few l st ez)
