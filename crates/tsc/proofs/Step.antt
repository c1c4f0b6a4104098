-- The step on columns and on the numbers of states: a tower of skew products, one column on another.
use mathlib.Core.Path.{◌≡◌, refl, ap, ap₂, ◌∙◌}
use mathlib.Core.List.{List}
use Prim.Native.Nat.{ℕ, zero, suc, ◌+◌, ◌*◌, ◌^◌, ◌≤◌, ◌<◌}
use native.Mathlib.Omega.{arith}
use lib.Dec.{eqb}
use lib.ListN.{length}
use Rattle.cycle.specs.Notation.{sum, iterate, bit}
use Rattle.cycle.proofs.Iterate.{iterate-below}
use Rattle.cycle.proofs.Skew.{skew}
use Rattle.tsc.specs.declared.Card.{Card}
use Rattle.tsc.specs.Columns.{column}
use Rattle.tsc.specs.Selector.{selector}
use Rattle.tsc.specs.Step.{entry, power, step, orbit}
use Rattle.tsc.specs.Coverage.{IsState, WellFormed}
use Rattle.tsc.proofs.Columns.{column-from_columns, from_columns_in_range}
use Rattle.tsc.proofs.Number.{number, columns, number_div, number_mod, number_suc}
use Rattle.tsc.proofs.Parity.{selector_bit}
use Rattle.tsc.proofs.Selector.{bit-selector}

-- the step of any list of words is a state
pub step_in_range : (card : Card) (xs : List ℕ) → IsState card (step card xs)
unfolding step
step_in_range card xs =
    from_columns_in_range card.words card.width (λ i. iterate (entry card) (power card (bit i (selector card xs))) (column i xs))

pub orbit_in_range : (card : Card) (start : List ℕ) → IsState card start → (t : ℕ) → IsState card (orbit card start t)
unfolding iterate
orbit_in_range card start st zero = st
orbit_in_range card start st (suc t) = step_in_range card (orbit card start t)

-- how often the table is applied to column i, by the number of the columns below it
unfoldable pub power_below : Card → ℕ → ℕ → ℕ
power_below card i x = power card (selector_bit card.words (eqb card.sum_term 1) card.constant i x)

-- the step on the number of the i low columns
unfoldable pub step_number : Card → ℕ → ℕ → ℕ
step_number card zero z = 0
step_number card (suc i) z = skew ((2 ^ card.words) ^ i) (step_number card i) (entry card) (power_below card i) z

module _ (card : Card) (wf : WellFormed card) (xs : List ℕ) (e : length xs ≡ card.words) where
  -- document 002 (12), read off the columns
  pub column-step : (i : ℕ) → i < card.width
      → column i (step card xs) ≡ iterate (entry card) (power card (bit i (selector card xs))) (column i xs)
  unfolding step
  column-step i l =
      column-from_columns card.words card.width (λ j. iterate (entry card) (power card (bit j (selector card xs))) (column j xs)) i l
      (iterate-below (2 ^ card.words) (entry card) wf.entries (power card (bit i (selector card xs))) (column i xs)
      (columns card.words xs e card.width i l))

  pub number_step : (i : ℕ) → i ≤ card.width → number card.words i (step card xs) ≡ step_number card i (number card.words i xs)
  unfolding step_number skew power_below number sum
  number_step zero l = refl
  number_step (suc i) l =
      rw (number_div card.words xs e i, number_mod card.words xs e i)
      (number_suc card.words i (step card xs)
      ∙ ap₂ (λ (a b : ℕ). a * (2 ^ card.words) ^ i + b)
      (column-step i l ∙ ap (λ (s : ℕ). iterate (entry card) (power card s) (column i xs)) (bit-selector card xs e i l))
      (number_step i (omega arith)))
