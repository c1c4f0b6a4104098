-- Refusals 7 to 9 and the verdict on any byte string (document 01, Refusal table).
use Rattle.std.specs.Prelude.{◌≡◌, ◌↔◌, not, ◌||◌, List, [], ◌∷◌, ◌++◌, ℕ, ◌%◌, ◌^◌, ◌≤◌, eqb, Result}
use Rattle.cycle.specs.Cycle.{first_return}
use Rattle.tsc.specs.declared.Card.{Card}
use Rattle.tsc.specs.Constants.{most_words, widest_width}
use Rattle.tsc.specs.Step.{entry}
use Rattle.tsc.specs.Coverage.{IsState, Covers, WellFormed, FullPeriod}
use Rattle.refusals.specs.Refusals.{Check, check, first_of, answered}
use Rattle.refusals.specs.declared.Refusal.TheVariants.{NotSingleCycle, EvenConstant, PowerParity}
use Rattle.card_format.specs.Reading.{card_of, form_checks, SoundForm}

-- conditions 7 to 9, on a card's values: from 0 the table does not first return to 0 after all 2^m entries; C is even; a is even or b is odd
unfoldable pub period_checks : Card → List Check
period_checks card =
    check NotSingleCycle (not (eqb (first_return (entry card) (2 ^ card.words)) (2 ^ card.words)))
    ∷ check EvenConstant (eqb (card.constant % 2) 0)
    ∷ check PowerParity (eqb (card.odd_power % 2) 0 || eqb (card.even_power % 2) 1)
    ∷ []

-- conditions 1 to 9
abbrev pub card_checks : List ℕ → List Check
card_checks bytes = form_checks bytes ++ period_checks (card_of bytes)

-- 0 for an accepted card, else the number of its refusal, 1 to 9
unfoldable pub verdict : List ℕ → ℕ
verdict bytes = first_of (card_checks bytes)

-- DEMAND 3 of an answer r to these bytes: for a card of sound form and any start in range, it is 0 exactly where the orbit brings up every state once and then
-- returns
abbrev pub ZeroIffCovers : List ℕ → ℕ → Type 0
ZeroIffCovers bytes r = SoundForm bytes → (start : List ℕ) → IsState (card_of bytes) start → (r ≡ 0) ↔ Covers (card_of bytes) start

-- what the calls answer that need an accepted card: the eight values, or the first of refusals 1 to 9
unfoldable pub accepting : List ℕ → Result Card ℕ
accepting bytes = answered (verdict bytes) (card_of bytes)

-- what the values of an accepted card are: functions on values ask for it
pub record Accepted (card : Card) : Type 0 where
  pub formed : WellFormed card
  pub period : FullPeriod card
  pub few : card.words ≤ most_words
  pub narrow : card.width ≤ widest_width
