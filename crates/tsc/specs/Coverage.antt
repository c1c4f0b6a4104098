-- What it is that an orbit brings up every state once and then returns, when that is so, and the step back (document 01, Step, word and pick).
use Rattle.std.specs.Prelude.{◌≡◌, List, ℕ, ◌-◌, ◌*◌, ◌%◌, ◌^◌, ◌≤◌, ◌<◌}
use Rattle.cycle.specs.Cycle.{SingleCycle}
use Rattle.tsc.specs.declared.Card.{Card}
use Rattle.tsc.specs.Constants.{fewest_words, narrowest_width}
use Rattle.tsc.specs.Columns.{InRange}
use Rattle.tsc.specs.Step.{entry, orbit}

-- a state of the card's size
abbrev pub IsState : Card → List ℕ → Type 0
IsState card xs = InRange card.words card.width xs

-- N, the count of states
abbrev pub states : Card → ℕ
states card = 2 ^ (card.words * card.width)

-- the step back: the last state of the orbit before it returns, number N - 1. For an accepted card it is the one state whose step is the given state
unfoldable pub step_back : Card → List ℕ → List ℕ
step_back card xs = orbit card xs (states card - 1)

-- xs stands exactly once among numbers 0 to N - 1 of a sequence
abbrev pub StandsOnce : List ℕ → (ℕ → List ℕ) → ℕ → Type 0
StandsOnce xs f N = (t : ℕ) × (t < N) × (f t ≡ xs) × ((u : ℕ) → u < N → f u ≡ xs → u ≡ t)

-- each of the N states stands exactly once among numbers 0 to N - 1 of a sequence
abbrev pub ListsStates : Card → (ℕ → List ℕ) → Type 0
ListsStates card f = (xs : List ℕ) → IsState card xs → StandsOnce xs f (states card)

-- the orbit lists the states, and number N is number 0 again
pub record Covers (card : Card) (start : List ℕ) : Type 0 where
  pub once : ListsStates card (orbit card start)
  pub returns : orbit card start (states card) ≡ orbit card start 0

-- the part of sound form that coverage rests on: at least 2 words of at least 2 bits, table entries below 2^m
pub record WellFormed (card : Card) : Type 0 where
  pub words : fewest_words ≤ card.words
  pub width : narrowest_width ≤ card.width
  pub entries : (y : ℕ) → y < 2 ^ card.words → entry card y < 2 ^ card.words

-- the premises of document 002, Theorem 2: the table is a single cycle (document 01: a whole ring), C and a are odd, b is even
pub record FullPeriod (card : Card) : Type 0 where
  pub cycle : SingleCycle (2 ^ card.words) (entry card) 0
  pub constant : card.constant % 2 ≡ 1
  pub odd : card.odd_power % 2 ≡ 1
  pub even : card.even_power % 2 ≡ 0
