-- States by value: which words they hold, and what their steps ask for.
use Rattle.std.specs.Prelude.{◌≡◌, List, ℕ, ◌-◌, ◌%◌, ◌^◌, take}
use Rattle.tsc.specs.declared.Card.{Card}
use Rattle.tsc.specs.declared.State.{State}
use Rattle.cycle.specs.Notation.{zero_filled}
use Rattle.tsc.specs.Constants.{most_words}
use Rattle.tsc.specs.Coverage.{IsState}
use Rattle.card_format.specs.Verdict.{Accepted}
use Rattle.columns.specs.Replace.{IsPower}
use Rattle.selectors.specs.declared.selector.Terms.{Terms}
use Rattle.selectors.specs.Terms.{IsTerms}

-- the words of a state that a card uses
abbrev pub used : Card → State → List ℕ
used card s = take card.words s.words

-- the state by value of these words: past them it has zeros
abbrev pub holding : List ℕ → State
holding xs = record { words = zero_filled most_words xs }

-- a state by value of the card's size
abbrev pub Holds : Card → State → Type 0
Holds card s = IsState card (used card s) × (s ≡ holding (used card s))

-- k applications of a table of 2^m entries are undone by so many more that whole rounds of its cycle are made
abbrev pub undone : ℕ → ℕ → ℕ
undone m k = 2 ^ m - k % 2 ^ m

-- What a step by these powers asks for: an accepted card, a state of its size, the selector's terms, and arrays that hold the table applied a and b times.
pub record Moves (a b : ℕ) (card : Card) (terms : Terms) (odd even : List ℕ) (s : State) : Type 0 where
  pub accepted : Accepted card
  pub holds : Holds card s
  pub selects : IsTerms card terms
  pub first : IsPower card a odd
  pub second : IsPower card b even

-- by the card's powers, for a step
abbrev pub Steps : Card → Terms → List ℕ → List ℕ → State → Type 0
Steps card = Moves card.odd_power card.even_power card

-- by those that undo them, for a step back
abbrev pub Undoes : Card → Terms → List ℕ → List ℕ → State → Type 0
Undoes card = Moves (undone card.words card.odd_power) (undone card.words card.even_power) card
