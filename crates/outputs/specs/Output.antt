-- The step of a state and the word of the state that it comes to, by value.
use Rattle.std.specs.Prelude.{◌≡◌, List, ℕ, ◌≤◌}
use Rattle.tsc.specs.declared.Card.{Card}
use Rattle.tsc.specs.declared.State.{State}
use Rattle.tsc.specs.Step.{step}
use Rattle.tsc.specs.Word.{word}
use Rattle.columns.specs.Few.{few_words}
use Rattle.filters.specs.declared.filter.Rotations.{Rotations}
use Rattle.filters.specs.Rotations.{rotations_of}
use Rattle.multiplexer.specs.Leaves.{HasLeaves}
use Rattle.selectors.specs.declared.selector.Terms.{Terms}
use Rattle.stepping.specs.State.{used, Holds, holding, Steps}
use Rattle.outputs.specs.declared.next.Output.{Output}

abbrev pub output : Card → List ℕ → Output
output card xs = record { state = holding (step card xs); word = word card (step card xs) }

-- a function with these conditions and results answers each state of the card with its output
pub record Answers (card : Card) (pre : State → Type 0) (post : State → Output → Type 0) : Type 0 where
  pub callable : (s : State) → Holds card s → pre s
  pub output : (s : State) (o : Output) → Holds card s → post s o → o ≡ output card (used card s)

-- what a step in a row of many words, for a card of few words, asks for: the leaves are those of the powers by which the card steps
pub record StepsByLeaves (card : Card) (terms : Terms) (leaves : List ℕ) (rotations : Rotations) (s : State) : Type 0 where
  pub odd : List ℕ
  pub even : List ℕ
  pub steps : Steps card terms odd even s
  pub filters : rotations ≡ rotations_of card
  pub few : card.words ≤ few_words
  pub leaves_of : HasLeaves odd even leaves
