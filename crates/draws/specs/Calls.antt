-- What the calls answer and what the lent state words are after them (document 01, Refusal table, and Step, word and pick), for any bytes and any words.
use Rattle.std.specs.Prelude.{◌≡◌, cond, List, ◌++◌, ℕ, eqb, Result}
use Rattle.tsc.specs.declared.Card.{Card}
use Rattle.tsc.specs.Coverage.{IsState, step_back}
use Rattle.tsc.specs.Step.{step}
use Rattle.tsc.specs.Word.{word}
use Rattle.refusals.specs.Refusals.{Check, first_of, answered}
use Rattle.card_format.specs.Reading.{card_of}
use Rattle.card_format.specs.Verdict.{card_checks}
use Rattle.state_words.specs.Checks.{state_checks}

-- what each call looks at: 1 to 9, then 10 and 11
abbrev pub call_checks : List ℕ → List ℕ → List Check
call_checks bytes xs = card_checks bytes ++ state_checks (card_of bytes).words (card_of bytes).width xs

-- the refusal that a step, a step back and a draw tell of a card's bytes and a state; 0 where none applies
unfoldable pub refusal_for : List ℕ → List ℕ → ℕ
refusal_for bytes xs = first_of (call_checks bytes xs)

-- the state words after a call: ys, or as lent where it refuses
abbrev pub unless_refused : List ℕ → List ℕ → List ℕ → List ℕ
unless_refused bytes xs ys = cond (eqb (refusal_for bytes xs) 0) ys xs

-- after a step, and after a draw
unfoldable pub stepped : List ℕ → List ℕ → List ℕ
stepped bytes xs = unless_refused bytes xs (step (card_of bytes) xs)

unfoldable pub stepped_back : List ℕ → List ℕ → List ℕ
stepped_back bytes xs = unless_refused bytes xs (step_back (card_of bytes) xs)

-- xs is the one state whose step is ys
abbrev pub OnlyBefore : Card → List ℕ → List ℕ → Type 0
OnlyBefore card xs ys = IsState card xs × (step card xs ≡ ys) × ((zs : List ℕ) → IsState card zs → step card zs ≡ ys → zs ≡ xs)

-- what a draw answers: the word of the state after the step, or the refusal
unfoldable pub drawing : List ℕ → List ℕ → Result ℕ ℕ
drawing bytes xs = answered (refusal_for bytes xs) (word (card_of bytes) (step (card_of bytes) xs))
