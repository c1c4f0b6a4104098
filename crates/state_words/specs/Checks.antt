-- Conditions 10 and 11 (document 01, Refusal table): what is refused of lent state words.
use Rattle.std.specs.Prelude.{not, List, [], ◌∷◌, ℕ, ◌^◌, eqb, ltb, length, get_or}
use Rattle.cycle.specs.Notation.{every}
use Rattle.refusals.specs.Refusals.{Check, check}
use Rattle.refusals.specs.declared.Refusal.TheVariants.{WordCount, WordTooWide}

-- the state has not m words; a word is 2^n or more
unfoldable pub state_checks : ℕ → ℕ → List ℕ → List Check
state_checks m n xs =
    check WordCount (not (eqb (length xs) m)) ∷ check WordTooWide (not (every (length xs) (λ k. ltb (get_or xs k 0) (2 ^ n)))) ∷ []
