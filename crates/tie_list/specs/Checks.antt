-- Conditions 12 to 15 (document 01, Refusal table): what is refused of a list of shovels and times.
use Rattle.std.specs.Prelude.{not, List, [], ◌∷◌, ℕ, eqb, ltb, length}
use Rattle.refusals.specs.Refusals.{Check, check}
use Rattle.refusals.specs.declared.Refusal.TheVariants.{LengthMismatch, NoShovel, TooManyShovels, DuplicateShovel}
use Rattle.ties.specs.Ties.{most_shovels, twice}

-- 13 to 15, of the numbers alone, whether times or places stand beside them
abbrev pub number_checks : List ℕ → List Check
number_checks shovels =
    check NoShovel (eqb (length shovels) 0) ∷ check TooManyShovels (ltb most_shovels (length shovels)) ∷ check DuplicateShovel (twice shovels) ∷ []

unfoldable pub list_checks : List ℕ → List ℕ → List Check
list_checks shovels times = check LengthMismatch (not (eqb (length shovels) (length times))) ∷ number_checks shovels
