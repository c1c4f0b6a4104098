-- What an inner function answers. The contracts of the calls do without.
use Rattle.std.specs.Prelude.{Bool, List, ℕ, eqb, ltb, get_or}
use Rattle.cycle.specs.Notation.{count}

-- whether number i stands before i as well
unfoldable pub repeats_at : List ℕ → ℕ → Bool
repeats_at shovels i = ltb 0 (count i (λ j. eqb (get_or shovels j 0) (get_or shovels i 0)))
