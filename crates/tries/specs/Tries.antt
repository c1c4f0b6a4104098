-- How a rank among k ties is drawn by a row of words of n bits: as from a state whose next words they are (crate samples). The contracts of the calls do without.
use Rattle.std.specs.Prelude.{cond, List, ℕ, suc, ◌-◌, ◌%◌, ◌^◌, eqb, ltb, get_or}
use Rattle.cycle.specs.Notation.{first}
use Rattle.cycle.specs.Fair.{largest_multiple}
use Rattle.samples.specs.Samples.{most_taken}
use Rattle.tries.specs.declared.row.Ranked.{Ranked}

-- how many words are passed over: those before the first below L, or else all but the last
unfoldable pub over : ℕ → List ℕ → ℕ → ℕ
over n row k = first (most_taken - 1) (λ t. ltb (get_or row t 0) (largest_multiple (2 ^ n) k))

-- what is drawn; for one tie alone no word is taken
unfoldable pub ranked : ℕ → List ℕ → ℕ → Ranked
ranked n row k = cond (eqb k 1) (record { rank = 0; taken = 0 }) (record { rank = get_or row (over n row k) 0 % k; taken = suc (over n row k) })
