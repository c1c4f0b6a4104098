use mathlib.Core.Path.{◌≡◌}
use Prim.Native.Nat.{ℕ, ◌-◌, ◌<◌, ◌≤◌}
use lib.ListN.{length, get_or}
use Rattle.tsc.specs.declared.State.{State}
use Rattle.tsc.specs.Constants.{most_words}
use Rattle.transposition.specs.Matrix.{byte}
use Rattle.transposition.specs.Groups.{group_count}
use Rattle.transposition.proofs.Filled.{Filled}
use Rattle.transposition.proofs.replace.gathered.Given as goal

-- byte g of each word
abbrev pub row : State → ℕ → ℕ → ℕ
row s g k = byte g (get_or s.words k 0)

abbrev pub invariant-loop-k : goal.invariant-loop-k
invariant-loop-k l = (l.k ≤ most_words) × (l.g < group_count) × (length l.s.words ≡ most_words) × Filled l.k (row l.s l.g) l.q

abbrev pub decreases-loop-k : goal.decreases-loop-k
decreases-loop-k l = most_words - l.k
