use mathlib.Core.Path.{◌≡◌}
use mathlib.Core.List.{List}
use Prim.Native.Nat.{ℕ, ◌-◌, ◌<◌, ◌≤◌}
use lib.ListN.{length, get_or}
use Rattle.tsc.specs.Constants.{most_words}
use Rattle.transposition.specs.Matrix.{byte}
use Rattle.transposition.specs.Groups.{group_count}
use Rattle.transposition.proofs.Filled.{Filled}
use Rattle.transposition.proofs.replace.word_of.Given as goal

-- row k of each group
abbrev pub rows : List ℕ → ℕ → ℕ → ℕ
rows groups k i = byte k (get_or groups i 0)

abbrev pub invariant-loop-i : goal.invariant-loop-i
invariant-loop-i l = (l.i ≤ group_count) × (l.k < most_words) × (length l.groups ≡ group_count) × Filled l.i (rows l.groups l.k) l.x

abbrev pub decreases-loop-i : goal.decreases-loop-i
decreases-loop-i l = group_count - l.i
