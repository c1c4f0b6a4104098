use mathlib.Core.Path.{◌≡◌}
use mathlib.Core.List.{List}
use Prim.Native.Nat.{ℕ, ◌-◌, ◌*◌, ◌≤◌}
use lib.ListN.{length}
use Rattle.cycle.specs.Notation.{bit}
use Rattle.tsc.specs.Columns.{column}
use Rattle.words.proofs.Words.{Below}
use Rattle.transposition.specs.Groups.{group_count, HasGroup}
use Rattle.columns.specs.Replace.{image_of}
use Rattle.transposition.proofs.replace.replace_columns.Given as goal

-- column i of the result
abbrev pub replaced : List ℕ → List ℕ → List ℕ → ℕ → ℕ → ℕ → ℕ
replaced odd even ws selector low i = bit i low * image_of odd even (bit i selector) (column i ws)

abbrev pub invariant-loop-g : goal.invariant-loop-g
invariant-loop-g l = (l.g ≤ group_count) × (length l.groups ≡ group_count) × Below (λ g x. HasGroup g x (replaced l.powers.odd l.powers.even l.s.words l.selector l.low)) l.g l.groups

abbrev pub decreases-loop-g : goal.decreases-loop-g
decreases-loop-g l = group_count - l.g
