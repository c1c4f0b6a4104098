use mathlib.Core.Path.{◌≡◌}
use Prim.Native.Nat.{◌*◌, ◌≤◌}
use lib.ListN.{length}
use Rattle.cycle.specs.Notation.{bit}
use Rattle.multiplexer.specs.Leaves.{leaf_count, PickedAt}
use Rattle.words.proofs.Words.{Below}
use Rattle.multiplexer.proofs.tree.chosen.Given as goal

abbrev pub invariant-loop-j : goal.invariant-loop-j
invariant-loop-j l = (l.j ≤ l.size) × (2 * l.size ≤ leaf_count) × (length l.g ≡ leaf_count) × Below (PickedAt l.size l.f (λ i. bit i l.x)) l.j l.g
