use mathlib.Core.Path.{◌≡◌}
use Prim.Native.Nat.{◌≤◌}
use lib.ListN.{length}
use Rattle.words.proofs.Words.{Below}
use Rattle.multiplexer.specs.Leaves.{leaf_count}
use Rattle.multiplexer.proofs.Picked.{LeafAt}
use Rattle.multiplexer.proofs.leaves.leaves_of.Given as goal

abbrev pub invariant-loop-j : goal.invariant-loop-j
invariant-loop-j l = (l.j ≤ leaf_count) × (length l.out ≡ leaf_count) × Below (LeafAt l.images) l.j l.out
