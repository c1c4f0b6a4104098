use mathlib.Core.Path.{◌≡◌}
use Prim.Native.Nat.{◌≤◌}
use lib.ListN.{length, replicate}
use Rattle.cycle.proofs.Lists.{over}
use Rattle.ties.specs.Ties.{most_shovels}
use Rattle.ties.proofs.Alike.{marks}
use Rattle.places.specs.Around.{distances_around}
use Rattle.map_pick.proofs.nearest.marks_of.Given as goal

abbrev pub invariant-loop-i : goal.invariant-loop-i
invariant-loop-i l = (length l.around.xs.now ≤ most_shovels) × (l.marks ≡ over (marks (distances_around l.around) l.least) (replicate most_shovels 0) l.i)
