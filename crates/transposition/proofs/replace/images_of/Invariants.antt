use Prim.Native.Nat.{◌-◌, ◌≤◌}
use lib.ListN.{get_or}
use Rattle.transposition.specs.Matrix.{byte}
use Rattle.transposition.proofs.Filled.{Filled}
use Rattle.transposition.proofs.replace.images_of.Given as goal

abbrev pub invariant-loop-i : goal.invariant-loop-i
invariant-loop-i l = (l.i ≤ 8) × Filled l.i (λ i. get_or l.table (byte i l.q) 0) l.r

abbrev pub decreases-loop-i : goal.decreases-loop-i
decreases-loop-i l = 8 - l.i
