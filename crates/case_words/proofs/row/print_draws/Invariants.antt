use mathlib.Core.Path.{◌≡◌}
use Prim.Native.Nat.{◌-◌, ◌≤◌}
use lib.ListN.{length}
use Rattle.cycle.specs.Notation.{iterate}
use Rattle.draws.specs.Calls.{stepped}
use Rattle.case_words.proofs.row.print_draws.Given as goal

abbrev pub invariant-loop-k : goal.invariant-loop-k
invariant-loop-k g l = (l.k ≤ l.count) × (length l.state ≡ length l.initial.state) × (l.state ≡ iterate (stepped l.card) l.k l.initial.state)

abbrev pub decreases-loop-k : goal.decreases-loop-k
decreases-loop-k g l = l.count - l.k
