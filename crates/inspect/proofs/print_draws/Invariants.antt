use mathlib.Core.Path.{◌≡◌}
use Prim.Native.Nat.{◌-◌, ◌≤◌}
use lib.ListN.{length}
use Rattle.cycle.specs.Notation.{iterate}
use Rattle.draws.specs.Calls.{stepped}
use Rattle.inspect.proofs.print_draws.Given as goal

abbrev pub invariant-loop-number : goal.invariant-loop-number
invariant-loop-number g l = (1 ≤ l.number) × (l.number ≤ 5) × (length l.state ≡ length l.initial.state) × (l.state ≡ iterate (stepped l.card) (l.number - 1) l.initial.state)

abbrev pub decreases-loop-number : goal.decreases-loop-number
decreases-loop-number g l = 5 - l.number
