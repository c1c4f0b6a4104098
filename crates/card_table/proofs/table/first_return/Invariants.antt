use mathlib.Core.Path.{◌≡◌}
use Prim.Native.Nat.{◌+◌, ◌-◌, ◌<◌, ◌≤◌, ◌^◌}
use lib.ListN.{get_or}
use Rattle.tsc.specs.Constants.{most_words}
use Rattle.cycle.specs.Cycle.{return_from, first_return}
use Rattle.card_table.proofs.table.first_return.Given as goal

abbrev pub invariant-loop-steps : goal.invariant-loop-steps
invariant-loop-steps l = (l.x < l.size) × (1 ≤ l.steps) × (l.steps ≤ l.size + 1) × (l.size ≤ 2 ^ most_words) × (return_from (λ y. get_or l.table y 0) (l.size + 1 - l.steps) l.steps l.x ≡ first_return (λ y. get_or l.table y 0) l.size)

abbrev pub decreases-loop-steps : goal.decreases-loop-steps
decreases-loop-steps l = l.size + 1 - l.steps
