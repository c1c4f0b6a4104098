use mathlib.Core.Path.{◌≡◌}
use Prim.Native.Nat.{◌-◌, ◌%◌, ◌^◌, ◌≤◌}
use Rattle.columns.proofs.Powers.{stands}
use Rattle.columns.proofs.power.entry_after.Given as goal

abbrev pub invariant-loop : goal.invariant-loop
invariant-loop l = (l.end ≡ l.times % 2 ^ l.m) × (l.counter ≤ l.end) × (l.y ≡ stands l.table l.counter)

abbrev pub decreases-loop : goal.decreases-loop
decreases-loop l = l.end - l.counter
