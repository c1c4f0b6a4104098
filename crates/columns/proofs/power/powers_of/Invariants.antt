use mathlib.Core.Path.{◌≡◌}
use Prim.Native.Nat.{◌-◌, ◌^◌, ◌≤◌}
use Rattle.columns.proofs.Powers.{stands, Along}
use Rattle.columns.proofs.power.powers_of.Given as goal

abbrev pub invariant-loop : goal.invariant-loop
invariant-loop l = (l.end ≡ 2 ^ l.m) × (l.counter ≤ l.end) × (l.x ≡ stands l.table l.counter) × Along l.m l.table l.odd l.counter l.p.odd l.y × Along l.m l.table l.even l.counter l.p.even l.z

abbrev pub decreases-loop : goal.decreases-loop
decreases-loop l = l.end - l.counter
