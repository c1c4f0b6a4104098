use mathlib.Core.Path.{◌≡◌}
use Prim.Native.Nat.{◌+◌, ◌-◌, ◌^◌, ◌≤◌}
use lib.Count.{ones}
use lib.ListN.{length}
use Rattle.tsc.specs.Constants.{most_words}
use Rattle.card_format.specs.Fields.{field_count}
use Rattle.card_read.proofs.Reader.{Rest}
use Rattle.card_read.proofs.Table.{table_to}
use Rattle.card_read.proofs.read.read.Given as goal

abbrev pub invariant-loop : goal.invariant-loop
invariant-loop l = Rest l.card l.left l.next l.at l.v × (l.counter + ones l.left ≡ l.end) × (l.next ≤ field_count) × (l.end ≤ 8) × (length l.table ≡ 2 ^ most_words) × (l.table ≡ table_to l.card l.next)

abbrev pub decreases-loop : goal.decreases-loop
decreases-loop l = l.end - l.counter
