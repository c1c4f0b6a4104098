use mathlib.Core.Path.{◌≡◌}
use Prim.Native.Nat.{◌*◌, ◌≤◌}
use lib.ListN.{length}
use Rattle.tsc.specs.Constants.{most_words}
use Rattle.card_format.specs.Fields.{numbers}
use Rattle.cycle.proofs.Lists.{over}
use Rattle.records.specs.Fields.{word_field}
use Rattle.record.proofs.read.state_from.Given as goal

abbrev pub invariant-loop-k : goal.invariant-loop-k
invariant-loop-k l = (l.m ≤ most_words) × (4 * l.m ≤ length l.part) × (l.word-items ≡ over (numbers (word_field l.m) l.part) l.initial.word-items l.k)
