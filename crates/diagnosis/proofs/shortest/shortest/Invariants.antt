use Rattle.std.proofs.Common.{length}
use Rattle.diagnosis.specs.Marks.{entry_of, Tried}
use Rattle.diagnosis.proofs.shortest.shortest.Given as goal

abbrev pub invariant-loop-x : goal.invariant-loop-x
invariant-loop-x l = Tried (length l.table) (entry_of l.table) l.x l.found l.marks
