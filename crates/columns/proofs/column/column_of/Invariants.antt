use Rattle.std.proofs.Common.{◌≡◌}
use Rattle.tsc.specs.Columns.{column}
use Rattle.words.proofs.Words.{words_from}
use Rattle.columns.proofs.column.column_of.Given as goal

abbrev pub invariant-loop-k : goal.invariant-loop-k
invariant-loop-k l = l.c ≡ column l.i (words_from l.k l.count l.s.words)
