use mathlib.Core.Path.{◌≡◌}
use Prim.Native.Nat.{◌≤◌}
use lib.ListN.{length}
use Rattle.tsc.specs.Constants.{most_words}
use Rattle.columns.specs.Few.{few_words}
use Rattle.multiplexer.proofs.Picked.{Looked}
use Rattle.multiplexer.proofs.tree.looked_up.Given as goal

abbrev pub invariant-loop-k : goal.invariant-loop-k
invariant-loop-k l = (l.k ≤ few_words) × (length l.s.words ≡ most_words) × Looked few_words l.s.words l.initial.f l.k l.size l.f
