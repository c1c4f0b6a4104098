use Prim.Native.Nat.{◌-◌}
use Rattle.samples.specs.Samples.{most_taken}
use Rattle.samples.proofs.Tried.{Over}
use Rattle.tries.proofs.Ranks.{kept_at}
use Rattle.tries.proofs.row.rank_among.Given as goal

abbrev pub invariant-loop-words : goal.invariant-loop-words
invariant-loop-words l = Over (kept_at l.n l.words l.k) l.taken

abbrev pub decreases-loop-words : goal.decreases-loop-words
decreases-loop-words l = most_taken - l.taken
