use Rattle.std.proofs.Common.{◌≡◌, ℕ, ◌^◌, length, get_or}
use Rattle.tsc.specs.Constants.{most_words}
use Rattle.completions.specs.Finding.{uses}
use Rattle.diagnosis.specs.Marks.{entry_of}
use Rattle.diagnosis.proofs.pair.uses_of.Given as goal

abbrev pub invariant-loop-v : goal.invariant-loop-v
invariant-loop-v l = (length l.counts ≡ 2 ^ most_words) × ((v : ℕ) → get_or l.counts v 0 ≡ uses l.v-index (entry_of l.table) v)
