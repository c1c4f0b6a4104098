use mathlib.Core.Path.{◌≡◌}
use Prim.Native.Nat.{◌-◌, ◌≤◌}
use lib.ListN.{length, get_or}
use Rattle.tsc.specs.Constants.{most_words, filter_words}
use Rattle.tsc.specs.Word.{◌⊞◌, further}
use Rattle.filters.proofs.filter.with_further.Given as goal

abbrev pub invariant-loop-j : goal.invariant-loop-j
invariant-loop-j l = (l.j ≤ most_words - filter_words) × (length l.s.words ≡ most_words)
    × (l.sum ≡ ◌⊞◌ l.t.width.bits l.word (further l.t.width.bits (λ k. get_or l.s.words k 0) l.j))
