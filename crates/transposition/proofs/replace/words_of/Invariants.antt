use mathlib.Core.Path.{◌≡◌}
use Prim.Native.Nat.{◌-◌, ◌≤◌}
use lib.ListN.{length}
use Rattle.tsc.specs.Constants.{most_words}
use Rattle.words.proofs.Words.{Below}
use Rattle.transposition.specs.Groups.{IsWord}
use Rattle.transposition.proofs.replace.words_of.Given as goal

abbrev pub invariant-loop-k : goal.invariant-loop-k
invariant-loop-k l = (l.k ≤ most_words) × (length l.out.words ≡ most_words) × Below (IsWord l.groups) l.k l.out.words

abbrev pub decreases-loop-k : goal.decreases-loop-k
decreases-loop-k l = most_words - l.k
