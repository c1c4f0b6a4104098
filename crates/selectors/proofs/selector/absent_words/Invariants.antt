use Rattle.std.proofs.Common.{◌≡◌, ◌-◌, ◌≤◌, length}
use Rattle.tsc.specs.Constants.{most_words}
use Rattle.words.proofs.Words.{Below}
use Rattle.selectors.proofs.Masked.{AbsentAt}
use Rattle.selectors.proofs.selector.absent_words.Given as goal

abbrev pub invariant-loop-k : goal.invariant-loop-k
invariant-loop-k l = (l.k ≤ most_words) × (length l.absent ≡ most_words) × Below (AbsentAt l.m) l.k l.absent
