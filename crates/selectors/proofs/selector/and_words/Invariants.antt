use Rattle.std.proofs.Common.{◌≡◌, ℕ, ◌-◌, ◌≤◌, length}
use Rattle.tsc.specs.Constants.{most_words}
use Rattle.tsc.specs.Selector.{and_words}
use Rattle.words.proofs.Words.{words_from}
use Rattle.selectors.specs.Terms.{Absent}
use Rattle.selectors.proofs.selector.and_words.Given as goal

abbrev pub invariant-loop-k : goal.invariant-loop-k
invariant-loop-k l = (l.k ≤ l.count) × (l.count ≤ most_words) × (length l.s.words ≡ most_words) × ((m : ℕ) → m ≤ l.count → Absent m l.t.absent → l.p ≡ and_words l.t.width.bits (words_from l.k m l.s.words))
