use Rattle.std.proofs.Common.{◌≡◌, ℕ, ◌-◌, ◌%◌, ◌^◌, ◌≤◌, length}
use Rattle.tsc.specs.Constants.{most_words, widest_width}
use Rattle.tsc.specs.Selector.{sum_words}
use Rattle.words.proofs.Words.{words_from}
use Rattle.selectors.specs.Terms.{Absent}
use Rattle.selectors.proofs.selector.sum_words.Given as goal

abbrev pub invariant-loop-k : goal.invariant-loop-k
invariant-loop-k l = (l.k ≤ l.count) × (l.count ≤ most_words) × (length l.s.words ≡ most_words) × ((m : ℕ) → m ≤ l.count → Absent m l.t.absent → l.sum ≡ sum_words (words_from l.k m l.s.words) % 2 ^ widest_width)
