use mathlib.Core.Path.{◌≡◌}
use Prim.Native.Nat.{ℕ, ◌≤◌}
use lib.ListN.{length, get_or}
use Rattle.cycle.specs.Notation.{bit}
use Rattle.tsc.specs.Constants.{most_words}
use Rattle.columns.specs.Few.{few_words}
use Rattle.words.proofs.Words.{Below}
use Rattle.multiplexer.proofs.Picked.{KeptAt}
use Rattle.multiplexer.proofs.tree.replace_columns.Given as goal

abbrev pub invariant-loop-k : goal.invariant-loop-k
invariant-loop-k l = (l.k ≤ few_words) × (length l.out.words ≡ most_words) × Below (KeptAt few_words l.f (λ i. bit i l.selector) l.low) l.k l.out.words × ((j : ℕ) → few_words ≤ j → get_or l.out.words j 0 ≡ 0)
