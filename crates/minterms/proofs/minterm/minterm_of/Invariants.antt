use mathlib.Core.Path.{◌≡◌}
use Prim.Native.Nat.{◌/◌, ◌^◌, ◌≤◌}
use lib.ListN.{length}
use Rattle.tsc.specs.Constants.{most_words}
use Rattle.words.proofs.Words.{words_from}
use Rattle.words.specs.Masks.{HasBits}
use Rattle.columns.specs.Few.{few_words}
use Rattle.minterms.proofs.Parted.{holds}
use Rattle.minterms.proofs.minterm.minterm_of.Given as goal

abbrev pub invariant-loop-k : goal.invariant-loop-k
invariant-loop-k l = (l.k ≤ few_words) × (length l.s.words ≡ most_words) × HasBits l.t (holds l.low (l.c / 2 ^ l.k) (words_from l.k few_words l.s.words))
