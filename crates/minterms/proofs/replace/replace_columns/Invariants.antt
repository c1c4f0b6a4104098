use mathlib.Core.Path.{◌≡◌}
use Prim.Native.Nat.{ℕ, ◌^◌, ◌≤◌}
use lib.ListN.{get_or, take}
use Rattle.columns.specs.Few.{few_words}
use Rattle.columns.specs.Replace.{HasColumns}
use Rattle.minterms.proofs.Parted.{done}
use Rattle.minterms.proofs.replace.replace_columns.Given as goal

abbrev pub invariant-loop-c : goal.invariant-loop-c
invariant-loop-c l = (l.c ≤ 2 ^ few_words) × HasColumns few_words l.out.words (done l.powers.odd l.powers.even l.selector l.low (take few_words l.s.words) l.c)
    × ((k : ℕ) → few_words ≤ k → get_or l.out.words k 0 ≡ 0)
