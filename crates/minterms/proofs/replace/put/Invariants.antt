use mathlib.Core.Path.{◌≡◌}
use mathlib.Core.Bool.{cond}
use Prim.Native.Nat.{ℕ, ◌*◌, ◌≤◌}
use lib.Bits.{bit_or}
use lib.Dec.{eqb}
use lib.ListN.{length, get_or}
use Rattle.cycle.specs.Notation.{bit}
use Rattle.tsc.specs.declared.State.{State}
use Rattle.tsc.specs.Constants.{most_words}
use Rattle.tsc.specs.Columns.{column}
use Rattle.columns.specs.Few.{few_words}
use Rattle.columns.specs.Replace.{HasColumns}
use Rattle.minterms.proofs.replace.put.Given as goal

-- column i of the result
abbrev pub column_put : State → ℕ → ℕ → ℕ → ℕ → ℕ → ℕ
column_put s t selector odd even i = bit_or (column i s.words) (bit i t * cond (eqb (bit i selector) 1) odd even)

abbrev pub invariant-loop-k : goal.invariant-loop-k
invariant-loop-k l = (l.k ≤ few_words) × (length l.s.words ≡ most_words) × (length l.out.words ≡ most_words) × HasColumns l.k l.out.words (column_put l.s l.t l.selector l.odd l.even)
    × ((j : ℕ) → few_words ≤ j → get_or l.out.words j 0 ≡ get_or l.s.words j 0)
