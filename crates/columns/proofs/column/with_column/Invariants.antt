use Rattle.std.proofs.Common.{◌≡◌, ℕ, cond, eqb}
use Rattle.cycle.specs.Notation.{bit}
use Rattle.cycle.proofs.Lists.{over}
use Rattle.columns.specs.Replace.{with_column}
use Rattle.columns.proofs.column.with_column.Given as goal

-- the column that the selector picks
abbrev pub picked : ℕ → ℕ → ℕ → ℕ → ℕ
picked i selector odd even = cond (eqb (bit i selector) 1) odd even

abbrev pub invariant-loop-k : goal.invariant-loop-k
invariant-loop-k l = l.out.words ≡ over (with_column l.count l.i (picked l.i l.selector l.odd l.even) l.s.words) l.s.words l.k
