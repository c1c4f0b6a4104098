use mathlib.Core.Path.{◌≡◌, sym, ap, ap₂, ◌∙◌}
use mathlib.Core.Bool.{cond}
use mathlib.Core.List.{List}
use Prim.Native.Nat.{ℕ, ◌+◌, ◌*◌, ◌%◌, ◌^◌}
use native.Mathlib.Omega.{arith}
use borrow.Author.Rules.{rules}
use lib.Dec.{eqb}
use lib.ListN.{length, get_or, set}
use lib.Pow.{pow_mono}
use Rattle.cycle.specs.Notation.{bit}
use Rattle.cycle.proofs.Bits.{bit_lt}
use Rattle.tsc.specs.Constants.{most_words}
use Rattle.cycle.proofs.Lists.{over, over_suc}
use Rattle.words.proofs.Masks.{cond_ap, joined}
use Rattle.columns.specs.Replace.{with_column}
use Rattle.columns.proofs.Placed.{placed, above_lt, length-with_column, get_or-with_column, with_column_rest}
use Rattle.columns.proofs.column.with_column.Invariants.{picked}
use Rattle.columns.proofs.column.with_column.Goals as goal
use Rattle.columns.proofs.column.with_column.Goals.{After-join}

abbrev word : After-join → ℕ
word c = c.loop-k.k

-- the column that is put in
abbrev column : After-join → ℕ
column c = let a = c.args in picked a.i a.selector a.odd a.even

-- the bit that a word gets
here : (c : After-join) → c.join.result ≡ bit (word c) (column c) * 2 ^ c.args.i
here c =
    let a = c.args in
    let k = word c in
    let put : (b x : ℕ) → b ≡ bit k x → b * 2 ^ a.i % 2 ^ 32 ≡ bit k x * 2 ^ a.i = λ b x e.
    ap (λ (b : ℕ). b * 2 ^ a.i % 2 ^ 32) e ∙ placed (bit k x) a.i 32 (bit_lt k x) c.requires.i_lt_widest_width.0 in
    joined 32 a.i a.selector (bit k a.odd) (bit k a.even) c.join.result c.requires.i_lt_widest_width.0 (bit_lt k a.odd) (bit_lt k a.even) (omega arith)
    (λ j l. c.join.ensures j l ∙ ap₂ (λ (u v : ℕ). cond (eqb (bit j a.selector) 1) (bit j u) (bit j v))
    (put _ a.odd c.bit_of.ensures) (put _ a.even c.bit_of-in-loop-k.ensures))
    ∙ ap (λ (b : ℕ). b * 2 ^ a.i) (cond_ap (bit k) (eqb (bit a.i a.selector) 1) a.odd a.even)

-- and the word then
written : (c : After-join) → let a = c.args in
    get_or a.s.words (word c) 0 + c.join.result ≡ get_or (with_column a.count a.i (column c) a.s.words) (word c) 0
written c =
    let a = c.args in
    ap (λ (v : ℕ). get_or a.s.words (word c) 0 + v) (here c) ∙ sym (get_or-with_column a.count a.i (column c) a.s.words (word c) (omega arith) (omega arith))

pub overflow_add-out : goal.overflow_add-out
overflow_add-out c = let a = c.args in
    let k = word c in
    omega (
      arith,
      here c,
      above_lt (get_or a.s.words k 0) (bit k (column c)) a.i (c.requires.by_index k (omega arith)) (bit_lt k (column c)),
      pow_mono {i = a.i + 1} {j = 32} (omega (arith, c.requires.i_lt_widest_width.0)),
    )

pub loop-k-preserved : goal.loop-k-preserved
loop-k-preserved c = let a = c.args in
    let l = c.loop-k in
    let w = with_column a.count a.i (column c) a.s.words in
    let all : length a.s.words ≡ most_words = search rules in
    ap₂ (λ (t : List ℕ) (v : ℕ). set t l.k v) l.invariant (written c)
    ∙ over_suc w a.s.words l.k (omega (arith, length-with_column a.count a.i (column c) a.s.words)) (omega arith)

pub returns : goal.returns
returns c = let a = c.args in
    let l = c.loop-k in
    let d = picked a.i a.selector a.odd a.even in
    let w = with_column a.count a.i d a.s.words in
    let e : l.k ≡ a.count = omega arith in
    l.invariant ∙ ap (over w a.s.words) e ∙ with_column_rest a.count a.i d a.s.words c.requires.i_lt_widest_width.1 (search rules)
