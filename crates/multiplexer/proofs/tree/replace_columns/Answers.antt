use mathlib.Core.Path.{◌≡◌, refl, ◌∙◌}
use Prim.Native.Nat.{ℕ}
use native.Mathlib.Omega.{arith}
use borrow.Author.Rules.{rules}
use lib.ListN.{length, get_or, length-set}
use lib.Seq.{get_or-set_other}
use Rattle.cycle.specs.Notation.{bit}
use Rattle.cycle.proofs.Lists.{get_or_filler}
use Rattle.tsc.specs.Constants.{most_words}
use Rattle.columns.specs.Few.{few_words}
use Rattle.words.proofs.Words.{below_next}
use Rattle.multiplexer.proofs.Picked.{picked-chosen, KeptAt, kept_and, kept_all}
use Rattle.multiplexer.proofs.tree.replace_columns.Goals as goal

pub loop-k-init : goal.loop-k-init
loop-k-init c = (omega arith, refl, (λ j l. absurd (omega arith)), λ j l. get_or_filler most_words j 0)

pub loop-k-preserved : goal.loop-k-preserved
loop-k-preserved c = let a = c.args in
    let f = c.looked_up-f.result in
    let l = c.loop-k in
    let by : ℕ → ℕ = λ i. bit i a.selector in
    let y = c.join.result in (
      omega arith,
      simp length-set l.invariant.1,
      below_next (KeptAt few_words f by a.low) l.k _ l.out.words (omega arith) l.invariant.2
          (kept_and few_words f by a.low l.k y (picked-chosen few_words l.k a.selector y f c.join.ensures)),
      λ j h. get_or-set_other l.out.words l.k j _ 0 (λ e. omega arith) ∙ l.invariant.3 j h,
    )

pub returns : goal.returns
returns c odd even leaves = let a = c.args in
    let f = c.looked_up-f in
    let l = c.loop-k in
    let size : length c.args.s.words ≡ most_words = search rules in
    record {
      columns = λ k h.
          kept_all odd even a.leaves a.s.words f.result a.selector a.low k (get_or l.out.words k 0) leaves (omega arith) f.ensures h (l.invariant.2 k (omega arith));
      others = l.invariant.3;
    }
