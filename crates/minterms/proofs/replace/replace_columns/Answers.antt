use mathlib.Core.Path.{◌≡◌, ap, ap₂, ◌∙◌}
use mathlib.Core.Bool.{cond}
use Prim.Native.Nat.{ℕ, ◌*◌, ◌^◌}
use native.Mathlib.Omega.{arith}
use borrow.Author.Rules.{rules}
use lib.Bits.{bit_or}
use lib.Dec.{eqb}
use lib.ListN.{length, take}
use lib.Seq.{length-take-le}
use Rattle.cycle.specs.Notation.{bit}
use Rattle.cycle.proofs.Lists.{get_or_filler}
use Rattle.tsc.specs.Constants.{most_words}
use Rattle.tsc.specs.Columns.{column}
use Rattle.tsc.proofs.Columns.{column_lt}
use Rattle.columns.specs.Few.{few_words}
use Rattle.minterms.proofs.Parted.{done_none, done_next, done_all}
use Rattle.minterms.proofs.replace.replace_columns.Goals as goal

pub loop-c-init : goal.loop-c-init
loop-c-init c = let a = c.args in (
  omega arith,
  done_none a.powers.now.odd a.powers.now.even a.selector a.low (take few_words a.s.words) few_words most_words,
  λ k l. get_or_filler most_words k 0,
)

pub loop-c-preserved : goal.loop-c-preserved
loop-c-preserved c = let l = c.loop-c in
    let a = c.args in
    let holders = c.minterm_of-holders.result in (
      omega arith,
      done_next a.powers.now.odd a.powers.now.even a.selector a.low (take few_words a.s.words) few_words l.c holders l.out.words c.put-out.result.words
          c.minterm_of-holders.ensures l.invariant.1
          (λ k lk i li. c.put-out.ensures.has_columns k lk i li ∙ ap (λ (v : ℕ). bit k (bit_or (column i l.out.words) (bit i holders * v)))
          (ap₂ (cond (eqb (bit i a.selector) 1)) c.from-odd_image.ensures c.from-even_image.ensures)),
      λ k h. c.put-out.ensures.by_index k h ∙ l.invariant.2 k h,
    )

pub returns : goal.returns
returns c = let a = c.args in
    let l = c.loop-c in
    let ws = take few_words a.s.words in
    let all : length a.s.words ≡ most_words = search rules in
    let few : length ws ≡ few_words = length-take-le few_words a.s.words (omega arith) in
    let e : l.c ≡ 2 ^ length ws = rw few (omega arith) in
    record {
      columns = done_all a.powers.now.odd a.powers.now.even a.selector a.low ws few_words l.c l.out.words (λ i. rw e (column_lt i ws)) l.invariant.1;
      others = l.invariant.2;
    }
