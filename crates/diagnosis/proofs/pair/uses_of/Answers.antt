use Rattle.std.proofs.Common.{ℕ, ◌+◌, ◌^◌, eqb, get_or, sym, ◌∙◌, arith}
use Rattle.std.proofs.Math.ListN.{length-replicate, length-set}
use Rattle.cycle.proofs.Count.{count_le}
use Rattle.cycle.proofs.Lists.{get_or_filler}
use Rattle.tsc.specs.Constants.{most_words}
use Rattle.diagnosis.specs.Marks.{entry_of}
use Rattle.diagnosis.proofs.Tables.{inside}
use Rattle.diagnosis.proofs.Marking.{uses-none, uses_next}
use Rattle.diagnosis.proofs.pair.uses_of.Goals as goal

pub loop-v-init : goal.loop-v-init
loop-v-init c = (
  length-replicate {A = ℕ} (2 ^ most_words) 0,
  λ v. get_or_filler (2 ^ most_words) v 0 ∙ sym (uses-none (entry_of c.args.table.now) v),
)

-- the entry has its count
pub overflow_add-counts : goal.overflow_add-counts
overflow_add-counts c = let f = entry_of c.args.table.now in
    let l = c.loop-v in
    omega (arith, c.requires.fits, l.invariant.1 c.from.result, count_le l.v-index (λ y. eqb (f y) c.from.result))

pub loop-v-preserved : goal.loop-v-preserved
loop-v-preserved c = let l = c.loop-v in
    let f = entry_of c.args.table.now in
    let v = f l.v-index in rw c.from.ensures (
      length-set {A = ℕ} l.counts v (get_or l.counts v 0 + 1) ∙ l.invariant.0,
      uses_next f l.v-index l.counts (omega (arith, l.invariant.0, inside _ c.requires l.v-index c.loop-v-test.true)) l.invariant.1,
    )
