use Rattle.std.proofs.Common.{◌≡◌, ◌-◌, ◌*◌, ◌%◌, ◌^◌, ◌≤◌, length, ap, ◌∙◌, arith, length-set, pow_pos, pow_mono}
use Rattle.cycle.specs.Notation.{bit}
use Rattle.tsc.specs.Constants.{most_words}
use Rattle.words.proofs.Words.{below_next}
use Rattle.selectors.proofs.Masked.{AbsentAt, absent_mask}
use Rattle.selectors.proofs.selector.absent_words.Goals as goal
use Rattle.selectors.proofs.selector.absent_words.Goals.{Start}

-- 2^m - 1, as it is made
present : (c : Start) → let m = c.args.m in (1 ≤ 1 * 2 ^ m % 2 ^ 32) × (1 * 2 ^ m % 2 ^ 32 - 1 ≡ 2 ^ m - 1)
present c =
    let m = c.args.m in
    let most = pow_mono {i = m} {j = most_words} c.requires in
    (omega (arith, pow_pos m, most), omega (arith, pow_pos m, most))

pub overflow_sub-present : goal.overflow_sub-present
overflow_sub-present c = (present c).0

pub loop-k-init : goal.loop-k-init
loop-k-init c = (omega arith, omega arith, λ j l. absurd (omega arith))

pub loop-k-preserved : goal.loop-k-preserved
loop-k-preserved c = let m = c.args.m in
    let l = c.loop-k in
    let made = absent_mask 32 m l.k c.spread.result (omega arith) (λ i h. c.spread.ensures i h ∙ ap (bit l.k) (present (goal.at.loop-k-preserved c).Start).1) in
    (omega arith, simp length-set l.invariant.1, below_next (AbsentAt m) l.k _ l.absent (omega arith) l.invariant.2 made)

pub returns : goal.returns
returns c k h = c.loop-k.invariant.2 k (omega arith)
