use Rattle.std.proofs.Common.{◌≡◌, ℕ, length, refl, sym, ap, ◌∙◌, arith}
use native.Mathlib.Numerals.{add-one}
use Rattle.cycle.specs.Notation.{iterate}
use Rattle.diagnosis.specs.Marks.{entry_of, marks_along}
use Rattle.completions.proofs.Cycles.{length_is, length_whole, none_next}
use Rattle.diagnosis.proofs.Marking.{along_next}
use Rattle.diagnosis.proofs.shortest.mark_cycle.Goals as goal

pub loop-steps-init : goal.loop-steps-init
unfolding iterate marks_along
loop-steps-init c = (c.requires.1, refl, λ j p l. absurd (omega arith), refl)

pub loop-steps-preserved : goal.loop-steps-preserved
unfolding iterate
loop-steps-preserved c = let a = c.args in
    let l = c.loop-steps in
    let f = entry_of a.table.now in rw c.from-y.ensures (
      c.requires.0.below l.y l.invariant.0,
      ap f l.invariant.1 ∙ ap (λ (k : ℕ). iterate f k a.x) (sym (add-one l.steps)),
      none_next (length a.table.now) f a.x l.steps l.invariant.2 (λ e. c.if-y-x.false (c.from-y.ensures ∙ ap f l.invariant.1 ∙ e)),
      along_next f a.x l.steps a.marks.now l.invariant.3 l.invariant.1,
    )

pub returns-then-y-x : goal.returns-then-y-x
returns-then-y-x c = let a = c.args in
    let l = c.loop-steps in
    let f = entry_of a.table.now in record {
      steps = length_is _ f a.x l.steps l.invariant.2 c.loop-steps-test.true (sym (ap f l.invariant.1) ∙ sym c.from-y.ensures ∙ c.if-y-x.true);
      after = along_next f a.x l.steps a.marks.now l.invariant.3 l.invariant.1;
    }

pub returns : goal.returns
returns c = let a = c.args in
    let l = c.loop-steps in
    let n = length a.table.now in
    let e : l.steps ≡ n = omega arith in record {
      steps = sym e ∙ length_whole n (entry_of a.table.now) a.x l.steps l.invariant.2 (omega (arith, c.requires.0.large)) e;
      after = l.invariant.3 ∙ ap (λ (k : ℕ). marks_along (entry_of a.table.now) a.x k a.marks.now) e;
    }
