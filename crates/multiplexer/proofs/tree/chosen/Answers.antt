use native.Mathlib.Omega.{arith}
use borrow.Author.Rules.{rules}
use lib.ListN.{length-set}
use Rattle.cycle.specs.Notation.{bit}
use Rattle.multiplexer.specs.Leaves.{PickedAt}
use Rattle.words.proofs.Words.{below_next}
use Rattle.multiplexer.proofs.Picked.{picked-chosen}
use Rattle.multiplexer.proofs.tree.chosen.Goals as goal

pub loop-j-init : goal.loop-j-init
loop-j-init c = (omega arith, omega arith, search rules, λ j l. absurd (omega arith))

pub loop-j-preserved : goal.loop-j-preserved
loop-j-preserved c = let a = c.args in
    let l = c.loop-j in (
      omega arith,
      l.invariant.1,
      simp length-set l.invariant.2,
      below_next (PickedAt a.size a.f (λ i. bit i a.x)) l.j c.join.result l.g (omega arith) l.invariant.3
          (picked-chosen a.size l.j a.x c.join.result a.f c.join.ensures),
    )

pub returns : goal.returns
returns c j h = c.loop-j.invariant.3 j (omega arith)
