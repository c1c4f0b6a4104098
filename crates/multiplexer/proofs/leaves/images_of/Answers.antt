use mathlib.Core.Path.{refl}
use native.Mathlib.Omega.{arith}
use lib.ListN.{length-set}
use Rattle.multiplexer.proofs.Picked.{images_next}
use Rattle.multiplexer.proofs.leaves.images_of.Goals as goal

pub loop-c-init : goal.loop-c-init
loop-c-init c = (omega arith, refl, λ j l. absurd (omega arith))

pub loop-c-preserved : goal.loop-c-preserved
loop-c-preserved c = let l = c.loop-c in
    let a = c.args in (
      omega arith,
      simp (length-set, length-set) l.invariant.1,
      images_next a.powers.now.odd a.powers.now.even l.c c.from.result c.from-in-loop-c.result l.out c.from.ensures c.from-in-loop-c.ensures (omega arith) l.invariant.2,
    )

pub returns : goal.returns
returns c e h = c.loop-c.invariant.2 e (omega arith)
