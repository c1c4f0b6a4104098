use mathlib.Core.Path.{refl}
use native.Mathlib.Omega.{arith}
use lib.ListN.{length-set}
use Rattle.words.proofs.Words.{below_next}
use Rattle.multiplexer.proofs.Picked.{LeafAt, leaves_all}
use Rattle.multiplexer.proofs.leaves.leaves_of.Goals as goal

pub loop-j-init : goal.loop-j-init
loop-j-init c = (omega arith, refl, λ j l. absurd (omega arith))

pub loop-j-preserved : goal.loop-j-preserved
loop-j-preserved c = let l = c.loop-j in
    let images = c.images_of-images.result in
    (omega arith, simp length-set l.invariant.1, below_next (LeafAt images) l.j c.spread.result l.out (omega arith) l.invariant.2 c.spread.ensures)

pub returns : goal.returns
returns c = let l = c.loop-j in
    leaves_all c.args.powers.now.odd c.args.powers.now.even c.images_of-images.result l.out c.images_of-images.ensures (λ j h. l.invariant.2 j (omega arith))
