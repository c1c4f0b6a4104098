use mathlib.Core.Path.{refl}
use Prim.Native.Nat.{◌-◌}
use native.Mathlib.Omega.{arith}
use lib.ListN.{length, length-set}
use Rattle.words.proofs.Words.{below_next}
use Rattle.transposition.specs.Groups.{IsWord}
use Rattle.transposition.proofs.replace.words_of.Goals as goal

pub loop-k-init : goal.loop-k-init
loop-k-init c = (omega arith, refl, λ j l. absurd (omega arith))

pub loop-k-preserved : goal.loop-k-preserved
loop-k-preserved c = let l = c.loop-k in
    let next = below_next (IsWord c.args.groups) l.k c.word_of.result l.out.words (omega arith) l.invariant.2 c.word_of.ensures in
    (omega arith, simp length-set l.invariant.1, next)

pub returns : goal.returns
returns c k h = c.loop-k.invariant.2 k (omega arith)
