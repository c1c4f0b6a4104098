use mathlib.Core.Path.{◌≡◌, subst}
use Prim.Native.Nat.{ℕ}
use native.Mathlib.Omega.{arith}
use borrow.Author.Rules.{rules}
use lib.ListN.{length}
use lib.Pow.{pow_mono}
use Rattle.tsc.specs.Constants.{most_words}
use Rattle.columns.specs.Few.{few_words}
use Rattle.multiplexer.proofs.Picked.{Looked, looked_none, looked_next, looked_all}
use Rattle.multiplexer.proofs.tree.looked_up.Goals as goal

pub loop-k-init : goal.loop-k-init
loop-k-init c = let ws = c.args.s.words in
    let size : length ws ≡ most_words = search rules in
    (omega arith, size, looked_none few_words ws c.args.leaves (omega arith))

pub chosen-g-requires : goal.chosen-g-requires
chosen-g-requires c = let l = c.loop-k in
    omega (arith, l.invariant.2.0, pow_mono {i = l.k} {j = few_words} l.invariant.0)

pub loop-k-preserved : goal.loop-k-preserved
loop-k-preserved c = let a = c.args in
    let l = c.loop-k in
    let next =
    looked_next few_words a.s.words a.leaves l.k l.size l.f c.chosen-g.result (omega arith) (omega arith) (omega arith) l.invariant.2 c.chosen-g.ensures in
    (omega arith, l.invariant.1, next)

pub returns : goal.returns
returns c = let a = c.args in
    let l = c.loop-k in
    let e : l.k ≡ 0 = omega arith in
    let done = subst (λ (k : ℕ). Looked few_words a.s.words a.leaves k l.size l.f) e l.invariant.2 in
    looked_all few_words a.s.words a.leaves l.size l.f done
