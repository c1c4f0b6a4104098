use mathlib.Core.Path.{◌≡◌, subst}
use mathlib.Core.Bool.{true}
use Prim.Native.Nat.{ℕ}
use native.Mathlib.Omega.{arith}
use lib.ListN.{length}
use Rattle.outcomes.specs.Elsewhere.{elsewhere}
use Rattle.candidates.specs.Best.{BestOf}
use Rattle.candidates.proofs.Attempts.{best_none, best_alone}
use Rattle.candidates.proofs.search.least_change.Goals as goal

pub returns-then-times-lt2 : goal.returns-then-times-lt2
returns-then-times-lt2 c = best_alone c.args.known c.args.shovels.now c.args.times.now c.requires c.if-times-lt2.true

pub loop-i-init : goal.loop-i-init
loop-i-init c = best_none c.args.known c.args.shovels.now c.args.times.now c.requires

pub try_shovel-best-requires : goal.try_shovel-best-requires
try_shovel-best-requires c = record { several = ((omega (arith, c.if-times-lt2.false), c.requires), omega arith); best_of = c.loop-i.invariant }

pub loop-i-preserved : goal.loop-i-preserved
loop-i-preserved c = c.try_shovel-best.ensures

pub returns : goal.returns
returns c = let a = c.args in
    let l = c.loop-i in
    let e : l.i ≡ length a.times.now = omega arith in
    subst (λ (n : ℕ). BestOf a.shovels.now a.times.now (λ ys. elsewhere a.known a.shovels.now ys ≡ true) n l.best) e l.invariant
