use mathlib.Core.Path.{◌≡◌, refl, ap, ◌∙◌}
use Prim.Native.Nat.{◌%◌, ◌^◌, ◌<◌}
use native.Mathlib.Omega.{arith}
use lib.ListN.{get_or}
use Rattle.cycle.specs.Notation.{iterate}
use Rattle.cycle.proofs.Iterate.{iterate_mod}
use Rattle.tsc.specs.Constants.{most_words}
use Rattle.words.specs.declared.arithmetic.Width.{Width}
use Rattle.words.proofs.Reduced.{width_is}
use Rattle.columns.proofs.Powers.{stands, stands-few, stands_next}
use Rattle.columns.proofs.power.entry_after.Goals as goal
use Rattle.columns.proofs.power.entry_after.Goals.{In-loop}

-- y is an entry of the table
few : (c : In-loop) → c.loop.y < 2 ^ most_words
few c =
    rw c.loop.invariant.2 (stands-few c.args.m c.args.table.now c.requires.2 c.requires.1 c.loop.counter)

pub reduce-end-requires : goal.reduce-end-requires
reduce-end-requires c = width_is _ _ c.requires.0 (omega arith) c.width_of-w.ensures

pub loop-init : goal.loop-init
unfolding iterate
loop-init c = let times = c.args.times in
    (c.reduce-end.ensures ∙ ap (λ (w : Width). times % 2 ^ w.bits) c.width_of-w.ensures, omega arith, refl)

pub overflow_cast-y : goal.overflow_cast-y
overflow_cast-y c = omega (arith, few c)

pub bounds-table-y : goal.bounds-table-y
bounds-table-y c = few (goal.at.bounds-table-y c).In-loop

pub loop-preserved : goal.loop-preserved
loop-preserved c = let l = c.loop in
    (l.invariant.0, omega arith, stands_next c.args.table.now l.counter l.invariant.2)

pub returns : goal.returns
returns c = let table = c.args.table.now in
    let m = c.args.m in
    let l = c.loop in
    let e : l.counter ≡ c.args.times % 2 ^ m = omega arith in
    l.invariant.2 ∙ ap (stands table) e ∙ iterate_mod (λ y. get_or table y 0) (2 ^ m) 0 c.requires.2.cycle.returns c.args.times
