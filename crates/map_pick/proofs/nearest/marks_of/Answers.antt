use mathlib.Core.Path.{◌≡◌, refl, sym, ap, subst, ◌∙◌}
use mathlib.Core.Bool.{Bool, true, false, not}
use Prim.Native.Nat.{ℕ}
use native.Mathlib.Omega.{arith}
use lib.Dec.{eqb}
use lib.ListN.{length, get_or, take}
use mir.Val.{bool_byte}
use Rattle.cycle.specs.Notation.{one}
use Rattle.cycle.proofs.Lists.{filled_next, filled_front}
use Rattle.ties.specs.Ties.{most_shovels}
use Rattle.ties.specs.Least.{LeastOf, SameTies}
use Rattle.ties.proofs.Alike.{marks_alike}
use Rattle.places.specs.Around.{distances_around}
use Rattle.places.proofs.Distances.{length-distances}
use Rattle.map_pick.proofs.nearest.marks_of.Goals as goal

-- a test as a number
marked : (b : Bool) → bool_byte b ≡ one b
marked true = refl
marked false = refl

pub least_distance-least-requires : goal.least_distance-least-requires
least_distance-least-requires c = (c.requires.0, c.requires.1)

pub loop-i-preserved : goal.loop-i-preserved
loop-i-preserved c = let l = c.loop-i in
    let q = c.args.around.now in
    let ds = distances_around q in
    let least = c.least_distance-least.result in
    let n = length-distances q.x q.y q.xs.now q.ys.now in (
      l.invariant.0,
      filled_next (length ds) most_shovels (λ i. one (not (eqb (get_or ds i 0) least))) l.marks l.i _ (omega (arith, n, l.invariant.0)) (omega (arith, n)) l.invariant.1
          (c.from.ensures ∙ ap (λ (d : ℕ). bool_byte (not (eqb d least))) c.distance_at.ensures ∙ marked (not (eqb (get_or ds l.i 0) least))),
    )

pub returns : goal.returns
returns c = let l = c.loop-i in
    let q = c.args.around.now in
    let least = c.least_distance-least.result in
    let ds = distances_around q in
    let n = length-distances q.x q.y q.xs.now q.ys.now in
    let front = filled_front (length ds) most_shovels (λ i. one (not (eqb (get_or ds i 0) least))) l.marks l.i (omega (arith, n)) l.invariant.1 in
    let h = subst (λ (k : ℕ). LeastOf ds k least) (sym n) c.least_distance-least.ensures in
    subst (SameTies ds) (sym front ∙ ap (λ (k : ℕ). take k l.marks) n) (marks_alike ds least h)
