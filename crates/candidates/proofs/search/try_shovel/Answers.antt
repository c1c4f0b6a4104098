use mathlib.Core.Path.{sym, subst}
use mathlib.Core.Bool.{cond, ◌||◌}
use Prim.Native.Nat.{ℕ, ◌-◌, ◌<◌}
use mir.Syntax.{w32}
use mir.Val.{Fits}
use native.Mathlib.Omega.{arith}
use borrow.Author.Rules.{rules}
use lib.Dec.{eqb, ltb}
use lib.ListN.{length, get_or}
use Rattle.std.proofs.Common.{Option}
use Rattle.changes.specs.declared.Change.{Change}
use Rattle.changes.specs.Others.{change_to}
use Rattle.change_order.specs.First.{Placed}
use Rattle.candidates.specs.Best.{attempted}
use Rattle.tie_others.proofs.Joined.{others-least}
use Rattle.candidates.proofs.Attempts.{placed_either, placed_next, placed-sound, best_found}
use Rattle.candidates.proofs.search.try_shovel.Goals as goal
use Rattle.candidates.proofs.search.try_shovel.Goals.{Start}

-- the best change so far is of the list, and so is each that is tried
placed : (s : Start) → Placed (length s.args.shovels.now) s.args.best
placed s = subst (λ (n : ℕ). Placed n s.args.best) (sym s.requires.several.0.1.paired) (placed-sound _ _ _ _ s.requires.best_of.sound)

listed : (s : Start) → s.args.i < length s.args.shovels.now
listed s = omega (arith, s.requires.several.1, s.requires.several.0.1.paired)

tried : (s : Start) (v : ℕ) (best : Option Change) → Placed (length s.args.shovels.now) best
    → Placed (length s.args.shovels.now) (attempted s.args.known.now s.args.shovels.now s.args.times.now (change_to s.args.times.now s.args.i v) best)
tried s v best p = placed_next s.args.known.now s.args.shovels.now s.args.times.now _ (change_to s.args.times.now s.args.i v) best (listed s) p

placed_below : (s : Start) (x : ℕ) → Placed (length s.args.shovels.now) (cond (eqb x 0 || ltb (get_or s.args.times.now s.args.i 0) x) s.args.best
    (attempted s.args.known.now s.args.shovels.now s.args.times.now (change_to s.args.times.now s.args.i (x - 1)) s.args.best))
placed_below s x = placed_either _ (eqb x 0 || ltb (get_or s.args.times.now s.args.i 0) x) s.args.best _ (placed s) (tried s (x - 1) s.args.best (placed s))

pub attempt_below-below-requires : goal.attempt_below-below-requires
attempt_below-below-requires c = placed (goal.at.attempt_below-below-requires c).Start

pub attempt-at-requires : goal.attempt-at-requires
attempt-at-requires c = subst (Placed _) (sym c.attempt_below-below.ensures) (placed_below (goal.at.attempt-at-requires c).Start c.others_of-o.result.time)

pub attempt_above-requires : goal.attempt_above-requires
attempt_above-requires c = let below = subst (Placed _) (sym c.attempt_below-below.ensures) (placed_below (goal.at.attempt_above-requires c).Start c.others_of-o.result.time) in
    subst (Placed _) (sym c.attempt-at.ensures) (tried (goal.at.attempt_above-requires c).Start c.others_of-o.result.time _ below)

pub returns : goal.returns
returns c = let a = c.args in
    let o = c.others_of-o in
    let fits : Fits w32 o.result.time = search rules in
    let least = others-least a.shovels.now a.times.now a.i _ o.result o.ensures c.requires.several.0.0 in
    best_found a.known.now a.shovels.now a.times.now c.requires.several.0.1 a.i o.result.time c.requires.several.1 least (omega (arith, fits.fits)) a.best c.requires.best_of
    _ _ _ c.attempt_below-below.ensures c.attempt-at.ensures c.attempt_above.ensures
