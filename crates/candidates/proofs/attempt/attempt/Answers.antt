use Rattle.std.proofs.Common.{Some}
use mathlib.Core.Path.{◌≡◌, sym, ap, ◌∙◌, subst}
use native.Mathlib.Omega.{arith}
use Rattle.changes.specs.declared.Change.{Change}
use lib.ListN.{set}
use Rattle.changes.specs.Change.{changed}
use Rattle.changes.specs.Others.{change_to}
use Rattle.changes.proofs.Nearest.{changed_to}
use Rattle.outcomes.specs.Elsewhere.{elsewhere}
use Rattle.change_order.specs.First.{comes_first}
use Rattle.candidates.specs.Best.{attempted}
use Rattle.candidates.proofs.Attempts.{attempt_none, attempt_later, attempt_stays, attempt_best}
use Rattle.candidates.proofs.attempt.attempt.Goals as goal
use Rattle.candidates.proofs.attempt.attempt.Goals.{Start}

-- the best change is kept, told of the change as it was made
kept : (start : Start) (x : Change) → let a = start.args in
    let s = a.shovel.now in
    x ≡ change_to s.times.now s.place a.v → a.best ≡ attempted s.known.now s.shovels.now s.times.now x a.best
    → a.best ≡ attempted s.known.now s.shovels.now s.times.now (change_to s.times.now s.place a.v) a.best
kept start x e = let a = start.args in
    let s = a.shovel.now in subst (λ (x : Change). a.best ≡ attempted s.known.now s.shovels.now s.times.now x a.best) e

-- the changed times
moved : (start : Start) → let a = start.args in
    let s = a.shovel.now in
    elsewhere s.known.now s.shovels.now (changed s.times.now (change_to s.times.now s.place a.v)) ≡ elsewhere s.known.now s.shovels.now (set s.times.now s.place a.v)
moved start = let a = start.args in
    let s = a.shovel.now in ap (elsewhere s.known.now s.shovels.now) (changed_to s.times.now s.place a.v)

pub returns-then-c-eq0 : goal.returns-then-c-eq0
returns-then-c-eq0 c = kept (goal.at.returns-then-c-eq0 c).Start _ c.change_to-c.ensures (attempt_none _ _ _ _ _ c.if-c-eq0.true)

pub comes_first-requires : goal.comes_first-requires
comes_first-requires c = let s = c.args.shovel.now in (rw c.change_to-c.ensures (omega (arith, s.listed, s.several.1.paired)), c.requires)

pub returns-then-not-comes_first : goal.returns-then-not-comes_first
returns-then-not-comes_first c = let later = sym c.comes_first.ensures ∙ c.if-not-comes_first.true in
    kept (goal.at.returns-then-not-comes_first c).Start _ c.change_to-c.ensures (attempt_later _ _ _ _ _ later)

pub returns-then-not-goes_elsewhere : goal.returns-then-not-goes_elsewhere
returns-then-not-goes_elsewhere c = attempt_stays _ _ _ _ _ (moved (goal.at.returns-then-not-goes_elsewhere c).Start ∙ sym c.goes_elsewhere.ensures ∙ c.if-not-goes_elsewhere.true)

pub returns : goal.returns
returns c = let a = c.args in
    let s = a.shovel.now in
    let e = c.change_to-c.ensures in
    let first = ap (λ (x : Change). comes_first s.shovels.now x a.best) (sym e) ∙ sym c.comes_first.ensures ∙ c.if-not-comes_first.false in
    ap Some e ∙ attempt_best s.known.now s.shovels.now s.times.now (change_to s.times.now s.place a.v) a.best
    (λ z. c.if-c-eq0.false (ap (λ (x : Change). x.seconds) e ∙ z)) first
    (moved (goal.at.returns c).Start ∙ sym c.goes_elsewhere.ensures ∙ c.if-not-goes_elsewhere.false)
