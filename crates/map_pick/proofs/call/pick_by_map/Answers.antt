use mathlib.Core.Path.{◌≡◌, sym, ap, subst, ◌∙◌}
use mathlib.Core.Bool.{Bool, true}
use mathlib.Core.List.{List, ◌++◌}
use Prim.Native.Nat.{ℕ}
use native.Mathlib.Omega.{arith}
use lib.ListN.{length, take, length-take}
use Rattle.refusals.specs.Refusals.{first_of}
use Rattle.refusals.proofs.Answers.{told_of_refusal}
use Rattle.draws.specs.Calls.{call_checks}
use Rattle.ties.specs.Least.{SameTies}
use Rattle.places.specs.Places.{Places, placed, distances_of, on_map, place_checks}
use Rattle.places.proofs.Signed.{read_back}
use Rattle.places.proofs.Distances.{length-distances}
use Rattle.places.proofs.Places.{measured_read, distances_read}
use Rattle.map_pick.specs.Measured.{can_measure}
use Rattle.map_pick.proofs.Measured.{measurable, told_refused, refuses, told_picked}
use Rattle.map_pick.proofs.call.pick_by_map.Goals as goal
use Rattle.map_pick.proofs.call.pick_by_map.Goals.{After-can_measure, After-marks_of-marks, Else-not-can_measure}

-- the places handed over
abbrev given : After-can_measure → Places
given m = let a = m.args in placed a.x a.y a.shovels.now a.xs.now a.ys.now

-- what has been found of them
mapped : (m : After-can_measure) → let q = given m in m.on_map-mapped.result ≡ on_map q.x q.y q.xs q.ys
mapped m =
    m.on_map-mapped.ensures ∙ rw (read_back m.ranges.x, read_back m.ranges.y)

found : (m : After-can_measure) → let q = given m in m.can_measure.result ≡ can_measure q.shovels q.xs q.ys (on_map q.x q.y q.xs q.ys)
found m = let q = given m in m.can_measure.ensures ∙ ap (can_measure q.shovels q.xs q.ys) (mapped m)

can : (c : Else-not-can_measure) → let q = (let a = c.args in placed a.x a.y a.shovels.now a.xs.now a.ys.now) in can_measure q.shovels q.xs q.ys (on_map q.x q.y q.xs q.ys) ≡ true
can c = sym ((let q = (let a = c.args in placed a.x a.y a.shovels.now a.xs.now a.ys.now) in c.can_measure.ensures ∙ ap (can_measure q.shovels q.xs q.ys) ((c.on_map-mapped.ensures ∙ rw (read_back c.ranges.x, read_back c.ranges.y))))) ∙ c.if-not-can_measure.false

-- as many times as shovels
ties-alike : (c : After-marks_of-marks) → let q = (let a = c.args in placed a.x a.y a.shovels.now a.xs.now a.ys.now) in SameTies (distances_of q) (take (length q.xs) c.marks_of-marks.result)
ties-alike c =
    let q = (let a = c.args in placed a.x a.y a.shovels.now a.xs.now a.ys.now) in
    subst (λ (d : List ℕ). SameTies d (take (length q.xs) c.marks_of-marks.result)) (distances_read q.x q.y q.xs q.ys c.ranges.x c.ranges.y) c.marks_of-marks.ensures

as_many : (c : After-marks_of-marks) → let n = length ((let a = c.args in placed a.x a.y a.shovels.now a.xs.now a.ys.now)).xs in length (take n c.marks_of-marks.result) ≡ n
as_many c = let q = (let a = c.args in placed a.x a.y a.shovels.now a.xs.now a.ys.now) in sym (ties-alike c).size ∙ length-distances q.x q.y q.xs q.ys

pub unwrap_err-requires : goal.unwrap_err-requires
unwrap_err-requires c = let m = (goal.at.unwrap_err-requires c).After-can_measure in
    let q = given m in
    let a = c.args in
    let h = c.first_refusal-told.ensures ∙ ap (λ (b : Bool). first_of (call_checks a.card.now a.state.now ++ place_checks q.shovels q.xs q.ys b)) (mapped m) in
    refuses _ _ q (sym (found m) ∙ c.if-not-can_measure.true) _ h

pub returns-then-not-can_measure : goal.returns-then-not-can_measure
returns-then-not-can_measure c = let m = (goal.at.returns-then-not-can_measure c).After-can_measure in
    let q = given m in
    let a = c.args in
    let h = c.first_refusal-told.ensures ∙ ap (λ (b : Bool). first_of (call_checks a.card.now a.state.now ++ place_checks q.shovels q.xs q.ys b)) (mapped m) in
    let both = told_refused _ _ q (sym (found m) ∙ c.if-not-can_measure.true) (sym (told_of_refusal h c.unwrap_err.ensures)) in
    rw c.from.ensures (record { answer = both.0; after = both.1 })

pub marks_of-marks-requires : goal.marks_of-marks-requires
marks_of-marks-requires c = let at = goal.at.marks_of-marks-requires c in
    let h = measurable c.args.card.now c.args.state.now (given at.After-can_measure) (can at.Else-not-can_measure) in
    (measured_read c.ranges.x c.ranges.y h.0, h.1, h.2)

pub slice_bounds-marks-end : goal.slice_bounds-marks-end
slice_bounds-marks-end c = let n = length (given (goal.at.slice_bounds-marks-end c).After-can_measure).xs in
    omega (arith, as_many (goal.at.slice_bounds-marks-end c).After-marks_of-marks, length-take n c.marks_of-marks.result)

pub slice_bounds-pick-end : goal.slice_bounds-pick-end
slice_bounds-pick-end c = sym (as_many (goal.at.slice_bounds-pick-end c).After-marks_of-marks)

pub returns : goal.returns
returns c = let both = told_picked _ _ (given (goal.at.returns c).After-can_measure) (can (goal.at.returns c).Else-not-can_measure) (ties-alike (goal.at.returns c).After-marks_of-marks) c.pick.ensures.answer c.pick.ensures.after in record { answer = both.0; after = both.1 }
