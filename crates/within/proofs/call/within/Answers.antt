use mathlib.Core.Path.{◌≡◌, refl, sym, ap, ap₂, ◌∙◌}
use lib.IntN.{ℤ}
use mathlib.Core.Bool.{Bool, ◌&&◌}
use native.Mathlib.Omega.{arith}
use lib.ListN.{length, take, length-take}
use Rattle.cycle.proofs.Count.{count_le}
use Rattle.refusals.specs.Refusals.{first_of}
use Rattle.places.specs.Distances.{square}
use Rattle.places.specs.Places.{Places, placed, distances_of, on_map, is_radius, place_checks}
use Rattle.places.proofs.Signed.{read_back}
use Rattle.places.proofs.Distances.{length-distances}
use Rattle.places.proofs.Places.{measured_read, distances_read}
use Rattle.refusals.proofs.Answers.{number_nonzero}
use Rattle.nearby.specs.Calls.{within_checks}
use Rattle.nearby.proofs.Answers.{within-refused}
use Rattle.within.specs.Sorting.{keys_of, is_listed}
use Rattle.within.proofs.Sorting.{length_keys}
use Rattle.within.proofs.Passed.{Free, free, listed_by}
use Rattle.within.proofs.call.within.Goals as goal
use Rattle.within.proofs.call.within.Goals.{After-keys_of-found, After-places_refusal, In_default}

-- the places handed over
abbrev given : After-places_refusal → Places
given c = let a = c.args in placed a.x a.y a.shovels.now a.xs.now a.ys.now

-- what is asked of them, once it is found whether they are allowed
asked : (q : Places) (radius : ℤ) {allowed : Bool} → allowed ≡ (on_map q.x q.y q.xs q.ys && is_radius radius)
    → first_of (place_checks q.shovels q.xs q.ys allowed) ≡ first_of (within_checks q radius)
asked q radius e = ap (λ (b : Bool). first_of (place_checks q.shovels q.xs q.ys b)) e

-- past the test nothing is refused
passed : (c : In_default) → first_of (within_checks (let a = c.args in placed a.x a.y a.shovels.now a.xs.now a.ys.now) c.args.radius) ≡ 0
passed c =
    let a = c.args in
    let allowed = c.is_allowed-allowed.ensures ∙ rw (read_back c.ranges.x, read_back c.ranges.y, read_back c.ranges.radius) refl in
    sym (c.in_default.ensures ∙ asked (placed a.x a.y a.shovels.now a.xs.now a.ys.now) a.radius allowed)

going : (c : In_default) → Free ((let a = c.args in placed a.x a.y a.shovels.now a.xs.now a.ys.now)) c.args.radius
going c = free _ _ (passed c)

-- the keys
keys : (c : After-keys_of-found) → let q = (let a = c.args in placed a.x a.y a.shovels.now a.xs.now a.ys.now) in
    take (length q.xs) c.keys_of-found.result ≡ keys_of q.shovels (distances_of q) (square c.args.radius)
keys c =
    let q = (let a = c.args in placed a.x a.y a.shovels.now a.xs.now a.ys.now) in
    let limit = c.squared.ensures ∙ ap square (read_back c.ranges.radius) in
    c.keys_of-found.ensures ∙ ap₂ (keys_of q.shovels) (distances_read q.x q.y q.xs q.ys c.ranges.x c.ranges.y) limit

as_many : (c : After-keys_of-found) → let n = length ((let a = c.args in placed a.x a.y a.shovels.now a.xs.now a.ys.now)).xs in length (take n c.keys_of-found.result) ≡ n
as_many c =
    let q = (let a = c.args in placed a.x a.y a.shovels.now a.xs.now a.ys.now) in
    ap length (keys c) ∙ length_keys q.shovels (distances_of q) (square c.args.radius) ∙ length-distances q.x q.y q.xs q.ys

pub returns-in-Err : goal.returns-in-Err
returns-in-Err c =
    let q = given (goal.at.returns-in-Err c).After-places_refusal in
    let allowed = c.is_allowed-allowed.ensures ∙ rw (read_back c.ranges.x, read_back c.ranges.y, read_back c.ranges.radius) refl in
    c.refused.ensures
    ∙ within-refused q c.args.radius _ (number_nonzero c.in-Err.refusal) (c.in-Err.ensures ∙ asked q c.args.radius allowed)

pub squared-requires : goal.squared-requires
squared-requires c = rw (read_back c.ranges.radius) (going (goal.at.squared-requires c).In_default).is_radius_lem

pub keys_of-found-requires : goal.keys_of-found-requires
keys_of-found-requires c = let f = going (goal.at.keys_of-found-requires c).In_default in
    (measured_read c.ranges.x c.ranges.y f.measurable, f.paired, f.few)

pub slice_bounds-found-end : goal.slice_bounds-found-end
slice_bounds-found-end c = omega (arith, as_many c, length-take (length (given (goal.at.slice_bounds-found-end c).After-places_refusal).xs) c.keys_of-found.result)

pub slice_bounds-list_by-end : goal.slice_bounds-list_by-end
slice_bounds-list_by-end c = sym (as_many (goal.at.slice_bounds-list_by-end c).After-keys_of-found)

pub list_by-count-requires : goal.list_by-count-requires
list_by-count-requires c = let f = going (goal.at.list_by-count-requires c).In_default in
    (as_many (goal.at.list_by-count-requires c).After-keys_of-found ∙ sym f.paired, omega (arith, as_many (goal.at.list_by-count-requires c).After-keys_of-found, f.few))

pub overflow_cast-result : goal.overflow_cast-result
overflow_cast-result c = let ks = take (length (given (goal.at.overflow_cast-result c).After-places_refusal).xs) c.keys_of-found.result in
    omega (arith, c.list_by-count.ensures.counted, count_le (length ks) (is_listed ks), as_many (goal.at.overflow_cast-result c).After-keys_of-found, (going (goal.at.overflow_cast-result c).In_default).few)

pub returns : goal.returns
returns c = let l = c.list_by-count.ensures in
    listed_by (given (goal.at.returns c).After-places_refusal) c.args.radius (passed (goal.at.returns c).In_default) (λ i. (c.shared_slice_known-1.given i).fits) (keys (goal.at.returns c).After-keys_of-found) l.counted l.after
