use Rattle.std.proofs.Common.{Less, Equal, Greater, nat_cmp}
use Rattle.std.proofs.lemmas.Bool.Decides.{nat_tests}
use mathlib.Core.Path.{◌≡◌, refl, ap, ◌∙◌}
use mathlib.Core.Bool.{Bool, true, false}
use mir.Val.{bool_byte}
use Rattle.cycle.specs.Notation.{one}
use Prim.Native.Nat.{ℕ, ◌+◌, ◌≤◌, ◌<◌}
use native.Mathlib.Omega.{arith}
use lib.Dec.{ltb}
use lib.ListN.{length, get_or}
use Rattle.cycle.proofs.Count.{one_le}
use Rattle.tie_others.proofs.Joined.{others-few}
use Rattle.outcomes.proofs.Outcomes.{outcome-below, outcome-at, outcome-above}
use Rattle.outcomes.proofs.outcome.Varied.outcome_of.Goals as goal
use Rattle.outcomes.proofs.outcome.Varied.outcome_of.Goals.{Start}

-- a test as a number
as_number : (b : Bool) → bool_byte b ≡ one b
as_number true = refl
as_number false = refl

-- what the comparison tells
below : (x y : ℕ) → Less ≡ nat_cmp x y → x < y
below x y e = grind (arith, nat_tests, e)

same : (x y : ℕ) → Equal ≡ nat_cmp x y → x ≡ y
same x y e = grind (arith, nat_tests, e)

above : (x y : ℕ) → Greater ≡ nat_cmp x y → y < x
above x y e = grind (arith, nat_tests, e)

-- the others' ties are no more than shovels
few : (start : Start) → let s = start.args.self.now in (s.others.ties ≤ length s.times.now) × (s.others.lower ≤ length s.times.now)
few start = let s = start.args.self.now in others-few s.shovels.now s.times.now s.place _ _ s.others s.compared

pub returns-in-Less : goal.returns-in-Less
returns-in-Less c = let s = c.args.self.now in
    let h = outcome-below s.shovels.now s.times.now s.place s.known.now.chosen c.args.v s.listed s.several.1.place s.several.0 s.others s.compared (below _ _ c.in-Less.ensures) in
    record { ties = h.ties; tie = h.tie; rank = (c.from-lower.ensures ∙ as_number _) ∙ h.rank }

pub overflow_add-result : goal.overflow_add-result
overflow_add-result c = omega (arith, (few (goal.at.overflow_add-result c).Start).0, c.args.self.now.several.1.few)

pub overflow_add-result-in-Equal : goal.overflow_add-result-in-Equal
overflow_add-result-in-Equal c = let s = c.args.self.now in
    let one : c.from-lower.result ≤ 1 = rw (c.from-lower.ensures ∙ as_number _) (one_le (ltb (get_or s.shovels.now s.place 0) (get_or s.shovels.now s.known.now.chosen 0))) in
    omega (arith, (few (goal.at.overflow_add-result-in-Equal c).Start).1, s.several.1.few, one)

pub returns-in-Equal : goal.returns-in-Equal
returns-in-Equal c = let s = c.args.self.now in
    let at = same _ _ c.in-Equal.ensures in
    let h = outcome-at s.shovels.now s.times.now s.place s.known.now.chosen c.args.v s.listed s.several.1.place s.several.0 s.others s.compared at in
    let n = (c.from-lower.ensures ∙ as_number _) in
    record { ties = h.ties; tie = c.tie_at.ensures ∙ h.tie; rank = ap (λ (k : ℕ). s.others.lower + k) n ∙ h.rank }

pub returns-in-Greater : goal.returns-in-Greater
returns-in-Greater c = let s = c.args.self.now in
    let h = outcome-above s.shovels.now s.times.now s.place s.known.now.chosen c.args.v s.listed s.several.1.place s.several.0 s.others s.compared (above _ _ c.in-Greater.ensures) in
    record { ties = h.ties; tie = c.tie_at-in-Greater.ensures ∙ h.tie; rank = h.rank }
