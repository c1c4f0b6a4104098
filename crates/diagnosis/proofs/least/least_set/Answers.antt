use Rattle.std.proofs.Common.{◌≤◌, length, refl, sym, ◌∙◌, arith}
use Rattle.cycle.specs.Notation.{first}
use Rattle.completions.specs.Completion.{Injective}
use Rattle.completions.specs.Finding.{is_fixed}
use Rattle.completions.proofs.Fewest.{FirstPair}
use Rattle.completions.proofs.Clashes.{injective}
use Rattle.completions.proofs.Least.{fixed_chosen, pair_of, pair_chosen, cycle-chosen}
use Rattle.diagnosis.specs.Marks.{entry_of}
use Rattle.diagnosis.proofs.Chosen.{alone, both, way}
use Rattle.diagnosis.proofs.Found.{of_some, of_none, pair_found, no_pair}
use Rattle.diagnosis.proofs.least.least_set.Goals as goal
use Rattle.diagnosis.proofs.least.least_set.Goals.{In_default, In-Some-first_pair, In_default-first_pair}

-- no place is its own entry
moves : (c : In_default) → let t = c.args.table.now in length t ≤ first (length t) (is_fixed (entry_of t))
moves c = omega (arith, of_none _ _ (sym c.fixed_point.ensures ∙ c.in_default.is))

-- the pair
pair : (c : In-Some-first_pair) → let t = c.args.table.now in FirstPair (length t) (entry_of t) c.in-Some-first_pair.x c.in-Some-first_pair.y
pair c =
    let t = c.requires.0 in
    let p = c.in-Some-first_pair in
    let (ex, l, ey) = pair_found _ (entry_of c.args.table.now) p.x p.y (sym c.first_pair.ensures ∙ p.is) in
    pair_of _ (entry_of c.args.table.now) t.large t.below (moves (goal.at.bounds-marks-y c).In_default) p.x p.y ex l ey

-- past the pairs no entry stands twice
once : (c : In_default-first_pair) → let t = c.args.table.now in Injective (length t) (entry_of t)
once c = injective _ (entry_of c.args.table.now) (no_pair _ _ (sym c.first_pair.ensures ∙ c.in_default-first_pair.is))

pub returns-in-Some : goal.returns-in-Some
returns-in-Some c = let t = c.requires.0 in
    let x = c.in-Some.x in
    let (e, l) = of_some _ _ x (sym c.fixed_point.ensures ∙ c.in-Some.is) in
    (fixed_chosen _ (entry_of c.args.table.now) t.large t.below x e l _ (alone _ t.fits _ refl x l)).0

pub first_pair-requires : goal.first_pair-requires
first_pair-requires c = (c.requires.0, of_none _ _ (sym c.fixed_point.ensures ∙ c.in_default.is))

pub bounds-marks-y : goal.bounds-marks-y
bounds-marks-y c = omega (arith, c.requires.0.fits, (pair c).below)

pub returns-in-Some-first_pair : goal.returns-in-Some-first_pair
returns-in-Some-first_pair c = let t = c.requires.0 in
    let p = pair c in
    (pair_chosen _ (entry_of c.args.table.now) t.large t.below (moves (goal.at.returns-in-Some-first_pair c).In_default) _ _ p _
    (both _ t.fits _ refl _ _ (omega (arith, p.apart, p.below)) p.below)).0

pub shortest-start-requires : goal.shortest-start-requires
shortest-start-requires c = (c.requires.0, once c)

pub returns : goal.returns
returns c = let f = entry_of c.args.table.now in
    let t = c.requires.0 in
    let s = c.shortest-start in
    let m = c.mark_cycle in
    (cycle-chosen _ f t.large t.below (once (goal.at.returns c).In_default-first_pair) c.requires.1 s.result s.ensures _
    (way _ t.fits _ refl f t.below s.result s.ensures.below m.result _ m.ensures.steps m.ensures.after)).0
