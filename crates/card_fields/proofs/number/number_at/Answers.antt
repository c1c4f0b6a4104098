use mathlib.Core.Path.{◌≡◌, sym, ap, ◌∙◌}
use mathlib.Core.List.{List, [], ◌∷◌}
use Prim.Native.Nat.{ℕ, ◌+◌, ◌*◌, ◌≤◌, ◌<◌}
use mathlib.Core.Logic.{◌≢◌}
use native.Mathlib.Omega.{arith}
use lib.ListN.{length, get_or}
use Rattle.cycle.specs.Notation.{sum}
use Rattle.card_format.specs.Fields.{field, fields, field_count, table_bit, constant_bit, extent, numbers}
use Rattle.card_format.proofs.Fields.{low_first, numbers-one, count-one, size-one}
use Rattle.card_fields.proofs.number.number_at.Goals as goal
use Rattle.card_fields.proofs.number.number_at.Goals.{Then-k-eq-CONSTANT}

four : (part : List ℕ) → get_or part 0 0 + get_or part 1 0 * 256 + get_or part 2 0 * 65536 + get_or part 3 0 * 16777216 ≡ low_first 4 part
unfolding sum
four part = omega arith

one : (part : List ℕ) → get_or part 0 0 ≡ low_first 1 part
unfolding sum
one part = omega arith

module _ (k m : ℕ) (part : List ℕ) (numeric : (k < field_count) × (k ≢ table_bit)) (there : extent (field m k) ≤ length part) where
  -- the field's number, by its size
  of_size : (s x : ℕ) → (field m k).size ≡ s → x ≡ low_first s part → numbers (field m k) part ≡ x ∷ []
  of_size s x es ex =
      numbers-one _ _ (count-one m k numeric.0 numeric.1) ∙ ap (λ (v : ℕ). v ∷ []) (ap (λ (s : ℕ). low_first s part) es ∙ sym ex)

  -- its bytes are there
  room : (s : ℕ) → (field m k).size ≡ s → s ≤ length part
  room s es = omega (arith, there, ap (λ (n : ℕ). n * (field m k).size) (count-one m k numeric.0 numeric.1))

  size_four : k ≡ constant_bit → (field m k).size ≡ 4
  unfolding field fields
  size_four e = ap (λ (j : ℕ). (field m j).size) e

-- the constant's four bytes are there
four_there : (c : Then-k-eq-CONSTANT) → 4 ≤ length c.args.part.now
four_there c = let r = c.requires in room _ _ _ r.k_lt_field_count r.k_in_bounds 4 (size_four _ _ _ r.k_lt_field_count r.k_in_bounds c.if-k-eq-CONSTANT.true)

pub bounds-part-0 : goal.bounds-part-0
bounds-part-0 c = omega (arith, four_there (goal.at.bounds-part-0 c).Then-k-eq-CONSTANT)

pub bounds-part-1 : goal.bounds-part-1
bounds-part-1 c = omega (arith, four_there (goal.at.bounds-part-1 c).Then-k-eq-CONSTANT)

pub bounds-part-2 : goal.bounds-part-2
bounds-part-2 c = omega (arith, four_there (goal.at.bounds-part-2 c).Then-k-eq-CONSTANT)

pub bounds-part-3 : goal.bounds-part-3
bounds-part-3 c = omega (arith, four_there (goal.at.bounds-part-3 c).Then-k-eq-CONSTANT)

pub returns-then-k-eq-CONSTANT : goal.returns-then-k-eq-CONSTANT
returns-then-k-eq-CONSTANT c = let r = c.requires in
    of_size _ _ _ r.k_lt_field_count r.k_in_bounds 4 _ (size_four _ _ _ r.k_lt_field_count r.k_in_bounds c.if-k-eq-CONSTANT.true) (c.low_first.ensures ∙ four c.args.part.now)

pub bounds-part-0-2 : goal.bounds-part-0-2
bounds-part-0-2 c = let r = c.requires in
    omega (arith, room _ _ _ r.k_lt_field_count r.k_in_bounds 1 (size-one c.args.m c.args.k r.k_lt_field_count.0 r.k_lt_field_count.1 c.if-k-eq-CONSTANT.false))

pub returns : goal.returns
returns c = let r = c.requires in
    of_size _ _ _ r.k_lt_field_count r.k_in_bounds 1 _ (size-one c.args.m c.args.k r.k_lt_field_count.0 r.k_lt_field_count.1 c.if-k-eq-CONSTANT.false) (one c.args.part.now)
