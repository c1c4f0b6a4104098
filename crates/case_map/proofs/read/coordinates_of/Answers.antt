use Rattle.std.proofs.Common.{Some, eqb, sym, ap, ◌∙◌, rules, tests}
use Rattle.std.proofs.lemmas.Iterator.Splits.{YieldsList-from_slice_split}
use Rattle.std.proofs.lemmas.Iterator.Consumers.{fold_from_yields_List}
use Rattle.case_numbers.specs.Numbers.{most_number}
use Rattle.case_fields.specs.Lists.{room, with_number}
use Rattle.case_fields.proofs.Parts.{parts_split}
use Rattle.case_fields.proofs.Lists.{gathered}
use Rattle.case_map.specs.Coordinates.{half_in, coordinates_in}
use Rattle.case_map.proofs.read.coordinates_of.Goals as goal

pub returns-then-is_nothing : goal.returns-then-is_nothing
unfolding coordinates_in
returns-then-is_nothing c = simp (sym c.is_nothing.ensures ∙ c.if-is_nothing.true) (ap Some c.new.ensures)

pub returns : goal.returns
unfolding coordinates_in
returns c = let field = c.args.field.now in
    let value = half_in c.args.second in
    let s = c.split.ensures in
    simp (sym c.is_nothing.ensures ∙ c.if-is_nothing.false)
    (gathered most_number room value c.new.result _ _ c.fold.result c.new.ensures (parts_split 44 field)
    (fold_from_yields_List _ (λ b p. with_number most_number b (value p)) (Some c.new.result) c.fold.result c.fold.ensures.ran
    (YieldsList-from_slice_split _ (λ b. eqb b 44) field s.rest s.done s.closure (λ x b q k. search (rules, tests))) (λ a x b q k. search rules)))
