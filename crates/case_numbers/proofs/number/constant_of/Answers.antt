use Rattle.std.proofs.Common.{ap, ◌∙◌}
use Rattle.case_numbers.specs.Numbers.{numeral, constant_in}
use Rattle.case_numbers.proofs.Digits.{same_prefix}
use Rattle.case_numbers.proofs.number.constant_of.Goals as goal

pub returns-in-Some : goal.returns-in-Some
unfolding constant_in
returns-in-Some c = let h = c.in-Some.ensures.cases in
    simp (same_prefix c.args.field.now ∙ h.0) (c.number_of.ensures ∙ ap (numeral 16) h.1)

pub returns-in-None : goal.returns-in-None
unfolding constant_in
returns-in-None c = simp (same_prefix c.args.field.now ∙ c.in-None.ensures.cases) c.number_of-in-None.ensures
