use Rattle.std.proofs.Common.{◌≡◌, ℕ, List, Some, option_map, refl, sym, ap, ap₂, ◌∙◌}
use Rattle.case_fields.specs.Lists.{held, numbers_in}
use Rattle.case_fields.proofs.list.numbers_of.Goals as goal
use Rattle.case_fields.proofs.list.numbers_of.Goals.{then-is_nothing, else-is_nothing+in_ok-count}

pub returns-in_err-count : goal.returns-in_err-count
unfolding numbers_in
returns-in_err-count g c =
    simp (sym c.is_nothing.ensures ∙ c.if-is_nothing.false)
    (c.from_residual.ensures ∙ sym (c.read_into.ensures.value ∙ ap (option_map (held c.read_into.new.words)) c.in_err-count.was))

pub returns : goal.returns
unfolding numbers_in
returns g c =
    elim c.if-is_nothing.branch [
      | then-is_nothing w ↦ simp (sym c.is_nothing.ensures ∙ w.if-is_nothing.true) (ap₂ (λ xs n. Some (held xs n)) w.words-is w.count-is)
      | else-is_nothing+in_ok-count w ↦
          simp (sym c.is_nothing.ensures ∙ w.if-is_nothing.false)
          (ap₂ (λ xs n. Some (held xs n)) w.words-is w.count-is ∙ sym (w.read_into.ensures.value ∙ ap (option_map (held w.read_into.new.words)) w.in_ok-count.was))
    ]
