use Rattle.std.proofs.Common.{Some, option_map, sym, ap, ◌∙◌}
use Rattle.case_fields.specs.Lists.{Held, held, with_number}
use Rattle.case_fields.proofs.list.Numbers.with.Goals as goal

pub returns-in_err-count : goal.returns-in_err-count
returns-in_err-count g c = let a = c.args in
    c.from_residual.ensures
    ∙ sym (ap (λ (h : Held). with_number a.most (Some h) (Some a.number)) (sym c.self.view_is)
    ∙ c.put.ensures.value ∙ ap (option_map (held c.put.new.words)) c.in_err-count.was)

pub returns : goal.returns
returns g c = let a = c.args in
    sym (ap (λ (h : Held). with_number a.most (Some h) (Some a.number)) (sym c.self.view_is)
    ∙ c.put.ensures.value ∙ ap (option_map (held c.put.new.words)) c.in_ok-count.was)
