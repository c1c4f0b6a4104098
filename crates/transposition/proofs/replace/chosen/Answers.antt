use mathlib.Core.Path.{◌∙◌}
use Rattle.transposition.proofs.Groups.{chosen-rows}
use Rattle.transposition.proofs.replace.chosen.Goals as goal

pub returns : goal.returns
returns c = let a = c.args in
    chosen-rows a.g a.selector a.low a.odd a.even c.repeated-selected.result c.repeated-mask.result
    (λ k l. c.repeated-selected.ensures k l ∙ c.byte_of.ensures) (λ k l. c.repeated-mask.ensures k l ∙ c.byte_of-2.ensures)
