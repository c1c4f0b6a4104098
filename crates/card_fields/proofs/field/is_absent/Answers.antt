use mathlib.Core.Path.{sym, ap, ◌∙◌}
use mathlib.Core.Bool.{and-true}
use mathlib.Core.List.{[], ◌∷◌}
use lib.Dec.{eqb}
use lib.ListN.{get_or}
use Rattle.cycle.specs.Notation.{tabulate}
use Rattle.card_format.specs.Fields.{field, fields, same}
use Rattle.card_format.proofs.Fields.{absent-one}
use Rattle.card_fields.proofs.Arrays.{array_of, array_of_lem}
use Rattle.card_fields.proofs.field.is_absent.Goals as goal

pub returns : goal.returns
unfolding same array_of tabulate field fields
returns c = let a = c.args in
    let p = c.requires in
    ap (eqb a.x) (array_of_lem a.m (λ f. get_or f.absent 0 0) a.k p.0 p.1)
    ∙ sym (and-true _) ∙ ap (same (a.x ∷ [])) (absent-one a.m a.k p.0 p.1)
