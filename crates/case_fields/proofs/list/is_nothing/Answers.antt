use Rattle.std.proofs.Common.{eqb, ap, ◌∙◌}
use lib.Pointwise.{pointwise}
use Rattle.case_fields.proofs.Lists.{same_nothing}
use Rattle.case_fields.proofs.list.is_nothing.Goals as goal

pub returns : goal.returns
returns c = let field = c.args.field.now in
    c.eq.ensures ∙ ap (pointwise eqb field) c.as_slice.ensures ∙ same_nothing field
