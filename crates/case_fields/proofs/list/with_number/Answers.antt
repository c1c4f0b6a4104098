use Rattle.std.proofs.Common.{refl}
use Rattle.case_fields.specs.Lists.{with_number}
use Rattle.case_fields.proofs.list.with_number.Goals as goal

pub returns-in_err-list : goal.returns-in_err-list
unfolding with_number
returns-in_err-list g c = rw (c.from_residual.ensures, c.in_err-list.was) refl

pub returns-in_err-number : goal.returns-in_err-number
unfolding with_number
returns-in_err-number g c = rw (c.from_residual-in_err-number.ensures, c.in_ok-list.was, c.in_err-number.was) refl
