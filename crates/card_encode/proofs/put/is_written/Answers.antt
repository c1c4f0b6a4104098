use mathlib.Core.Path.{sym, ap, ◌∙◌}
use mathlib.Core.Bool.{not}
use Rattle.card_format.specs.Fields.{fields, field}
use Rattle.card_format.specs.Writing.{numbers_of, is_written}
use Rattle.card_encode.proofs.put.is_written.Goals as goal

pub returns-then-k-eq-TABLE : goal.returns-then-k-eq-TABLE
unfolding numbers_of field fields
returns-then-k-eq-TABLE c = ap not c.is_tsc1.ensures ∙ ap (is_written c.args.card) (sym c.if-k-eq-TABLE.true)

pub returns : goal.returns
returns c = rw c.number_of.ensures (ap not c.is_absent.ensures)
