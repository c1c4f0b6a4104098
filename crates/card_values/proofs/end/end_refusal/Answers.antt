use mathlib.Core.Path.{◌≡◌, sym, ◌∙◌}
use mathlib.Core.Bool.{false}
use borrow.Author.Tests.{lt-ltb, le-ltb}
use Rattle.card_format.specs.Fields.{field_count}
use lib.ListN.{get_or}
use Rattle.refusals.specs.Refusals.{first_of}
use Rattle.card_values.specs.FieldRead.{missing, end_checks}
use Rattle.card_values.proofs.end.end_refusal.Goals as goal
use Rattle.card_values.proofs.end.end_refusal.Goals.{Else-table_missing}

-- past the first test the table is not missing
given : (c : Else-table_missing) → let a = c.args in missing a.next field_count (get_or a.v.numbers 0 0) ≡ false
given c = sym c.table_missing.ensures ∙ c.if-table_missing.false

pub returns-then-table_missing : goal.returns-then-table_missing
unfolding end_checks first_of
returns-then-table_missing c = simp (sym c.table_missing.ensures ∙ c.if-table_missing.true)

pub returns-then-at-size : goal.returns-then-at-size
unfolding end_checks first_of
returns-then-at-size c = simp (given (goal.at.returns-then-at-size c).Else-table_missing, lt-ltb _ _ c.if-at-size.true)

pub returns-then-exceeds : goal.returns-then-exceeds
unfolding end_checks first_of
returns-then-exceeds c = simp (given (goal.at.returns-then-exceeds c).Else-table_missing, le-ltb _ _ c.if-at-size.false, sym c.exceeds.ensures ∙ c.if-exceeds.true)

pub returns : goal.returns
unfolding end_checks first_of
returns c = simp (given (goal.at.returns c).Else-table_missing, le-ltb _ _ c.if-at-size.false, sym c.exceeds.ensures ∙ c.if-exceeds.false)
