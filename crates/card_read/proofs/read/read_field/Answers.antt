use mathlib.Core.Path.{◌≡◌, refl}
use mathlib.Core.Logic.{◌≢◌}
use mathlib.Core.List.{List}
use Prim.Native.Nat.{ℕ}
use borrow.Author.Tests.{ne_eqb}
use lib.ListN.{get_or, set}
use Rattle.std.specs.Prelude.{Ok, Err}
use Rattle.std.proofs.lemmas.Result.{err_from_is_err_and}
use Rattle.refusals.specs.declared.Refusal.{Refusal}
use Rattle.refusals.specs.Refusals.{numbered}
use Rattle.refusals.proofs.Answers.{value_answered, refusal_answered, of_value, of_refusal}
use Rattle.card_format.specs.Fields.{Field, field, table_bit, extent}
use Rattle.card_fields.specs.Number.{number_read}
use Rattle.card_values.specs.declared.values.Values.{Values}
use Rattle.card_values.specs.FieldRead.{field_read, table_read}
use Rattle.card_read.proofs.FieldRead.{used-fits}
use Rattle.card_read.proofs.read.read_field.Goals as goal
use Rattle.card_read.proofs.read.read_field.Goals.{After-extent_of}

-- another field leaves the table as it was
kept : (k : ℕ) (part : List ℕ) (v : Values) (t : List ℕ) → k ≢ table_bit → t ≡ table_read k part v t
unfolding table_read
kept k part v t ne = rw (ne_eqb k table_bit ne) refl

-- the field that is read
abbrev here : ℕ → Values → Field
here k v = field (get_or v.numbers 0 0) k

-- what a number's reader answers, stored
refused_as : (k : ℕ) (part : List ℕ) (v : Values) (e : Refusal) → numbered {A = ℕ} (Err e) ≡ number_read (here k v) part → numbered (Err e) ≡ field_read k part v
unfolding field_read number_read
refused_as k part v e h = refusal_answered _ e _ (of_refusal _ _ h refl)

stored_as : (k : ℕ) (part : List ℕ) (v : Values) (x u : ℕ) → k ≢ table_bit → numbered (Ok x) ≡ number_read (here k v) part → u ≡ extent (here k v)
    → numbered (Ok (record { used = u; numbers = set v.numbers k x })) ≡ field_read k part v
unfolding field_read number_read
stored_as k part v x u ne h w =
    let found = of_value _ _ h refl in
    value_answered _ _ _ found.0 (rw (ne_eqb k table_bit ne, w, found.1) refl)

stored : (c : After-extent_of) → let a = c.args in
    numbered (Ok (record { used = c.extent_of.result; numbers = set a.v.numbers a.k c.in_ok-out.field-0 })) ≡ field_read a.k a.part.now a.v
stored c = stored_as _ _ _ _ _ c.if-k-eq-TABLE.false c.in_ok-out.ensures c.extent_of.ensures

pub returns-then-k-eq-TABLE-clause-used_in_bounds : goal.returns-then-k-eq-TABLE-clause-used_in_bounds
returns-then-k-eq-TABLE-clause-used_in_bounds c out e = used-fits table_bit _ _ out c.read_table.ensures.value e

pub returns-in_err-out-clause-value : goal.returns-in_err-out-clause-value
returns-in_err-out-clause-value c = let p = err_from_is_err_and c.from_residual.result c.from_residual.ensures.1 in
    rw (p.1, p.2) (refused_as _ _ _ _ c.in_err-out.ensures)

pub returns-in_err-out-clause-table_after : goal.returns-in_err-out-clause-table_after
returns-in_err-out-clause-table_after c = kept _ _ _ _ c.if-k-eq-TABLE.false

pub returns-clause-value : goal.returns-clause-value
returns-clause-value c = stored c

pub returns-clause-used_in_bounds : goal.returns-clause-used_in_bounds
returns-clause-used_in_bounds c out e = used-fits _ _ _ out (stored c) e

pub returns-clause-table_after : goal.returns-clause-table_after
returns-clause-table_after c = kept _ _ _ _ c.if-k-eq-TABLE.false
