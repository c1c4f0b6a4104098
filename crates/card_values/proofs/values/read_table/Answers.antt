use mathlib.Core.Path.{◌≡◌, refl, sym, ap, ◌∙◌}
use mathlib.Core.List.{List}
use mathlib.Core.Bool.{cond, not}
use Prim.Native.Nat.{ℕ, ◌^◌, ◌≤◌, ◌<◌}
use native.Mathlib.Nat.{mul-one}
use native.Mathlib.Omega.{arith}
use borrow.Author.Tests.{le-leb, lt-leb}
use lib.ListN.{length, get_or, take}
use lib.Seq.{length-take-le, take_at}
use Rattle.tsc.specs.Constants.{tsc1_table}
use Rattle.std.specs.Prelude.{Ok, Err}
use Rattle.refusals.specs.declared.Refusal.{Refusal}
use Rattle.refusals.specs.declared.Refusal.TheVariants.{Truncated, OutOfRange, Redundant}
use Rattle.refusals.specs.Refusals.{number, numbered, first_of}
use Rattle.refusals.proofs.Answers.{value_answered, refusal_answered}
use Rattle.card_format.specs.Fields.{field, fields, table_bit, allowed, same}
use Rattle.card_format.specs.Reading.{part_checks}
use Rattle.card_format.proofs.Fields.{table_short, table_refusal}
use Rattle.cycle.proofs.Lists.{over}
use Rattle.card_values.specs.declared.values.Values.{Values}
use Rattle.card_values.specs.FieldRead.{field_refusal, field_read, table_read}
use Rattle.card_values.proofs.values.read_table.Goals as goal
use Rattle.card_values.proofs.values.read_table.Goals.{After-put_entries, Else-not-entries_allowed}

-- what the table's reader answers: the first refusal of the table's checks, or the numbers as they were
refused_as : (part : List ℕ) (v : Values) (e : Refusal) → field_refusal table_bit part v ≡ number e
    → numbered (Err e) ≡ field_read table_bit part v
unfolding field_read
refused_as part v e q = refusal_answered _ e _ q

stored_as : (part : List ℕ) (v : Values) (size : ℕ) → size ≡ 2 ^ get_or v.numbers 0 0 → field_refusal table_bit part v ≡ 0
    → numbered (Ok (record { used = size; numbers = v.numbers })) ≡ field_read table_bit part v
unfolding field_read field fields
stored_as part v size es e = value_answered _ _ _ e (ap {B = Values} (λ (n : ℕ). record { used = n; numbers = v.numbers }) (es ∙ sym (mul-one _)))

-- ---- what is known at a place of the code
-- past the first test the table's bytes are there
long : (part : List ℕ) (m size : ℕ) → size ≡ 2 ^ m → size ≤ length part → 2 ^ m ≤ length part
long part m size e l = omega arith

-- and are put over the table's first entries
over-table : (c : After-put_entries) → let a = c.args in
    c.put_entries.new.table ≡ over a.part.now a.table.now (2 ^ get_or a.v.numbers 0 0)
over-table c =
    let a = c.args in
    c.put_entries.ensures ∙ ap (over a.part.now a.table.now) c.entries-size.ensures

table-read : (c : After-put_entries) → let a = c.args in
    c.put_entries.new.table ≡ table_read table_bit a.part.now a.v a.table.now
unfolding table_read
table-read c =
    let a = c.args in
    let h : 2 ^ get_or a.v.numbers 0 0 ≤ length a.part.now = long _ _ _ c.entries-size.ensures c.if-part-size.false in
    rw (le-leb _ _ h) (over-table c)

-- so the field's refusal goes by the table
by_table : (part table new : List ℕ) (m size : ℕ) → size ≡ 2 ^ m → size ≤ length part → new ≡ over part table size → let xs = take (2 ^ m) new in
    first_of (part_checks (field m table_bit) part) ≡ cond (not (allowed (field m table_bit) xs)) 2 (cond (same xs tsc1_table) 3 0)
by_table part table new m size es l e =
    let h = long part m size es l in
    table_refusal m part h _ (ap (take (2 ^ m)) (e ∙ ap (over part table) es) ∙ take_at (take (2 ^ m) part) _ (2 ^ m) (length-take-le (2 ^ m) part h))

-- past the second test its entries are allowed
by-absent : (c : Else-not-entries_allowed) → let a = c.args in let m = get_or a.v.numbers 0 0 in
    first_of (part_checks (field m table_bit) a.part.now) ≡ cond (same (take (2 ^ m) c.put_entries.new.table) tsc1_table) 3 0
by-absent c =
    by_table _ _ _ _ _ c.entries-size.ensures c.if-part-size.false c.put_entries.ensures ∙ simp (sym c.entries_allowed.ensures ∙ c.if-not-entries_allowed.false)

-- ---- the needs
pub returns-then-part-size : goal.returns-then-part-size
unfolding table_read
returns-then-part-size c = let a = c.args in
    let m = get_or a.v.numbers 0 0 in
    let short : length a.part.now < 2 ^ m = omega (arith, c.entries-size.ensures) in record { value = refused_as a.part.now a.v Truncated (table_short m a.part.now short); table_after = rw (lt-leb _ _ short) refl }

pub returns-then-not-entries_allowed : goal.returns-then-not-entries_allowed
returns-then-not-entries_allowed c = record {
  value = refused_as _ _ OutOfRange
      (by_table _ _ _ _ _ c.entries-size.ensures c.if-part-size.false c.put_entries.ensures ∙ simp (sym c.entries_allowed.ensures ∙ c.if-not-entries_allowed.true));
  table_after = table-read (goal.at.returns-then-not-entries_allowed c).After-put_entries;
}

pub returns-then-is_tsc1 : goal.returns-then-is_tsc1
returns-then-is_tsc1 c = record {
  value = refused_as _ _ Redundant
      (by-absent (goal.at.returns-then-is_tsc1 c).Else-not-entries_allowed ∙ simp (sym c.is_tsc1.ensures ∙ c.if-is_tsc1.true));
  table_after = table-read (goal.at.returns-then-is_tsc1 c).After-put_entries;
}

pub returns : goal.returns
returns c = record {
  value = stored_as _ _ _ c.entries-size.ensures
      (by-absent (goal.at.returns c).Else-not-entries_allowed ∙ simp (sym c.is_tsc1.ensures ∙ c.if-is_tsc1.false));
  table_after = table-read (goal.at.returns c).After-put_entries;
}
