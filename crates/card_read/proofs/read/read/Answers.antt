use mathlib.Core.Path.{◌≡◌, refl, sym, ap, ◌∙◌, subst}
use mathlib.Core.Bool.{false}
use mathlib.Core.Logic.{◌≢◌}
use mathlib.Core.List.{List}
use Prim.Native.Nat.{ℕ, ◌<◌}
use native.Mathlib.Omega.{arith}
use borrow.Author.Tests.{eq-eqb, eqb-true, eqb-false}
use lib.Count.{ones, ones-le, count_trailing_zeros}
use lib.ListN.{length, get_or, drop}
use Rattle.cycle.specs.Notation.{tabulate, bit}
use Rattle.std.specs.Prelude.{Ok}
use Rattle.std.proofs.lemmas.Result.{err_from_is_err_and}
use Rattle.tsc.specs.declared.Card.{Card}
use Rattle.refusals.specs.declared.Refusal.TheVariants.{Truncated, TableMissing}
use Rattle.refusals.specs.Refusals.{numbered, told, first_of}
use Rattle.refusals.proofs.Answers.{told_of_refusal}
use Rattle.refusals.proofs.Refusals.{none_first}
use Rattle.card_format.specs.Fields.{field, fields, field_count, table_bit, constant_bit}
use Rattle.card_format.specs.Reading.{reading, values, padded, card_from, form_checks}
use Rattle.cycle.proofs.Lists.{part_rest}
use Rattle.card_fields.proofs.Arrays.{array_of}
use Rattle.card_values.specs.declared.values.Values.{Values}
use Rattle.card_values.specs.FieldRead.{field_refusal, field_values, field_read, table_read, missing}
use Rattle.card_read.proofs.FieldRead.{field_found, field_refused}
use Rattle.card_read.proofs.Map.{lowest_one, left_all, ones_none, ones_some}
use Rattle.card_read.proofs.Reader.{Reached, Rest, reached-map, rest_gap, rest_here, rest_next, rest_refused, words-few, told_end, end_reached, told_empty, card_read, reading-refused, reading-accepted, byte-values}
use Rattle.card_read.proofs.Table.{table_start, table_length, rest_table, table_given, table_absent}
use Rattle.card_read.proofs.read.read.Goals as goal
use Rattle.card_read.proofs.read.read.Goals.{After-end_refusal, After-loop, After-read_field, At-loop, Else-table_missing, In-loop, In_ok-v}

-- ---- what is known at a place of the code
-- the card's bytes, seen from the loop
abbrev bytes : At-loop → List ℕ
bytes c = c.args.card.now

-- within the loop a field is left
some : (c : In-loop) → 0 < c.loop.left
some c = ones_some c.loop.left (omega arith)

-- past the table's test, none is missing before the next field
given : (c : Else-table_missing) → let l = c.loop in missing l.next (count_trailing_zeros 8 l.left) (get_or l.v.numbers 0 0) ≡ false
given c = sym c.table_missing.ensures ∙ c.if-table_missing.false

-- a field's reader had the bytes from the field's start on
field-told : (c : After-read_field) → let l = c.loop in
    let k = count_trailing_zeros 8 l.left in let part = drop l.at c.args.card.now in
    (numbered c.read_field.result ≡ field_read k part l.v) × (c.read_field.new.table ≡ table_read k part l.v l.table)
field-told c =
    let l = c.loop in
    let k = count_trailing_zeros 8 l.left in
    let rest = part_rest l.at c.args.card.now in (
      c.read_field.ensures.value ∙ ap (λ (part : List ℕ). field_read k part l.v) rest,
      c.read_field.ensures.table_after ∙ ap (λ (part : List ℕ). table_read k part l.v l.table) rest,
    )

-- and what it answered is the field's
found : (c : In_ok-v) → let l = c.loop in
    let k = count_trailing_zeros 8 l.left in let part = drop l.at c.args.card.now in
    (field_refusal k part l.v ≡ 0) × (c.in_ok-v.v ≡ field_values k part l.v)
found c =
    let l = c.loop in
    let k = count_trailing_zeros 8 l.left in
    let rest = part_rest l.at c.args.card.now in
    field_found k _ l.v _ (c.read_field.ensures.value ∙ ap (λ (part : List ℕ). field_read k part l.v) rest) c.in_ok-v.was

-- after the loop nothing is left
rest_none : (bytes : List ℕ) (left next at : ℕ) (v : Values) → Rest bytes left next at v → ones left ≡ 0 → Rest bytes 0 next at v
rest_none bytes left next at v h e = subst (λ (left : ℕ). Rest bytes left next at v) (ones_none left h.fields.small e) h

ended : (c : After-loop) → let l = c.loop in Rest c.args.card.now 0 l.next l.at l.v
ended c =
    let l = c.loop in
    rest_none _ l.left l.next l.at l.v l.invariant.0 (omega (arith, l.invariant.1))

-- and the end's refusal is the form's
end-told : (c : After-end_refusal) → told c.end_refusal.result ≡ first_of (form_checks c.args.card.now)
end-told c =
    let l = c.loop in
    let rest = rest_none _ l.left l.next l.at l.v l.invariant.0 (omega (arith, l.invariant.1)) in
    c.end_refusal.ensures ∙ sym (told_end _ l.next l.at l.v rest l.invariant.2)

-- where that is none, all fields are read
passed : (c : After-end_refusal) → told c.end_refusal.result ≡ 0 → let l = c.loop in Reached c.args.card.now field_count l.at l.v
passed c z =
    let l = c.loop in
    let rest = rest_none _ l.left l.next l.at l.v l.invariant.0 (omega (arith, l.invariant.1)) in
    end_reached _ l.next l.at l.v rest l.invariant.2 (sym c.end_refusal.ensures ∙ z)

-- so the card is that of the numbers and of a table that is the card's
low : (c : After-end_refusal) → told c.end_refusal.result ≡ 0 → let v = c.loop.v in
    (k : ℕ) → k < field_count → k ≢ table_bit → k ≢ constant_bit → get_or v.numbers k 0 < 256
low c z =
    let l = c.loop in
    byte-values _ (none_first _ (sym (end-told c) ∙ z)) l.at l.v (passed c z)

accepted : (c : After-end_refusal) → told c.end_refusal.result ≡ 0 → (r : Card) (t : List ℕ) → r ≡ card_from (λ k. get_or c.loop.v.numbers k 0) t
    → t ≡ padded (values c.args.card.now table_bit) → numbered (Ok r) ≡ reading c.args.card.now
accepted c z r t e d =
    let l = c.loop in
    reading-accepted _ r (sym (end-told c) ∙ z) (e ∙ card_read _ l.at l.v t (passed c z) d)

-- ---- the needs
pub returns-then-is_empty : goal.returns-then-is_empty
returns-then-is_empty c = reading-refused _ Truncated (told_empty _ (eqb-true _ 0 (sym c.if-is_empty.ensures)))

pub loop-init : goal.loop-init
unfolding array_of tabulate field fields
loop-init c = let card = c.args.card.now in
    let small : get_or card 0 0 < 256 = omega (arith, c.type_inv.card 0) in (
      record { reached = reached-map card _ (omega (arith, eqb-false (length card) 0 (sym c.if-is_empty.ensures))) refl; fields = left_all (get_or card 0 0) small },
      omega arith,
      omega arith,
      ones-le 8 (get_or card 0 0) small,
      refl,
      table_start card,
    )

pub returns-then-table_missing : goal.returns-then-table_missing
returns-then-table_missing c = let l = c.loop in
    reading-refused _ TableMissing (rest_gap _ l.left l.next l.at l.v l.invariant.0 (sym c.table_missing.ensures ∙ c.if-table_missing.true))

pub read_field-requires : goal.read_field-requires
read_field-requires c = let l = c.loop in (
  (rest_here _ l.left l.next l.at l.v l.invariant.0 (some (goal.at.read_field-requires c).In-loop) (given (goal.at.read_field-requires c).Else-table_missing)).1,
  words-few _ l.next l.at l.v l.invariant.0.reached,
  l.invariant.4,
)

pub returns-in_err-v : goal.returns-in_err-v
returns-in_err-v c = let p = err_from_is_err_and c.from_residual.result c.from_residual.ensures.1 in
    let l = c.loop in
    rw (p.1, p.2)
    (reading-refused _ _ (rest_refused _ l.left l.next l.at l.v _ l.invariant.0 (some (goal.at.returns-in_err-v c).In-loop) (given (goal.at.returns-in_err-v c).Else-table_missing)
    (field_refused _ _ _ _ (field-told (goal.at.returns-in_err-v c).After-read_field).0 c.in_err-v.was)))

pub loop-preserved : goal.loop-preserved
loop-preserved c = let l = c.loop in
    let low = lowest_one l.left (some (goal.at.loop-preserved c).In-loop) l.invariant.0.fields.small in
    let r = field-told (goal.at.loop-preserved c).After-read_field in
    let f = found c in (
      rest_next _ l.left l.next l.at l.v _ l.invariant.0 (some (goal.at.loop-preserved c).In-loop) (given (goal.at.loop-preserved c).Else-table_missing) f.0 f.1,
      omega (arith, low.count, l.invariant.1),
      omega (arith, low.within),
      omega arith,
      ap (λ (t : List ℕ). length t) r.1 ∙ table_length _ _ l.v l.table (words-few _ l.next l.at l.v l.invariant.0.reached) l.invariant.4,
      rest_table _ l.left l.next l.at l.v l.table _ l.invariant.0 (some (goal.at.loop-preserved c).In-loop) (given (goal.at.loop-preserved c).Else-table_missing) f.0 l.invariant.5 r.1,
    )

pub returns-in_err-end_refusal : goal.returns-in_err-end_refusal
returns-in_err-end_refusal c = let p = err_from_is_err_and c.from_residual-in_err-end_refusal.result c.from_residual-in_err-end_refusal.ensures.1 in
    rw (p.1, p.2) (reading-refused _ _ (told_of_refusal (end-told (goal.at.returns-in_err-end_refusal c).After-end_refusal) c.in_err-end_refusal.was))

pub card-requires : goal.card-requires
card-requires c = low (goal.at.card-requires c).After-end_refusal (ap told c.in_ok-end_refusal.was)

pub returns-then-card-eq0 : goal.returns-then-card-eq0
returns-then-card-eq0 c = accepted (goal.at.returns-then-card-eq0 c).After-end_refusal (ap told c.in_ok-end_refusal.was) _ _ c.card.ensures (c.absent_table.ensures ∙ table_absent (bytes (goal.at.returns-then-card-eq0 c).At-loop) (rw c.if-card-eq0.true refl))

pub card-requires-2 : goal.card-requires-2
card-requires-2 c = low (goal.at.card-requires-2 c).After-end_refusal (ap told c.in_ok-end_refusal.was)

pub returns : goal.returns
returns c = let l = c.loop in
    let given = eq-eqb (bit table_bit (get_or (bytes (goal.at.returns c).At-loop) 0 0)) 1 (omega (arith, c.if-card-eq0.false)) in
    accepted (goal.at.returns c).After-end_refusal (ap told c.in_ok-end_refusal.was) _ _ c.card-2.ensures (table_given _ l.next l.at l.v l.table (ended (goal.at.returns c).After-loop) l.invariant.2 given l.invariant.5)
