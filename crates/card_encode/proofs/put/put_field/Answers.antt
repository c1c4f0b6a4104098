use mathlib.Core.Path.{◌≡◌, refl, sym, ap, ap₂, ◌∙◌}
use mathlib.Core.Bool.{true}
use mathlib.Core.List.{List, ◌++◌}
use Prim.Native.Nat.{ℕ, ◌^◌, ◌≤◌}
use native.Mathlib.Nat.{mul-one}
use native.Mathlib.Omega.{arith}
use lib.ListN.{length, take, drop}
use Rattle.tsc.specs.Constants.{most_words}
use Rattle.tsc.specs.declared.Card.{Card}
use Rattle.card_format.specs.Fields.{field, fields, table_bit, extent}
use Rattle.card_format.specs.Writing.{is_written, field_bytes, in_range}
use Rattle.card_fields.specs.LowBytes.{low_bytes}
use Rattle.card_format.proofs.Writing.{range_words, length-field_bytes, extent-few, field_bytes-none, field_bytes_table}
use Rattle.card_encode.proofs.FieldBytes.{field_bytes-one}
use Rattle.std.proofs.lemmas.List.{length-take-le}
use borrow.Author.Rules.{rules}
use Rattle.card_encode.proofs.put.put_field.Goals as goal
use Rattle.card_encode.proofs.put.put_field.Goals.{After-extent_of-size}

-- the table's bytes are its entries
table_bytes : (card : Card) (k size : ℕ) → k ≡ table_bit → length card.table ≡ 2 ^ most_words → in_range card ≡ true → is_written card k ≡ true
    → size ≡ extent (field card.words k) → take size card.table ≡ field_bytes card k
unfolding field fields
table_bytes card k size t z r w e =
    ap (λ (n : ℕ). take n card.table) (e ∙ ap (λ (k : ℕ). extent (field card.words k)) t ∙ mul-one (2 ^ card.words))
    ∙ sym (ap (field_bytes card) t ∙ field_bytes_table card z r (ap (is_written card) (sym t) ∙ w))

-- ---- what is known at a place of the code
-- past the first test the field is written
is : (c : After-extent_of-size) → let a = c.args in is_written a.card a.k ≡ true
is c = sym c.is_written.ensures ∙ c.if-not-is_written.false

-- with its whole extent
whole : (c : After-extent_of-size) → let a = c.args in c.extent_of-size.result ≡ length (field_bytes a.card a.k)
whole c =
    let a = c.args in
    c.extent_of-size.ensures ∙ sym (length-field_bytes a.card a.k ∙ rw (is c) refl)

-- which the part and the table have
fits : (c : After-extent_of-size) → c.extent_of-size.result ≤ length c.args.part.now
fits c = omega (arith, whole c, c.requires.k_in_bounds)

few : (c : After-extent_of-size) → c.extent_of-size.result ≤ 2 ^ most_words
few c = omega (arith, c.extent_of-size.ensures, extent-few c.args.card.words (range_words c.args.card c.requires.k_lt_field_count.1) c.args.k c.requires.k_lt_field_count.0)

-- the bytes that are put at the start of the part are the field's
put : (c : After-extent_of-size) → let a = c.args in let n = c.extent_of-size.result in let b = field_bytes a.card a.k in
    (xs ys : List ℕ) → ys ≡ xs ++ drop n a.part.now → xs ≡ b → (n ≡ length b) × (ys ≡ b ++ drop (length b) a.part.now)
put c xs ys e d =
    let a = c.args in
    (whole c, e ∙ ap₂ (λ (xs : List ℕ) (n : ℕ). xs ++ drop n a.part.now) d (whole c))

-- ---- the needs
pub is_written-requires : goal.is_written-requires
is_written-requires c = (c.requires.k_lt_field_count.0, range_words c.args.card c.requires.k_lt_field_count.1)

pub returns-then-not-is_written : goal.returns-then-not-is_written
returns-then-not-is_written c =
    let a = c.args in
    let none = field_bytes-none a.card a.k (sym c.is_written.ensures ∙ c.if-not-is_written.true) in record { value = rw none refl; part_after = rw none refl }

pub extent_of-size-requires : goal.extent_of-size-requires
extent_of-size-requires c = (c.requires.k_lt_field_count.0, range_words c.args.card c.requires.k_lt_field_count.1)

pub slice_bounds-copy_from_slice-end : goal.slice_bounds-copy_from_slice-end
slice_bounds-copy_from_slice-end c = fits (goal.at.slice_bounds-copy_from_slice-end c).After-extent_of-size

pub slice_bounds-copy_from_slice-end-then-k-eq-TABLE : goal.slice_bounds-copy_from_slice-end-then-k-eq-TABLE
slice_bounds-copy_from_slice-end-then-k-eq-TABLE c =
    sym (length-take-le c.extent_of-size.result c.args.part.now (fits (goal.at.slice_bounds-copy_from_slice-end-then-k-eq-TABLE c).After-extent_of-size))

pub shared_ref_as_front-copy_from_slice : goal.shared_ref_as_front-copy_from_slice
shared_ref_as_front-copy_from_slice c = few (goal.at.shared_ref_as_front-copy_from_slice c).After-extent_of-size

pub copy_from_slice-requires : goal.copy_from_slice-requires
copy_from_slice-requires c = let n = c.extent_of-size.result in
    let e = (goal.at.copy_from_slice-requires c).After-extent_of-size in
    let z : length c.args.card.table ≡ 2 ^ most_words = search rules in
    length-take-le n c.args.part.now (fits e) ∙ sym (length-take-le n c.args.card.table (omega (arith, few e, z)))

pub returns-then-k-eq-TABLE : goal.returns-then-k-eq-TABLE
returns-then-k-eq-TABLE c =
    let a = c.args in
    let t = goal.at.returns-then-k-eq-TABLE c in
    let both = put t.After-extent_of-size c.copy_from_slice.new.self _ refl (c.copy_from_slice.ensures.after
    ∙ table_bytes a.card a.k c.extent_of-size.result c.if-k-eq-TABLE.true (search rules) c.requires.k_lt_field_count.1 (is t.After-extent_of-size) c.extent_of-size.ensures) in
    record { value = both.0; part_after = both.1 }

pub put_number-requires : goal.put_number-requires
put_number-requires c = fits (goal.at.put_number-requires c).After-extent_of-size

pub returns : goal.returns
returns c = let n = c.number_of in let both = put (goal.at.returns c).After-extent_of-size _ _ c.put_number.ensures
    (ap (low_bytes n.result) c.extent_of-size.ensures
    ∙ sym (field_bytes-one c.args.card c.args.k n.result c.requires.k_lt_field_count.0 c.if-k-eq-TABLE.false n.ensures (is (goal.at.returns c).After-extent_of-size))) in record { value = both.0; part_after = both.1 }
