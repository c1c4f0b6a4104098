-- The table on the reader's way: zeros, until its bytes are put over them.
use mathlib.Core.Path.{◌≡◌, refl, sym, ap, ◌∙◌}
use mathlib.Core.Logic.{◌≢◌}
use mathlib.Core.Bool.{Bool, true, false, cond, ◌&&◌, and-false}
use mathlib.Core.List.{List, []}
use Prim.Native.Nat.{ℕ, suc, ◌+◌, ◌^◌, ◌≤◌, ◌<◌}
use native.Mathlib.Nat.{mul-one}
use native.Mathlib.Decide.{dec_lt}
use native.Mathlib.Numerals.{add-one}
use native.Mathlib.Omega.{arith}
use borrow.Author.Tests.{ne_eqb, lt-ltb, le-ltb, le-leb, lt-leb}
use lib.Count.{count_trailing_zeros}
use lib.Dec.{eqb, leb, ltb}
use lib.ListN.{length, get_or, drop, replicate}
use Rattle.tsc.specs.Constants.{most_words, tsc1_table}
use Rattle.card_values.specs.declared.values.Values.{Values}
use Rattle.card_format.specs.Fields.{field, fields, field_count, table_bit}
use Rattle.card_format.specs.Reading.{present, values, padded}
use Rattle.card_format.proofs.Fields.{by_table, few-entries, numbers_table}
use Rattle.cycle.proofs.Lists.{over, over_zeros, length_over}
use Rattle.card_values.specs.FieldRead.{field_refusal, table_read, missing}
use Rattle.card_read.proofs.FieldRead.{part_long}
use Rattle.card_read.proofs.Map.{next_field}
use Rattle.card_read.proofs.Reader.{Reached, Rest, values-absent, values-present, absent-below, rest_here}

-- the table, once the fields before field `next` are read
pub table_to : List ℕ → ℕ → List ℕ
table_to bytes next = padded (cond (ltb table_bit next && present bytes table_bit) (values bytes table_bit) [])

pub table_start : (bytes : List ℕ) → replicate (2 ^ most_words) 0 ≡ table_to bytes 0
unfolding table_to
table_start bytes = refl

-- a field's reader leaves all entries there
pub table_length : (k : ℕ) (part : List ℕ) (v : Values) (t : List ℕ) → get_or v.numbers 0 0 ≤ most_words → length t ≡ 2 ^ most_words
    → length (table_read k part v t) ≡ 2 ^ most_words
unfolding table_read
table_length k part v t few z = go (eqb k table_bit) (dec_lt (length part) size)
  where
    size : ℕ
    size = 2 ^ get_or v.numbers 0 0

    go : (b : Bool) → Dec (length part < size) → length (cond (b && leb size (length part)) (over part t size) t) ≡ 2 ^ most_words
    go false d = z
    go true (yes l) = rw (lt-leb _ _ l) z
    go true (no n) = rw (le-leb size (length part) (omega arith)) (length_over part t size (omega arith) (omega (arith, few-entries (get_or v.numbers 0 0) few)) ∙ z)

-- absent fields change nothing
table_gap : (bytes : List ℕ) (next k : ℕ) → next ≤ k → ((j : ℕ) → next ≤ j → j < k → present bytes j ≡ false) → table_to bytes next ≡ table_to bytes k
unfolding table_to
table_gap bytes next k n a = go (dec_lt table_bit next) (dec_lt table_bit k)
  where
    go : Dec (table_bit < next) → Dec (table_bit < k) → table_to bytes next ≡ table_to bytes k
    go (yes p) d = simp (lt-ltb table_bit next p, lt-ltb table_bit k (omega arith))
    go (no p) (yes q) = simp (a table_bit (omega arith) q, and-false)
    go (no p) (no q) = simp (le-ltb table_bit next (omega arith), le-ltb table_bit k (omega arith))

-- nor do other fields
table_other : (bytes : List ℕ) (k : ℕ) → k ≢ table_bit → table_to bytes k ≡ table_to bytes (suc k)
unfolding table_to
table_other bytes k ne = go (dec_lt table_bit k)
  where
    go : Dec (table_bit < k) → table_to bytes k ≡ table_to bytes (suc k)
    go (yes p) = simp (lt-ltb table_bit k p, lt-ltb table_bit (suc k) (omega arith))
    go (no p) = simp (le-ltb table_bit k (omega arith), le-ltb table_bit (suc k) (omega arith))

-- the table's own field, that nothing refuses
table_here : (bytes : List ℕ) (at : ℕ) (v : Values) → Reached bytes table_bit at v → present bytes table_bit ≡ true
    → field_refusal table_bit (drop at bytes) v ≡ 0 → table_read table_bit (drop at bytes) v (table_to bytes table_bit) ≡ table_to bytes (suc table_bit)
unfolding table_to table_read field fields
table_here bytes at v h p z =
    let m = get_or v.numbers 0 0 in
    let part = drop at bytes in
    let long : 2 ^ m ≤ length part = rw mul-one at (part_long (field m table_bit) part z) in
    rw (le-leb _ _ long, p) (over_zeros part (2 ^ most_words) (2 ^ m) long ∙ ap padded (sym (values-present bytes table_bit at v h p ∙ numbers_table m part long)))

table_field : (bytes : List ℕ) (at : ℕ) (v : Values) (k : ℕ) → k < field_count → Reached bytes k at v → present bytes k ≡ true
    → field_refusal k (drop at bytes) v ≡ 0 → table_read k (drop at bytes) v (table_to bytes k) ≡ table_to bytes (suc k)
unfolding table_read
table_field bytes at v =
    by_table (λ k. Reached bytes k at v → present bytes k ≡ true → field_refusal k (drop at bytes) v ≡ 0
    → table_read k (drop at bytes) v (table_to bytes k) ≡ table_to bytes (suc k))
    (table_here bytes at v) (λ k l ne h p z. rw (ne_eqb k table_bit ne) (table_other bytes k ne))

-- ---- the loop

pub rest_table : (bytes : List ℕ) (left next at : ℕ) (v : Values) (t₀ t : List ℕ) → Rest bytes left next at v → 0 < left
    → missing next (count_trailing_zeros 8 left) (get_or v.numbers 0 0) ≡ false → field_refusal (count_trailing_zeros 8 left) (drop at bytes) v ≡ 0
    → t₀ ≡ table_to bytes next → t ≡ table_read (count_trailing_zeros 8 left) (drop at bytes) v t₀ → t ≡ table_to bytes (count_trailing_zeros 8 left + 1)
rest_table bytes left next at v t₀ t h p m z d₀ d =
    let k = count_trailing_zeros 8 left in
    let here = rest_here bytes left next at v h p m in
    let gap = table_gap bytes next k (next_field (get_or bytes 0 0) left next h.fields p).0 (absent-below bytes left next h.fields) in
    d ∙ ap (table_read k (drop at bytes) v) (d₀ ∙ gap)
    ∙ table_field bytes at v k here.1 here.0 here.2 z ∙ ap (table_to bytes) (sym (add-one k))

-- ---- the end

-- where the table is present it is read
pub table_given : (bytes : List ℕ) (next at : ℕ) (v : Values) (t : List ℕ) → Rest bytes 0 next at v → next ≤ field_count → present bytes table_bit ≡ true
    → t ≡ table_to bytes next → t ≡ padded (values bytes table_bit)
unfolding table_to count_trailing_zeros
table_given bytes next at v t h n p e = e ∙ table_gap bytes next field_count n (absent-below bytes 0 next h.fields) ∙ simp p

-- where it is absent it is TSC-1's
pub table_absent : (bytes : List ℕ) → present bytes table_bit ≡ false → padded tsc1_table ≡ padded (values bytes table_bit)
unfolding field fields
table_absent bytes a = ap padded (sym (values-absent bytes table_bit a))
