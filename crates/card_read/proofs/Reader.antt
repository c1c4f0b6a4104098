-- The reader's way from field to field: what stands before field `next`, where it is, and the values so far.
use mathlib.Core.Path.{◌≡◌, refl, sym, ap, ap₂, ◌∙◌, subst}
use mathlib.Core.Logic.{◌≢◌}
use mathlib.Core.Bool.{Bool, true, false, cond, not, ◌&&◌, and-eq-true_iff, and-false}
use mathlib.Core.List.{List, ◌++◌}
use Prim.Native.Nat.{ℕ, zero, suc, ◌+◌, ◌-◌, ◌^◌, ◌≤◌, ◌<◌}
use native.Mathlib.Nat.{add-zero, le_refl}
use native.Mathlib.Decide.{ℕ_discrete, le_ind}
use native.Mathlib.Numerals.{add-one}
use native.Mathlib.Omega.{arith}
use borrow.Author.Tests.{eq-eqb, ne_eqb, eqb-true, eqb-false, lt-ltb, le-ltb, ltb-true, le-leb, leb-true, not-true, not-false}
use lib.Bits.{bit_and}
use lib.Count.{count_trailing_zeros, trailing_le}
use lib.Dec.{eqb, leb, ltb}
use lib.ListN.{length, get_or, set, drop, length-drop}
use lib.Seq.{get_or-set_other, set-get_or}
use Rattle.tsc.specs.Constants.{most_words, default_words}
use Rattle.cycle.specs.Notation.{sum, tabulate}
use Rattle.card_values.specs.declared.values.Values.{Values}
use Rattle.std.specs.Prelude.{Ok, Err}
use Rattle.tsc.specs.declared.Card.{Card}
use Rattle.refusals.specs.declared.Refusal.{Refusal}
use Rattle.refusals.specs.Refusals.{Check, number, first_of, NoneApplies, numbered}
use Rattle.refusals.proofs.Answers.{value_answered, refusal_answered, number_nonzero}
use Rattle.card_format.specs.Fields.{field, fields, field_count, table_bit, constant_bit, numbers}
use Rattle.card_format.specs.Reading.{reading, present, offset, values_at, words_of, values, value, padded, card_from, card_of, field_checks, checks_to, form_checks, SoundForm}
use Rattle.card_values.specs.FieldRead.{field_refusal, field_values, missing, end_checks}
use Rattle.refusals.proofs.Refusals.{none_first, first-append, first-left, none-append}
use Rattle.card_format.proofs.Fields.{each_number, count-one, size-one, allowed_at}
use Rattle.card_fields.proofs.Arrays.{array_of, array_of_lem}
use Rattle.card_format.proofs.Verdict.{words-sound}
use Rattle.card_format.proofs.RoundTrip.{row_facts}
use Rattle.card_read.proofs.Map.{Left, lowest_one, left_below, next_field}
use Rattle.card_format.proofs.Sound.{offset_suc, fields-none, none_fitting, value-words, sound-value}
use Rattle.card_read.proofs.FieldRead.{part_long}

-- the numbers of absent fields
abbrev pub absents : List ℕ
absents = array_of default_words (λ f. get_or f.absent 0 0)

-- the numbers, once the fields before field k are read
pub numbers_to : List ℕ → ℕ → List ℕ
numbers_to bytes zero = absents
numbers_to bytes (suc k) = cond (eqb k table_bit) (numbers_to bytes k) (set (numbers_to bytes k) k (value bytes k))

-- none of the checks before field `next` applies, it is at `at`, and v has the numbers before it
pub record Reached (bytes : List ℕ) (next at : ℕ) (v : Values) : Type 0 where
  pub none : NoneApplies (checks_to bytes next)
  pub start : at ≡ offset (words_of bytes) bytes next
  pub within : at ≤ length bytes
  pub numbers : v.numbers ≡ numbers_to bytes next

-- ---- the numbers

-- field k changes number k alone
stored_other : (bytes : List ℕ) (k j : ℕ) → j ≢ k → get_or (numbers_to bytes (suc k)) j 0 ≡ get_or (numbers_to bytes k) j 0
unfolding numbers_to
stored_other bytes k j ne = go (eqb k table_bit)
  where
    go : (b : Bool) → get_or (cond b (numbers_to bytes k) (set (numbers_to bytes k) k (value bytes k))) j 0 ≡ get_or (numbers_to bytes k) j 0
    go true = refl
    go false = get_or-set_other (numbers_to bytes k) k j (value bytes k) 0 ne

-- those that are not read yet are absent; absent values do not depend on m
numbers_ahead : (bytes : List ℕ) (m k j : ℕ) → j < field_count → j ≢ table_bit → k ≤ j → get_or (numbers_to bytes k) j 0 ≡ get_or (field m j).absent 0 0
unfolding numbers_to field fields
numbers_ahead bytes m zero j lj ne l =
    array_of_lem default_words (λ f. get_or f.absent 0 0) j lj ne
    ∙ each_number (λ k. get_or (field default_words k).absent 0 0 ≡ get_or (field m k).absent 0 0) refl refl refl refl refl refl refl j lj ne
numbers_ahead bytes m (suc k) j lj ne l = stored_other bytes k j (λ e. absurd (omega arith)) ∙ numbers_ahead bytes m k j lj ne (omega arith)

-- after field 0, number 0 is m
words_read_lem : (bytes : List ℕ) (k : ℕ) → 0 < k → get_or (numbers_to bytes k) 0 0 ≡ words_of bytes
unfolding numbers_to array_of tabulate
words_read_lem bytes zero p = absurd (omega arith)
words_read_lem bytes (suc zero) p = value-words bytes
words_read_lem bytes (suc (suc k)) p = stored_other bytes (suc k) 0 (λ e. absurd (omega arith)) ∙ words_read_lem bytes (suc k) (omega arith)

pub words_known : (bytes : List ℕ) (next at : ℕ) (v : Values) → Reached bytes next at v → 0 < next → get_or v.numbers 0 0 ≡ words_of bytes
words_known bytes next at v h p = ap (λ (l : List ℕ). get_or l 0 0) h.numbers ∙ words_read_lem bytes next p

-- an absent field leaves the numbers as they were
pub values-absent : (bytes : List ℕ) (k : ℕ) → present bytes k ≡ false → values bytes k ≡ (field (words_of bytes) k).absent
unfolding values_at
values-absent bytes k a = rw a refl

numbers-absent : (bytes : List ℕ) (k : ℕ) → k < field_count → present bytes k ≡ false → numbers_to bytes k ≡ numbers_to bytes (suc k)
unfolding numbers_to
numbers-absent bytes k l a = go (ℕ_discrete k table_bit)
  where
    own : k ≢ table_bit → value bytes k ≡ get_or (numbers_to bytes k) k 0
    own ne =
        ap (λ (xs : List ℕ). get_or xs 0 0) (values-absent bytes k a) ∙ sym (numbers_ahead bytes (words_of bytes) k k l ne (le_refl k))

    go : Dec (k ≡ table_bit) → numbers_to bytes k ≡ cond (eqb k table_bit) (numbers_to bytes k) (set (numbers_to bytes k) k (value bytes k))
    go (yes e) = simp (eq-eqb k table_bit e)
    go (no ne) = rw (ne_eqb k table_bit ne, own ne) (sym (set-get_or (numbers_to bytes k) k 0))

-- ---- from field to field

-- before field 0 stands the map
pub reached-map : (bytes : List ℕ) (v : Values) → 0 < length bytes → v.numbers ≡ absents → Reached bytes 0 1 v
unfolding checks_to offset sum numbers_to NoneApplies
reached-map bytes v l en = record { none = (ne_eqb (length bytes) 0 (λ e. absurd (omega arith)), tt); start = refl; within = l; numbers = en }

-- past a field that is absent, and needn't be there
pub reached-absent : (bytes : List ℕ) (k at : ℕ) (v : Values) → k < field_count → Reached bytes k at v → present bytes k ≡ false
    → (k ≡ table_bit → words_of bytes ≡ default_words) → Reached bytes (suc k) at v
unfolding checks_to field_checks NoneApplies
reached-absent bytes k at v l h a four =
    record {
      none = none-append (checks_to bytes k) (field_checks bytes k) h.none (rw a (there (ℕ_discrete k table_bit), tt));
      start = h.start ∙ sym (offset_suc (words_of bytes) bytes k ∙ rw a (add-zero _));
      within = h.within;
      numbers = h.numbers ∙ numbers-absent bytes k l a;
    }
  where
    there : Dec (k ≡ table_bit) → (eqb k table_bit && not (eqb (words_of bytes) default_words)) ≡ false
    there (yes e) = simp (eq-eqb k table_bit e, eq-eqb (words_of bytes) default_words (four e))
    there (no ne) = simp (ne_eqb k table_bit ne)

-- ---- which refusal is told

-- that of field k, where none before it applies
told_at : (bytes : List ℕ) (k : ℕ) → k < field_count → NoneApplies (checks_to bytes k) → (r : ℕ) → r ≢ 0 → first_of (field_checks bytes k) ≡ r
    → first_of (form_checks bytes) ≡ r
unfolding form_checks checks_to
told_at bytes k l none r ne e =
    keep (checks_to bytes field_count) _ (le_ind (λ (j : ℕ). first_of (checks_to bytes j) ≡ r)
    (first-append (checks_to bytes k) (field_checks bytes k) none ∙ e) (λ j g h. keep (checks_to bytes j) (field_checks bytes j) h) field_count l)
  where
    keep : (cs ds : List Check) → first_of cs ≡ r → first_of (cs ++ ds) ≡ r
    keep cs ds h = first-left cs ds (λ z. ne (sym h ∙ z)) ∙ h

-- 4, where the table is absent and must not be
pub told_missing : (bytes : List ℕ) (at : ℕ) (v : Values) → Reached bytes table_bit at v → present bytes table_bit ≡ false
    → get_or v.numbers 0 0 ≢ default_words → first_of (form_checks bytes) ≡ 4
unfolding field_checks first_of
told_missing bytes at v h a ne =
    told_at bytes table_bit (omega arith) h.none 4 (λ e. absurd (omega arith))
    (rw a (simp (ne_eqb (words_of bytes) default_words (λ e. ne (words_known bytes table_bit at v h (omega arith) ∙ e)))))

-- ---- a field that is present

-- the reader knows the field: the words field does not depend on m, and behind it m is known
field_known : (bytes : List ℕ) (k at : ℕ) (v : Values) → Reached bytes k at v → field (get_or v.numbers 0 0) k ≡ field (words_of bytes) k
unfolding field fields
field_known bytes zero at v h = refl
field_known bytes (suc k) at v h = ap (λ (m : ℕ). field m (suc k)) (words_known bytes (suc k) at v h (omega arith))

-- what the field's reader refuses is what the checks of field k tell
field_told : (bytes : List ℕ) (k at : ℕ) (v : Values) → Reached bytes k at v → present bytes k ≡ true
    → field_refusal k (drop at bytes) v ≡ first_of (field_checks bytes k)
unfolding field_checks
field_told bytes k at v h p = rw (p, field_known bytes k at v h, h.start) refl

pub told_field : (bytes : List ℕ) (k at : ℕ) (v : Values) → k < field_count → Reached bytes k at v → present bytes k ≡ true
    → field_refusal k (drop at bytes) v ≢ 0 → first_of (form_checks bytes) ≡ field_refusal k (drop at bytes) v
told_field bytes k at v l h p ne = told_at bytes k l h.none _ ne (sym (field_told bytes k at v h p))

pub values-present : (bytes : List ℕ) (k at : ℕ) (v : Values) → Reached bytes k at v → present bytes k ≡ true
    → values bytes k ≡ numbers (field (get_or v.numbers 0 0) k) (drop at bytes)
unfolding values_at
values-present bytes k at v h p = rw (p, field_known bytes k at v h, h.start) refl

pub reached-field : (bytes : List ℕ) (k at : ℕ) (v : Values) → k < field_count → Reached bytes k at v → present bytes k ≡ true
    → field_refusal k (drop at bytes) v ≡ 0 → Reached bytes (suc k) (at + (field_values k (drop at bytes) v).used) (field_values k (drop at bytes) v)
unfolding checks_to numbers_to
reached-field bytes k at v l h p z =
    let x = values-present bytes k at v h p in
    record {
      none = none-append (checks_to bytes k) (field_checks bytes k) h.none (none_first _ (sym (field_told bytes k at v h p) ∙ z));
      start = ap₂ (λ (i j : ℕ). i + j) h.start (rw (p, field_known bytes k at v h) refl) ∙ sym (offset_suc (words_of bytes) bytes k);
      within = omega (arith, part_long _ (drop at bytes) z, length-drop at bytes, h.within);
      numbers = rw (sym x, h.numbers) refl;
    }

-- ---- over absent fields

no_table : (next k m : ℕ) → missing next k m ≡ false → next ≤ table_bit → table_bit < k → m ≡ default_words
no_table next k m h n l = eqb-true m default_words (not-false _ (rw (le-leb next table_bit n, lt-ltb table_bit k l) at h))

pub reached_next : (bytes : List ℕ) (next k at : ℕ) (v : Values) → Reached bytes next at v → next ≤ k → k ≤ field_count
    → ((j : ℕ) → next ≤ j → j < k → present bytes j ≡ false) → missing next k (get_or v.numbers 0 0) ≡ false → Reached bytes k at v
reached_next bytes next k at v h n l a none =
    le_ind (λ (j : ℕ). j ≤ k → Reached bytes j at v) (λ lj. h)
    (λ j g ih lj. let here = ih (omega arith) in
    reached-absent bytes j at v (omega arith) here (a j g (omega arith))
    (λ e. sym (words_known bytes j at v here (omega arith)) ∙ no_table next k _ none (omega arith) (omega arith)))
    k n (le_refl k)

pub told_gap : (bytes : List ℕ) (next k at : ℕ) (v : Values) → Reached bytes next at v → k ≤ field_count
    → ((j : ℕ) → next ≤ j → j < k → present bytes j ≡ false) → missing next k (get_or v.numbers 0 0) ≡ true → first_of (form_checks bytes) ≡ 4
told_gap bytes next k at v h l a m =
    let b = (and-eq-true_iff _ _).0 m in
    let c = (and-eq-true_iff _ _).0 b.0 in
    let n = leb-true next table_bit c.0 in
    let t = ltb-true table_bit k c.1 in
    told_missing bytes at v
    (reached_next bytes next table_bit at v h n (omega arith) (λ j nj lj. a j nj (omega arith)) (simp (le-ltb table_bit table_bit (le_refl table_bit), and-false)))
    (a table_bit n t) (eqb-false _ default_words (not-true _ b.1))

-- ---- the loop: what is left of the map goes with the place

pub record Rest (bytes : List ℕ) (left next at : ℕ) (v : Values) : Type 0 where
  pub reached : Reached bytes next at v
  pub fields : Left (get_or bytes 0 0) left next

-- the fields between `next` and the lowest of what is left are absent
pub absent-below : (bytes : List ℕ) (left next : ℕ) → Left (get_or bytes 0 0) left next → (j : ℕ) → next ≤ j → j < count_trailing_zeros 8 left → present bytes j ≡ false
absent-below bytes left next h j n l = rw (left_below (get_or bytes 0 0) left next h j n l) refl

-- so they are passed over, up to the next field or, where nothing is left, to the end
pub rest_gap : (bytes : List ℕ) (left next at : ℕ) (v : Values) → Rest bytes left next at v
    → missing next (count_trailing_zeros 8 left) (get_or v.numbers 0 0) ≡ true → first_of (form_checks bytes) ≡ 4
rest_gap bytes left next at v h m = told_gap bytes next _ at v h.reached (trailing_le 8 left) (absent-below bytes left next h.fields) m

pub rest_reached : (bytes : List ℕ) (left next at : ℕ) (v : Values) → Rest bytes left next at v → next ≤ count_trailing_zeros 8 left
    → missing next (count_trailing_zeros 8 left) (get_or v.numbers 0 0) ≡ false → Reached bytes (count_trailing_zeros 8 left) at v
rest_reached bytes left next at v h n m = reached_next bytes next _ at v h.reached n (trailing_le 8 left) (absent-below bytes left next h.fields) m

-- the next field
pub rest_here : (bytes : List ℕ) (left next at : ℕ) (v : Values) → Rest bytes left next at v → 0 < left
    → missing next (count_trailing_zeros 8 left) (get_or v.numbers 0 0) ≡ false
    → Reached bytes (count_trailing_zeros 8 left) at v × (count_trailing_zeros 8 left < 8) × (present bytes (count_trailing_zeros 8 left) ≡ true)
rest_here bytes left next at v h p m =
    let f = next_field (get_or bytes 0 0) left next h.fields p in
    (rest_reached bytes left next at v h f.0 m, (lowest_one left p h.fields.small).within, eq-eqb _ 1 f.1)

pub rest_next : (bytes : List ℕ) (left next at : ℕ) (v r : Values) → Rest bytes left next at v → 0 < left
    → missing next (count_trailing_zeros 8 left) (get_or v.numbers 0 0) ≡ false → field_refusal (count_trailing_zeros 8 left) (drop at bytes) v ≡ 0
    → r ≡ field_values (count_trailing_zeros 8 left) (drop at bytes) v → Rest bytes (bit_and left (left - 1)) (count_trailing_zeros 8 left + 1) (at + r.used) r
rest_next bytes left next at v r h p m z e =
    let f = next_field (get_or bytes 0 0) left next h.fields p in
    let here = rest_here bytes left next at v h p m in
    let k = count_trailing_zeros 8 left in
    record {
      reached =
          subst (λ (j : ℕ). Reached bytes j (at + r.used) r) (sym (add-one k))
          (subst (λ (r : Values). Reached bytes (suc k) (at + r.used) r) (sym e) (reached-field bytes k at v here.1 here.0 here.2 z));
      fields = f.2;
    }

pub rest_refused : (bytes : List ℕ) (left next at : ℕ) (v : Values) (e : Refusal) → Rest bytes left next at v → 0 < left
    → missing next (count_trailing_zeros 8 left) (get_or v.numbers 0 0) ≡ false → field_refusal (count_trailing_zeros 8 left) (drop at bytes) v ≡ number e
    → first_of (form_checks bytes) ≡ number e
rest_refused bytes left next at v e h p m q =
    let here = rest_here bytes left next at v h p m in
    told_field bytes (count_trailing_zeros 8 left) at v here.1 here.0 here.2 (λ z. number_nonzero e (sym q ∙ z)) ∙ q

-- m is within its bounds once the words field is past its checks, and before
pub words-few : (bytes : List ℕ) (next at : ℕ) (v : Values) → Reached bytes next at v → get_or v.numbers 0 0 ≤ most_words
unfolding numbers_to array_of tabulate fields field
words-few bytes zero at v h = rw h.numbers (omega arith)
words-few bytes (suc k) at v h =
    let f = none_fitting bytes 0 (omega arith) (fields-none bytes 0 (suc k) (omega arith) h.none) in
    omega (arith, words_known bytes (suc k) at v h (omega arith), value-words bytes, (allowed_at _ (values bytes 0) f.allow 0 (omega (arith, f.count))).1)

-- ---- the end, and what the reader answers

-- no byte at all: 1
pub told_empty : (bytes : List ℕ) → length bytes ≡ 0 → first_of (form_checks bytes) ≡ 1
unfolding form_checks checks_to first_of
told_empty bytes e = rw (eq-eqb (length bytes) 0 e) refl

-- past the last field: 4 where the table is missing, then 5, then 6
pub told_end : (bytes : List ℕ) (next at : ℕ) (v : Values) → Rest bytes 0 next at v → next ≤ field_count
    → first_of (form_checks bytes) ≡ first_of (end_checks (length bytes) next at v)
unfolding form_checks end_checks first_of card_of numbers_to array_of tabulate count_trailing_zeros
told_end bytes next at v h n = go (missing next field_count (get_or v.numbers 0 0)) refl
  where
    go : (b : Bool) → missing next field_count (get_or v.numbers 0 0) ≡ b
        → first_of (form_checks bytes) ≡ cond b 4 (cond (ltb at (length bytes)) 5 (cond (leb (2 ^ get_or v.numbers 1 0) (get_or v.numbers 5 0)) 6 0))
    go true m = rest_gap bytes 0 next at v h m
    go false m =
        let r = rest_reached bytes 0 next at v h n m in
        first-append (checks_to bytes field_count) _ r.none ∙ sym (rw (r.numbers, r.start) refl)

-- and past these
pub end_reached : (bytes : List ℕ) (next at : ℕ) (v : Values) → Rest bytes 0 next at v → next ≤ field_count
    → first_of (end_checks (length bytes) next at v) ≡ 0 → Reached bytes field_count at v
unfolding end_checks NoneApplies count_trailing_zeros
end_reached bytes next at v h n e = rest_reached bytes 0 next at v h n (none_first (end_checks (length bytes) next at v) e).0

-- the card of the numbers and the table
pub card_read : (bytes : List ℕ) (at : ℕ) (v : Values) (t : List ℕ) → Reached bytes field_count at v → t ≡ padded (values bytes table_bit)
    → card_from (λ k. get_or v.numbers k 0) t ≡ card_of bytes
unfolding card_of numbers_to array_of tabulate
card_read bytes at v t h e = rw (h.numbers, e) refl

pub reading-refused : (bytes : List ℕ) (e : Refusal) → first_of (form_checks bytes) ≡ number e → numbered (Err e) ≡ reading bytes
unfolding reading
reading-refused bytes e q = refusal_answered _ e (card_of bytes) q

pub reading-accepted : (bytes : List ℕ) (card : Card) → first_of (form_checks bytes) ≡ 0 → card ≡ card_of bytes → numbered (Ok card) ≡ reading bytes
unfolding reading
reading-accepted bytes card z e = value_answered _ card _ z e

-- a number is the field's value, and below 256 where it has one byte
numbers_read : (bytes : List ℕ) (k : ℕ) → k < field_count → k ≢ table_bit → get_or (numbers_to bytes field_count) k 0 ≡ value bytes k
unfolding numbers_to array_of tabulate
numbers_read bytes =
    each_number (λ k. get_or (numbers_to bytes field_count) k 0 ≡ value bytes k) refl refl refl refl refl refl refl

pub byte-values : (bytes : List ℕ) → SoundForm bytes → (at : ℕ) (v : Values) → Reached bytes field_count at v
    → (k : ℕ) → k < field_count → k ≢ table_bit → k ≢ constant_bit → get_or v.numbers k 0 < 256
unfolding card_of
byte-values bytes s at v h k l ne nc =
    let m = words_of bytes in
    let read : get_or v.numbers k 0 ≡ value bytes k = ap (λ (xs : List ℕ). get_or xs k 0) h.numbers ∙ numbers_read bytes k l ne in
    let few : m ≤ most_words = omega (arith, value-words bytes, words-sound bytes s) in
    let byte : 256 ^ (field m k).size ≡ 256 = ap (λ (n : ℕ). 256 ^ n) (size-one m k l ne nc) in
    omega (arith, read, (sound-value bytes s k l (count-one m k l ne)).1, (row_facts m k few l).0, byte)
