-- A card of sound form: each field holds allowed numbers, as many as it should, so that the coverage theorem speaks of its values.
use mathlib.Core.Path.{◌≡◌, refl, sym, subst}
use mathlib.Core.Bool.{Bool, true, false, cond, not, ◌&&◌, and-eq-true_iff}
use mathlib.Core.List.{List, [], ◌∷◌}
use Prim.Native.Nat.{ℕ, zero, suc, ◌+◌, ◌^◌, ◌≤◌, ◌<◌}
use native.Mathlib.Nat.{add_assoc}
use native.Mathlib.Decide.{ℕ_discrete}
use native.Mathlib.Omega.{arith}
use borrow.Author.Tests.{eqb-true, eq-eqb, not-false}
use lib.Dec.{eqb}
use lib.ListN.{length, get_or, drop, get_or-append}
use lib.Pow.{pow_pos}
use Rattle.cycle.specs.Notation.{sum}
use Rattle.cycle.proofs.Digits.{length-tabulate}
use Rattle.tsc.specs.Constants.{default_words}
use Rattle.tsc.specs.Step.{entry}
use Rattle.tsc.specs.Coverage.{WellFormed}
use Rattle.refusals.specs.Refusals.{NoneApplies, check}
use Rattle.refusals.specs.declared.Refusal.TheVariants.{TableMissing}
use Rattle.card_format.specs.Fields.{Field, fields, field, field_count, table_bit, extent, numbers, allowed}
use Rattle.card_format.specs.Reading.{present, offset, values_at, words_of, values, value, card_of, part_checks, field_checks, checks_to, form_checks, SoundForm}
use Rattle.refusals.proofs.Refusals.{none_left, none_right}
use Rattle.card_format.proofs.Fields.{by_table, each_number, allowed_at}

-- the numbers that stand for a field: allowed, and as many as the field has
pub record Fitting (f : Field) (xs : List ℕ) : Type 0 where
  pub allow : allowed f xs ≡ true
  pub count : length xs ≡ f.count

-- each absent value fits, the table's where m is the default
fits : Field → Bool
fits f = allowed f f.absent && eqb (length f.absent) f.count

absent_fitting : (m k : ℕ) → k < field_count → (k ≡ table_bit → m ≡ default_words) → Fitting (field m k) (field m k).absent
unfolding fits fields field allowed
absent_fitting m k l t = record { allow = both.0; count = eqb-true _ _ both.1 }
  where
    holds : (k ≡ table_bit → m ≡ default_words) → fits (field m k) ≡ true
    holds =
        by_table (λ k. (k ≡ table_bit → m ≡ default_words) → fits (field m k) ≡ true) (λ t. rw (t refl) refl)
        (λ k l ne t. each_number (λ k. fits (field m k) ≡ true) refl refl refl refl refl refl refl k l ne) k l

    both : (allowed (field m k) (field m k).absent ≡ true) × (eqb (length (field m k).absent) (field m k).count ≡ true)
    both = (and-eq-true_iff _ _).0 (holds t)

-- ---- sound form, field by field

pub fields-none : (bytes : List ℕ) (k K : ℕ) → k < K → NoneApplies (checks_to bytes K) → NoneApplies (field_checks bytes k)
unfolding checks_to
fields-none bytes k zero l h = absurd (omega arith)
fields-none bytes k (suc K) l h = go (ℕ_discrete k K) (λ j. fields-none bytes k K j (none_left (checks_to bytes K) (field_checks bytes K) h))
  where
    go : Dec (k ≡ K) → (k < K → NoneApplies (field_checks bytes k)) → NoneApplies (field_checks bytes k)
    go (yes e) ih = rw e (none_right (checks_to bytes K) (field_checks bytes K) h)
    go (no ne) ih = ih (omega arith)

pub field-none : (bytes : List ℕ) → SoundForm bytes → (k : ℕ) → k < field_count → NoneApplies (field_checks bytes k)
unfolding form_checks
field-none bytes s k l = fields-none bytes k field_count l (none_left (checks_to bytes field_count) _ s)

pub none_fitting : (bytes : List ℕ) (k : ℕ) → k < field_count → NoneApplies (field_checks bytes k) → Fitting (field (words_of bytes) k) (values bytes k)
unfolding field_checks part_checks NoneApplies values_at numbers
none_fitting bytes k l none = go (words_of bytes) (present bytes k) none
  where
    go : (m : ℕ) (here : Bool)
        → NoneApplies (cond here (part_checks (field m k) (drop (offset m bytes k) bytes)) (check TableMissing (eqb k table_bit && not (eqb m default_words)) ∷ []))
        → Fitting (field m k) (cond here (numbers (field m k) (drop (offset m bytes k) bytes)) (field m k).absent)
    go m true h = record { allow = not-false _ h.1.0; count = length-tabulate _ _ }
    go m false h = absent_fitting m k l (λ e. eqb-true m default_words (not-false _ (rw (eq-eqb k table_bit e) at h.0)))

pub sound_fitting : (bytes : List ℕ) → SoundForm bytes → (k : ℕ) → k < field_count → Fitting (field (words_of bytes) k) (values bytes k)
sound_fitting bytes s k l = none_fitting bytes k l (field-none bytes s k l)

-- ---- places

pub offset_suc : (m : ℕ) (bytes : List ℕ) (k : ℕ) → offset m bytes (suc k) ≡ offset m bytes k + cond (present bytes k) (extent (field m k)) 0
unfolding offset sum
offset_suc m bytes k = sym (add_assoc 1 _ _)

-- ---- the values

-- m is the words field's value
pub value-words : (bytes : List ℕ) → value bytes 0 ≡ words_of bytes
unfolding words_of values_at offset sum field fields
value-words bytes = refl

-- a field of one number has it between its bounds
pub sound-value : (bytes : List ℕ) → SoundForm bytes → (k : ℕ) → k < field_count → (field (words_of bytes) k).count ≡ 1
    → ((field (words_of bytes) k).least ≤ value bytes k) × (value bytes k ≤ (field (words_of bytes) k).most)
sound-value bytes s k l one =
    let f = sound_fitting bytes s k l in
    allowed_at (field (words_of bytes) k) (values bytes k) f.allow 0 (omega (arith, f.count, one))

-- an entry of the table is below 2^m
sound-entry : (bytes : List ℕ) → SoundForm bytes → (y : ℕ) → y < 2 ^ words_of bytes → entry (card_of bytes) y < 2 ^ words_of bytes
unfolding card_of field fields
sound-entry bytes s y l =
    let f = sound_fitting bytes s table_bit (omega arith) in
    let c : length (values bytes table_bit) ≡ 2 ^ words_of bytes = f.count in
    let in_table : y < length (values bytes table_bit) = omega arith in
    let a = allowed_at (field (words_of bytes) table_bit) (values bytes table_bit) f.allow y in_table in
    let e : entry (card_of bytes) y ≡ get_or (values bytes table_bit) y 0 = get_or-append (values bytes table_bit) _ 0 y in_table in
    omega (arith, e, a.1, pow_pos (words_of bytes))

pub sound_card : (bytes : List ℕ) → SoundForm bytes → WellFormed (card_of bytes)
unfolding card_of field fields
sound_card bytes s =
    record {
      words = (sound-value bytes s 0 (omega arith) refl).0;
      width = subst (λ (m : ℕ). (field m 1).least ≤ value bytes 1) (sym (value-words bytes)) (sound-value bytes s 1 (omega arith) refl).0;
      entries = subst (λ (m : ℕ). (y : ℕ) → y < 2 ^ m → entry (card_of bytes) y < 2 ^ m) (sym (value-words bytes)) (sound-entry bytes s);
    }
