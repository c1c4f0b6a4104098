-- Laws of the fields of a record: their places, how many numbers they hold, and what a whole record is field by field.
use mathlib.Core.Path.{◌≡◌, refl, sym, ap, ◌∙◌}
use mathlib.Core.Bool.{true, cond, and-eq-true_iff}
use mathlib.Core.List.{List}
use Prim.Native.Nat.{ℕ, zero, suc, ◌+◌, ◌-◌, ◌%◌, ◌≤◌, ◌<◌}
use native.Mathlib.Nat.{add_assoc}
use native.Mathlib.Omega.{arith}
use borrow.Author.Tests.{eqb-true, ltb-true, eq-eqb, lt-ltb}
use lib.Dec.{lit<}
use lib.ListN.{length, get_or}
use Rattle.cycle.specs.Notation.{sum, bit}
use Rattle.cycle.proofs.Sum.{sum_split}
use Rattle.cycle.proofs.Digits.{length-tabulate}
use Rattle.card_format.specs.Fields.{numbers, allowed}
use Rattle.card_format.specs.Reading.{present}
use Rattle.card_format.proofs.Bytes.{length-cond}
use Rattle.records.specs.Fields.{record_fields, record_field, record_field_count, bit_count, bit_of, extent_at, start_of, numbers_at, word_count_of, record_numbers}
use Rattle.records.specs.Reading.{is_whole, Whole}

-- what holds of the six
pub each_field : (P : ℕ → Type 0) → P 0 → P 1 → P 2 → P 3 → P 4 → P 5 → (k : ℕ) → k < record_field_count → P k
each_field P p0 p1 p2 p3 p4 p5 zero l = p0
each_field P p0 p1 p2 p3 p4 p5 (suc zero) l = p1
each_field P p0 p1 p2 p3 p4 p5 (suc (suc zero)) l = p2
each_field P p0 p1 p2 p3 p4 p5 (suc (suc (suc zero))) l = p3
each_field P p0 p1 p2 p3 p4 p5 (suc (suc (suc (suc zero)))) l = p4
each_field P p0 p1 p2 p3 p4 p5 (suc (suc (suc (suc (suc zero))))) l = p5
each_field P p0 p1 p2 p3 p4 p5 (suc (suc (suc (suc (suc (suc k)))))) l = absurd (omega arith)

pub bit_below : (k : ℕ) → k < record_field_count → bit_of k < bit_count
bit_below = each_field (λ k. bit_of k < bit_count) (lit< tt) (lit< tt) (lit< tt) (lit< tt) (lit< tt) (lit< tt)

-- ---- places

module _ (c : ℕ) (bytes : List ℕ) where
  pub start_suc : (k : ℕ) → start_of c bytes (suc k) ≡ start_of c bytes k + extent_at c bytes k
  unfolding start_of sum
  start_suc k = sym (add_assoc 1 _ _)

  pub start-before : (k n : ℕ) → k ≤ n → start_of c bytes k ≤ start_of c bytes n
  unfolding start_of
  start-before k n h =
      let e : k + (n - k) ≡ n = omega arith in
      omega (arith, ap (λ (m : ℕ). sum m (extent_at c bytes)) e, sum_split k (n - k) (extent_at c bytes))

  -- how many numbers a field holds
  pub length-numbers_at : (k : ℕ) → length (numbers_at c bytes k) ≡ cond (present bytes (bit_of k)) (record_field c k).count 0
  unfolding numbers_at numbers
  length-numbers_at k =
      length-cond (present bytes (bit_of k)) _ ∙ ap (λ (n : ℕ). cond (present bytes (bit_of k)) n 0) (length-tabulate (record_field c k).count _)

-- ---- a whole record

-- what its test comes to
pub record Form (bytes : List ℕ) : Type 0 where
  pub low : get_or bytes 0 0 % 4 ≡ 3
  pub high : get_or bytes 0 0 < 32
  pub counted : allowed (record_field (word_count_of bytes) 4) (record_numbers bytes 4) ≡ true
  pub ends : length bytes ≡ start_of (word_count_of bytes) bytes record_field_count

pub whole_form : (bytes : List ℕ) → Whole bytes → Form bytes
unfolding is_whole
whole_form bytes w =
    let a = (and-eq-true_iff _ _).0 w in
    let b = (and-eq-true_iff _ _).0 a.0 in
    let d = (and-eq-true_iff _ _).0 b.0 in
    record { low = eqb-true _ _ d.0; high = ltb-true _ _ d.1; counted = b.1; ends = eqb-true _ _ a.1 }

pub form_whole : (bytes : List ℕ) → Form bytes → Whole bytes
unfolding is_whole
form_whole bytes f = rw (f.low, lt-ltb _ _ f.high, f.counted, eq-eqb _ _ f.ends) refl

-- the fields that always stand
pub always : (bytes : List ℕ) → get_or bytes 0 0 % 4 ≡ 3 → (present bytes 0 ≡ true) × (present bytes 1 ≡ true)
always bytes low =
    let map = get_or bytes 0 0 in
    let b0 : bit 0 map ≡ 1 = omega (arith, low) in
    let b1 : bit 1 map ≡ 1 = omega (arith, low) in
    (eq-eqb _ 1 b0, eq-eqb _ 1 b1)

-- field 4 is where it is whatever the count
pub count-number : (bytes : List ℕ) → get_or (record_numbers bytes 4) 0 0 ≡ word_count_of bytes
unfolding word_count_of numbers_at start_of sum record_field record_fields
count-number bytes = refl
