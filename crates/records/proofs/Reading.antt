-- A whole record written again is the same bytes, so that no two have the same fields.
use mathlib.Core.Path.{◌≡◌, refl, sym, ap, ap₂, ◌∙◌}
use mathlib.Core.Logic.{◌↔◌}
use mathlib.Core.Bool.{Bool, true, false, cond, not, true≢false}
use mathlib.Core.List.{List, [], ◌∷◌, ◌++◌}
use Prim.Native.Nat.{ℕ, zero, suc, ◌+◌, ◌^◌, ◌≤◌, ◌<◌}
use native.Mathlib.Nat.{le_of_eq, le_refl}
use native.Mathlib.Omega.{arith}
use lib.ListN.{length, get_or, take, drop, length-drop}
use lib.Seq.{get_or-drop, take_all, take-suc, take-add}
use Rattle.cycle.specs.Notation.{sum, zero_filled}
use Rattle.cycle.proofs.Sum.{sum_ext, sum_mono}
use Rattle.tsc.specs.Constants.{most_words}
use Rattle.refusals.specs.Refusals.{first_of}
use Rattle.card_format.specs.Fields.{Bytes, extent, bytes_of, allowed, same}
use Rattle.card_format.proofs.Fields.{allowed_at}
use Rattle.card_format.specs.Reading.{present}
use Rattle.cycle.proofs.Lists.{take-filled}
use Rattle.card_format.proofs.Bytes.{cond_le, length-one, byte_lt, bytes_of-numbers, map-bit}
use Rattle.std.specs.Prelude.{Option, None, Some, Ok, Err}
use Rattle.records.specs.declared.Record.{Record}
use Rattle.records.specs.Fields.{record_fields, record_field, record_field_count, bit_count, bit_of, extent_at, start_of, numbers_at, word_count_of, record_numbers, record_bytes}
use Rattle.records.specs.Reading.{is_whole, Whole, optional, record_of, reading_record}
use Rattle.records.specs.Writing.{given, word_count, numbers_of, is_given, field_bytes, encoded_to, encoded}
use Rattle.records.proofs.Fields.{each_field, bit_below, start_suc, start-before, length-numbers_at, Form, whole_form, always, count-number}

-- a number that may lack
given-optional : (xs : List ℕ) → length xs ≤ 1 → given (optional xs) ≡ xs
given-optional [] h = refl
given-optional (x ∷ []) h = refl
given-optional (x ∷ y ∷ xs) h = absurd (omega arith)

-- numbers that stand, or none
stands : (b : Bool) (xs : List ℕ) → length xs ≡ cond b 1 0 → not (same xs []) ≡ b
unfolding same
stands true [] e = absurd (omega arith)
stands true (y ∷ ys) e = refl
stands false [] e = refl
stands false (y ∷ ys) e = absurd (omega arith)

module _ (bytes : List ℕ) (f : Form bytes) where
  abbrev c : ℕ
  c = word_count_of bytes

  -- a field of one number that always stands; one that may lack; the state
  single : (k : ℕ) → (record_field c k).count ≡ 1 → present bytes (bit_of k) ≡ true → get_or (record_numbers bytes k) 0 0 ∷ [] ≡ record_numbers bytes k
  single k one here = length-one _ (length-numbers_at c bytes k ∙ ap₂ (λ (b : Bool) (n : ℕ). cond b n 0) here one)

  maybe : (k : ℕ) → (record_field c k).count ≡ 1 → given (optional (record_numbers bytes k)) ≡ record_numbers bytes k
  maybe k one = given-optional _ (rw (length-numbers_at c bytes k, one) (cond_le (present bytes (bit_of k)) 1))

  words-given : given (optional (record_numbers bytes 4)) ≡ record_numbers bytes 4
  unfolding record_field record_fields
  words-given = maybe 4 refl

  count-given : word_count (record_of bytes) ≡ c
  unfolding record_of
  count-given = ap (λ (xs : List ℕ). get_or xs 0 0) words-given ∙ count-number bytes

  -- no words where the state lacks
  length-words : length (record_numbers bytes 5) ≡ c
  unfolding record_field record_fields word_count_of numbers_at
  length-words = length-numbers_at c bytes 5 ∙ go (present bytes 4) refl
    where
      go : (b : Bool) → present bytes 4 ≡ b → cond b c 0 ≡ c
      go true e = refl
      go false e = rw e refl

  numbers-same : (k : ℕ) → k < record_field_count → numbers_of (record_of bytes) k ≡ record_numbers bytes k
  unfolding numbers_of record_of record_field record_fields
  numbers-same =
      each_field (λ k. numbers_of (record_of bytes) k ≡ record_numbers bytes k) (single 0 refl (always bytes f.low).0) (single 1 refl (always bytes f.low).1) (maybe 2 refl)
      (maybe 3 refl) words-given (ap (λ (n : ℕ). take n (zero_filled most_words (record_numbers bytes 5))) count-given ∙ take-filled most_words c (record_numbers bytes 5) length-words)

  -- a field is given where its bit stands
  given-same : (b : ℕ) → b < bit_count → is_given (record_of bytes) b ≡ present bytes b
  unfolding record_field record_fields
  given-same b l =
      ap (λ (xs : List ℕ). not (same xs [])) (numbers-same b (omega arith))
      ∙ each_field (λ b. b < bit_count → not (same (record_numbers bytes b) []) ≡ present bytes b) (λ l. one 0 refl) (λ l. one 1 refl) (λ l. one 2 refl)
      (λ l. one 3 refl) (λ l. one 4 refl) (λ l. absurd (omega arith)) b (omega arith) l
    where
      one : (k : ℕ) → (record_field c k).count ≡ 1 → not (same (record_numbers bytes k) []) ≡ present bytes (bit_of k)
      one k e = stands (present bytes (bit_of k)) _ (length-numbers_at c bytes k ∙ ap (λ (n : ℕ). cond (present bytes (bit_of k)) n 0) e)

  bytes_same : Bytes bytes → (k : ℕ) → k < record_field_count
      → field_bytes (record_of bytes) k ≡ take (extent_at c bytes k) (drop (start_of c bytes k) bytes)
  unfolding field_bytes numbers_at
  bytes_same b k l = rw (given-same (bit_of k) (bit_below k l), numbers-same k l, count-given) (go (present bytes (bit_of k)) refl)
    where
      go : (here : Bool) → present bytes (bit_of k) ≡ here
          → cond here (bytes_of (record_field c k) (record_numbers bytes k)) [] ≡ take (cond here (extent (record_field c k)) 0) (drop (start_of c bytes k) bytes)
      go true e =
          let room : start_of c bytes k + extent (record_field c k) ≤ length bytes =
          omega (
            arith,
            f.ends,
            start-before c bytes (suc k) record_field_count l,
            start_suc c bytes k,
            ap (λ (h : Bool). cond h (extent (record_field c k)) 0) e,
          ) in
          rw e (bytes_of-numbers (record_field c k) _ (λ i. rw get_or-drop (byte_lt bytes b _)) (omega (arith, length-drop (start_of c bytes k) bytes)))
      go false e = refl

  encoded_to-same : Bytes bytes → (k : ℕ) → k ≤ record_field_count → encoded_to (record_of bytes) k ≡ take (start_of c bytes k) bytes
  unfolding encoded_to start_of sum
  encoded_to-same b zero l =
      let some : 0 < length bytes = omega (arith, f.ends) in
      ap (λ (x : ℕ). x ∷ [])
      (sum_ext bit_count _ _ (λ k lk. ap (λ (t : Bool). cond t (2 ^ k) 0) (given-same k lk)) ∙ map-bit bit_count (get_or bytes 0 0) f.high)
      ∙ sym (take-suc bytes 0 0 some)
  encoded_to-same b (suc k) l =
      ap₂ (λ (x y : List ℕ). x ++ y) (encoded_to-same b k (omega arith)) (bytes_same b k l)
      ∙ sym (ap (λ (n : ℕ). take n bytes) (start_suc c bytes k) ∙ take-add (start_of c bytes k) _ bytes)

-- a whole record, written, is the same bytes
pub whole_encoded : (bytes : List ℕ) → Bytes bytes → Whole bytes → encoded (record_of bytes) ≡ bytes
whole_encoded bytes b w =
    let f = whole_form bytes w in
    encoded_to-same bytes f b record_field_count (le_refl _) ∙ take_all (start_of (word_count_of bytes) bytes record_field_count) bytes (le_of_eq f.ends)

-- two whole records with the same fields, given and lacking, are the same bytes
pub whole_unique : (a b : List ℕ) → Bytes a → Bytes b → Whole a → Whole b → record_of a ≡ record_of b → a ≡ b
whole_unique a b ha hb wa wb e = sym (whole_encoded a ha wa) ∙ ap encoded e ∙ whole_encoded b hb wb

-- what the desk is answered
pub reading_torn : (bytes : List ℕ) → is_whole bytes ≡ false → reading_record bytes ≡ Err 20
unfolding reading_record first_of
reading_torn bytes t = rw t refl

pub reading_whole : (bytes : List ℕ) → Whole bytes → reading_record bytes ≡ Ok (record_of bytes)
unfolding reading_record first_of
reading_whole bytes w = rw w refl

-- ---- no whole record is longer than a full one of most words

count-few : (bytes : List ℕ) → Form bytes → word_count_of bytes ≤ most_words
unfolding record_field record_fields
count-few bytes f = rw (sym (count-number bytes)) (go (record_numbers bytes 4) f.counted)
  where
    go : (xs : List ℕ) → allowed (record_field (word_count_of bytes) 4) xs ≡ true → get_or xs 0 0 ≤ most_words
    go [] h = omega arith
    go (x ∷ xs) h = (allowed_at (record_field (word_count_of bytes) 4) (x ∷ xs) h 0 (omega arith)).1

pub whole_short : (bytes : List ℕ) → Whole bytes → length bytes ≤ record_bytes most_words
unfolding start_of sum record_field record_fields
whole_short bytes w =
    let f = whole_form bytes w in
    let c = word_count_of bytes in
    let longest = sum_mono record_field_count (extent_at c bytes) (λ j. extent (record_field c j)) (λ j l. cond_le (present bytes (bit_of j)) (extent (record_field c j))) in
    omega (arith, f.ends, longest, count-few bytes f)

-- ---- what lacks is absent, and nothing else is

abbrev is_value : Option ℕ → Bool
is_value None = false
is_value (Some x) = true

absent-exactly : (b : Bool) (xs : List ℕ) → length xs ≡ cond b 1 0 → (optional xs ≡ None) ↔ (b ≡ false)
absent-exactly true [] e = absurd (omega arith)
absent-exactly true (x ∷ xs) e = (λ q. absurd (true≢false (ap is_value q)), λ q. absurd (true≢false q))
absent-exactly false [] e = (λ q. refl, λ q. refl)
absent-exactly false (x ∷ xs) e = absurd (omega arith)

pub read_absent : (bytes : List ℕ) → Whole bytes → (r : Record) × (reading_record bytes ≡ Ok r)
    × ((r.ties ≡ None) ↔ (present bytes 2 ≡ false)) × ((r.taken ≡ None) ↔ (present bytes 3 ≡ false)) × ((r.words ≡ None) ↔ (present bytes 4 ≡ false))
unfolding record_of record_field record_fields
read_absent bytes w =
    let c = word_count_of bytes in (
      record_of bytes,
      reading_whole bytes w,
      absent-exactly (present bytes 2) (record_numbers bytes 2) (length-numbers_at c bytes 2),
      absent-exactly (present bytes 3) (record_numbers bytes 3) (length-numbers_at c bytes 3),
      absent-exactly (present bytes 4) (record_numbers bytes 4) (length-numbers_at c bytes 4),
    )
