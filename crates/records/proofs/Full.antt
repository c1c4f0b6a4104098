-- A record that lacks no field: its bytes, how many they are, and when its fields fit.
use mathlib.Core.Path.{◌≡◌, refl, sym, ap, ap₂, ◌∙◌}
use mathlib.Core.Bool.{true}
use mathlib.Core.List.{List, [], ◌∷◌, ◌++◌}
use Prim.Native.Nat.{ℕ, ◌+◌, ◌/◌, ◌%◌, ◌^◌, ◌≤◌, ◌<◌}
use native.Mathlib.Nat.{mul_comm}
use native.Mathlib.Omega.{arith}
use borrow.Author.Tests.{le-leb}
use lib.ListN.{length, get_or, replicate, length-append}
use Rattle.cycle.specs.Notation.{sum, tabulate}
use Rattle.cycle.proofs.Every.{every_of}
use Rattle.tsc.specs.Constants.{fewest_words, most_words}
use Rattle.card_format.specs.Fields.{Field, numbers, bytes_of, allowed, same}
use Rattle.card_format.proofs.Fields.{allowed_all}
use Rattle.cycle.proofs.Lists.{take-filled}
use Rattle.card_format.proofs.Bytes.{length-bytes_of}
use Rattle.records.specs.Fields.{word_field, record_fields, record_field, record_field_count, start_of, numbers_at, word_count_of, record_bytes}
use Rattle.records.specs.Reading.{is_whole, Whole, held_state}
use Rattle.records.specs.Writing.{state_of, numbers_of, field_bytes, encoded_to, encoded, Fits, full_record}
use Rattle.records.proofs.Fields.{each_field}

-- a number of a field
one : (f : Field) (x : ℕ) → f.least ≤ x → x ≤ f.most → allowed f (x ∷ []) ≡ true
unfolding allowed
one f x least most = rw (le-leb _ _ least, le-leb _ _ most) refl

module _ (truck shovel ties taken : ℕ) (xs : List ℕ) where
  -- the words held are those given
  pub state_full : state_of (full_record truck shovel ties taken xs) ≡ xs
  state_full = take-filled most_words (length xs) xs refl

  words_full : field_bytes (full_record truck shovel ties taken xs) 5 ≡ bytes_of (word_field (length xs)) xs
  unfolding field_bytes numbers_of record_field record_fields same
  words_full = ap (bytes_of (word_field (length xs))) state_full

  module _ (lt : truck < 65536) (ls : shovel < 65536) (lk : ties < 256) (lw : taken < 256) (lm : length xs < 256) where
    -- the map and the fields but the words
    head_full : encoded_to (full_record truck shovel ties taken xs) 5
        ≡ 31 ∷ truck % 256 ∷ truck / 256 ∷ shovel % 256 ∷ shovel / 256 ∷ ties ∷ taken ∷ length xs ∷ []
    unfolding encoded_to field_bytes numbers_of record_field record_fields same bytes_of tabulate sum
    head_full =
        let t0 : truck / 256 ^ 0 % 256 ≡ truck % 256 = omega arith in
        let t1 : truck / 256 ^ 1 % 256 ≡ truck / 256 = omega arith in
        let s0 : shovel / 256 ^ 0 % 256 ≡ shovel % 256 = omega arith in
        let s1 : shovel / 256 ^ 1 % 256 ≡ shovel / 256 = omega arith in
        let k : ties / 256 ^ 0 % 256 ≡ ties = omega arith in
        let w : taken / 256 ^ 0 % 256 ≡ taken = omega arith in
        let m : length xs / 256 ^ 0 % 256 ≡ length xs = omega arith in
        λ i. 31 ∷ t0 i ∷ t1 i ∷ s0 i ∷ s1 i ∷ k i ∷ w i ∷ m i ∷ []

    pub encoded_full : encoded (full_record truck shovel ties taken xs)
        ≡ (31 ∷ truck % 256 ∷ truck / 256 ∷ shovel % 256 ∷ shovel / 256 ∷ ties ∷ taken ∷ length xs ∷ []) ++ bytes_of (word_field (length xs)) xs
    unfolding encoded_to
    encoded_full = ap₂ (λ (a b : List ℕ). a ++ b) head_full words_full

    pub length_full : length (encoded (full_record truck shovel ties taken xs)) ≡ record_bytes (length xs)
    length_full =
        ap length encoded_full ∙ length-append (31 ∷ truck % 256 ∷ truck / 256 ∷ shovel % 256 ∷ shovel / 256 ∷ ties ∷ taken ∷ length xs ∷ []) (bytes_of (word_field (length xs)) xs)
        ∙ ap (λ (n : ℕ). 8 + n) (length-bytes_of (word_field (length xs)) xs ∙ mul_comm (length xs) 4)

    -- they fit where the state has as many words as a card may ask for, each of 32 bits
    pub full_fits : fewest_words ≤ length xs → length xs ≤ most_words → ((i : ℕ) → i < length xs → get_or xs i 0 < 2 ^ 32)
        → Fits (full_record truck shovel ties taken xs)
    unfolding numbers_of record_field record_fields
    full_fits few many narrow = record {
      room = every_of record_field_count _
          (each_field (λ k. allowed (record_field (length xs) k) (numbers_of (full_record truck shovel ties taken xs) k) ≡ true) (one _ truck (omega arith) (omega arith))
          (one _ shovel (omega arith) (omega arith)) (one _ ties (omega arith) (omega arith)) (one _ taken (omega arith) (omega arith)) (one _ (length xs) few many)
          (rw state_full (allowed_all (word_field (length xs)) xs (λ i l. (omega arith, omega (arith, narrow i l))))));
      state = ap held_state (sym state_full);
    }

-- the longest record: eight words
longest : List ℕ
longest = 31 ∷ 0 ∷ 0 ∷ 0 ∷ 0 ∷ 0 ∷ 0 ∷ 8 ∷ replicate 32 0

pub longest_record : (bytes : List ℕ) × Whole bytes × (length bytes ≡ 40)
unfolding longest is_whole word_count_of numbers_at start_of record_field record_fields numbers allowed tabulate sum
longest_record = (longest, refl, refl)
