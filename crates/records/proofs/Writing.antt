-- The bytes of a record whose fields fit are a whole record and read back as the same fields.
use mathlib.Core.Path.{◌≡◌, refl, sym, ap, ap₂, ◌∙◌}
use mathlib.Core.Bool.{Bool, true, false, cond, not, true≢false}
use mathlib.Core.List.{List, [], ◌∷◌, ◌++◌, append_assoc, append-nil}
use Prim.Native.Nat.{ℕ, zero, suc, ◌+◌, ◌-◌, ◌%◌, ◌^◌, ◌≤◌, ◌<◌}
use native.Mathlib.Nat.{add_assoc, le_refl, lt_of_le_of_lt}
use native.Mathlib.Omega.{arith}
use borrow.Author.Tests.{not-false}
use lib.Dec.{lit<}
use lib.ListN.{length, get_or, take, drop, length-append, length-take, length-replicate}
use lib.Seq.{length-take-le, drop_at}
use Rattle.cycle.specs.Notation.{sum}
use Rattle.cycle.proofs.Sum.{sum_ext}
use Rattle.cycle.proofs.Every.{every_at}
use Rattle.tsc.specs.declared.State.{State}
use Rattle.tsc.specs.Constants.{most_words}
use Rattle.card_format.specs.Fields.{Field, extent, numbers, bytes_of, allowed, same}
use Rattle.card_format.specs.Reading.{present}
use Rattle.card_format.proofs.Fields.{allowed_at, same_true}
use Rattle.card_format.proofs.Bytes.{length-cond, length-bytes_of, numbers-bytes_of, flag, map_lt, bit-map}
use Rattle.std.specs.Prelude.{Option, None, Some}
use Rattle.records.specs.declared.Record.{Record}
use Rattle.records.specs.Fields.{record_fields, record_field, record_field_count, bit_count, bit_of, start_of, numbers_at, word_count_of, record_numbers}
use Rattle.records.specs.Reading.{Whole, optional, held_state, record_of}
use Rattle.records.specs.Writing.{given, word_count, state_of, numbers_of, is_given, field_bytes, encoded_to, encoded, Fits}
use Rattle.records.proofs.Fields.{each_field, bit_below, Form, form_whole}

optional-given : (o : Option ℕ) → optional (given o) ≡ o
optional-given None = refl
optional-given (Some x) = refl

module _ (r : Record) where
  -- ---- how many bytes they are

  length-field_bytes : (k : ℕ) → length (field_bytes r k) ≡ cond (is_given r (bit_of k)) (extent (record_field (word_count r) k)) 0
  unfolding field_bytes
  length-field_bytes k =
      length-cond (is_given r (bit_of k)) _ ∙ ap (λ (n : ℕ). cond (is_given r (bit_of k)) n 0) (length-bytes_of (record_field (word_count r) k) _)

  length-encoded_to : (k : ℕ) → length (encoded_to r k) ≡ 1 + sum k (λ j. cond (is_given r (bit_of j)) (extent (record_field (word_count r) j)) 0)
  unfolding encoded_to sum
  length-encoded_to zero = refl
  length-encoded_to (suc k) =
      length-append (encoded_to r k) (field_bytes r k) ∙ ap₂ (λ (x y : ℕ). x + y) (length-encoded_to k) (length-field_bytes k) ∙ add_assoc 1 _ _

  -- ---- where they stand

  abbrev bytes : List ℕ
  bytes = encoded r

  split : (n k : ℕ) → n + suc k ≡ record_field_count → (rest : List ℕ) × (bytes ≡ encoded_to r k ++ (field_bytes r k ++ rest))
  unfolding encoded_to
  split zero k e =
      let last : record_field_count ≡ suc k = omega arith in
      ([], ap (encoded_to r) last ∙ ap (λ (x : List ℕ). encoded_to r k ++ x) (sym (append-nil (field_bytes r k))))
  split (suc n) k e =
      let p = split n (suc k) (omega arith) in
      (field_bytes r (suc k) ++ p.0, p.1 ∙ append_assoc (encoded_to r k) (field_bytes r k) _)

  present-given : (b : ℕ) → b < bit_count → present bytes b ≡ is_given r b
  unfolding encoded_to
  present-given = bit-map bit_count (is_given r)

  start-encoded : (k : ℕ) → k ≤ record_field_count → start_of (word_count r) bytes k ≡ length (encoded_to r k)
  unfolding start_of
  start-encoded k l =
      ap (λ (n : ℕ). 1 + n) (sum_ext k _ _ (λ j lj. rw (present-given (bit_of j) (bit_below j (omega arith))) refl)) ∙ sym (length-encoded_to k)

  module _ (fits : Fits r) where
    allow : (k : ℕ) → k < record_field_count → allowed (record_field (word_count r) k) (numbers_of r k) ≡ true
    allow k l = every_at record_field_count _ fits.room k l

    -- the state has no more words than an array
    few : word_count r ≤ most_words
    unfolding numbers_of record_field record_fields
    few = go r.words (allow 4 (lit< tt))
      where
        go : (o : Option ℕ) → allowed (record_field (word_count r) 4) (given o) ≡ true → get_or (given o) 0 0 ≤ most_words
        go None h = omega arith
        go (Some x) h = (allowed_at (record_field (word_count r) 4) (x ∷ []) h 0 (omega arith)).1

    length-state : length (state_of r) ≡ word_count r
    length-state =
        let xs = r.state.words in
        let c = word_count r in
        let e : length xs ≡ length (take c xs) + (most_words - length (take c xs)) =
        ap (λ (s : State). length s.words) fits.state ∙ length-append (take c xs) _ ∙ ap (λ (n : ℕ). length (take c xs) + n) (length-replicate _ 0) in
        length-take-le c xs (omega (arith, few, length-take c xs))

    -- a given field has as many numbers as it should
    counted : (k : ℕ) → k < record_field_count → is_given r (bit_of k) ≡ true → length (numbers_of r k) ≡ (record_field (word_count r) k).count
    unfolding numbers_of record_field record_fields same
    counted =
        each_field (λ k. is_given r (bit_of k) ≡ true → length (numbers_of r k) ≡ (record_field (word_count r) k).count) (λ t. refl) (λ t. refl) (one r.ties)
        (one r.taken) (one r.words) (λ t. length-state)
      where
        one : (o : Option ℕ) → not (same (given o) []) ≡ true → length (given o) ≡ 1
        one None t = absurd (true≢false (sym t))
        one (Some x) t = refl

    -- one that lacks has none
    lacking : (k : ℕ) → k < record_field_count → is_given r (bit_of k) ≡ false → numbers_of r k ≡ []
    unfolding numbers_of
    lacking =
        each_field (λ k. is_given r (bit_of k) ≡ false → numbers_of r k ≡ []) none none none none none
        (λ t. ap (λ (xs : List ℕ). take (get_or xs 0 0) r.state.words) (none t))
      where
        none : {xs : List ℕ} → not (same xs []) ≡ false → xs ≡ []
        none {xs} t = same_true xs [] (not-false _ t)

    -- each number fits its bytes
    sized : (k : ℕ) → k < record_field_count → let f = record_field (word_count r) k in f.most < 256 ^ f.size
    unfolding record_field record_fields
    sized =
        each_field (λ k. let f = record_field (word_count r) k in f.most < 256 ^ f.size) (lit< tt) (lit< tt) (lit< tt) (lit< tt) (lit< tt) (lit< tt)

    -- field k reads back
    module _ (k : ℕ) (l : k < record_field_count) where
      abbrev f : Field
      f = record_field (word_count r) k

      abbrev part : List ℕ
      part = drop (start_of (word_count r) bytes k) bytes

      part_begins : (rest : List ℕ) × (part ≡ field_bytes r k ++ rest)
      part_begins =
          let p = split (record_field_count - suc k) k (omega arith) in
          let at = start_of (word_count r) bytes k in
          (p.0, ap (drop at) p.1 ∙ drop_at (encoded_to r k) _ at (sym (start-encoded k (omega arith))))

      read_back : numbers_at (word_count r) bytes k ≡ numbers_of r k
      unfolding numbers_at field_bytes
      read_back = rw (present-given (bit_of k) (bit_below k l)) (go (is_given r (bit_of k)) refl part_begins.0 part_begins.1)
        where
          go : (here : Bool) → is_given r (bit_of k) ≡ here → (rest : List ℕ) → part ≡ cond here (bytes_of f (numbers_of r k)) [] ++ rest
              → cond here (numbers f part) [] ≡ numbers_of r k
          go true e rest q =
              ap (numbers f) q
              ∙ numbers-bytes_of f (numbers_of r k) rest (counted k l e) (λ i li. lt_of_le_of_lt (allowed_at f (numbers_of r k) (allow k l) i li).1 (sized k l))
          go false e rest q = sym (lacking k l e)

    words_back : word_count_of bytes ≡ word_count r
    unfolding word_count_of numbers_at start_of sum record_field record_fields numbers_of
    words_back = ap (λ (xs : List ℕ). get_or xs 0 0) (read_back 4 (lit< tt))

    numbers_back : (k : ℕ) → k < record_field_count → record_numbers bytes k ≡ numbers_of r k
    numbers_back k l = rw words_back (read_back k l)

    -- bits 0 and 1 stand
    low : get_or bytes 0 0 % 4 ≡ 3
    unfolding encoded_to sum numbers_of same
    low =
        omega (arith, (flag (is_given r 2) 4).0, (flag (is_given r 3) 8).0, (flag (is_given r 4) 16).0)

    form : Form bytes
    unfolding encoded_to
    form = record {
      low = low;
      high = high;
      counted = rw (numbers_back 4 (lit< tt), words_back) (allow 4 (lit< tt));
      ends = rw words_back (sym (start-encoded record_field_count (le_refl _)));
    }
      where
        high : get_or bytes 0 0 < 32
        high = map_lt bit_count (is_given r)

    pub encoded_whole : Whole (encoded r)
    encoded_whole = form_whole bytes form

    pub encoded_back : record_of (encoded r) ≡ r
    unfolding record_of numbers_of
    encoded_back i = record {
      truck = get_or (numbers_back 0 (lit< tt) i) 0 0;
      shovel = get_or (numbers_back 1 (lit< tt) i) 0 0;
      ties = (ap optional (numbers_back 2 (lit< tt)) ∙ optional-given r.ties) i;
      taken = (ap optional (numbers_back 3 (lit< tt)) ∙ optional-given r.taken) i;
      words = (ap optional (numbers_back 4 (lit< tt)) ∙ optional-given r.words) i;
      state = (ap held_state (numbers_back 5 (lit< tt)) ∙ sym fits.state) i;
    }
