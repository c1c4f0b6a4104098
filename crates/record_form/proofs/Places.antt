-- Where the fields of a record stand, what its test comes to, and its fields by their bytes.
use mathlib.Core.Path.{◌≡◌, refl, sym, ap, ap₂, ◌∙◌}
use mathlib.Core.Logic.{◌≢◌}
use mathlib.Core.Bool.{Bool, true, false, cond, ◌&&◌}
use mathlib.Core.List.{List, [], ◌∷◌}
use Prim.Native.Nat.{ℕ, zero, suc, ◌+◌, ◌*◌, ◌%◌, ◌≤◌, ◌<◌}
use native.Mathlib.Nat.{add-zero, zero-mul, one-mul, le_of_eq}
use native.Mathlib.Omega.{arith}
use borrow.Author.Tests.{eq-eqb, ne_eqb, lt-ltb, le-ltb, le-leb, lt-leb}
use lib.Dec.{eqb, leb, lit<}
use lib.ListN.{length, get_or, drop, get_or-eq_default}
use lib.Seq.{get_or-drop}
use Rattle.cycle.specs.Notation.{sum, tabulate, bit}
use Rattle.cycle.proofs.Bits.{bit_lt}
use Rattle.tsc.specs.Constants.{fewest_words, most_words}
use Rattle.card_format.specs.Fields.{Field, numbers, allowed}
use Rattle.card_format.specs.Reading.{present}
use Rattle.card_format.proofs.Fields.{low_first, numbers-one, allowed_at}
use Rattle.records.specs.Fields.{word_field, record_fields, record_field, record_field_count, bit_of, start_of, numbers_at, word_count_of, record_numbers}
use Rattle.records.specs.Reading.{is_whole, Whole}
use Rattle.records.proofs.Fields.{start_suc, Form, whole_form, always}

-- ---- numbers by their bytes

numbers-byte : (f : Field) (part : List ℕ) → f.count ≡ 1 → f.size ≡ 1 → numbers f part ≡ get_or part 0 0 ∷ []
unfolding sum
numbers-byte f part one s =
    let e : low_first 1 part ≡ get_or part 0 0 = omega arith in
    numbers-one f part one ∙ ap (λ (s : ℕ). low_first s part ∷ []) s ∙ ap (λ (x : ℕ). x ∷ []) e

numbers-half : (f : Field) (part : List ℕ) → f.count ≡ 1 → f.size ≡ 2 → numbers f part ≡ (get_or part 0 0 + get_or part 1 0 * 256) ∷ []
unfolding sum
numbers-half f part one s =
    let e : low_first 2 part ≡ get_or part 0 0 + get_or part 1 0 * 256 = omega arith in
    numbers-one f part one ∙ ap (λ (s : ℕ). low_first s part ∷ []) s ∙ ap (λ (x : ℕ). x ∷ []) e

-- a bit times a number
flagged : (d x : ℕ) → d < 2 → cond (eqb d 1) x 0 ≡ d * x
flagged zero x l = sym (zero-mul x)
flagged (suc zero) x l = sym (one-mul x)
flagged (suc (suc d)) x l = absurd (omega arith)

module _ (bytes : List ℕ) where
  abbrev map : ℕ
  map = get_or bytes 0 0

  abbrev pub taken_at : ℕ
  taken_at = 5 + bit 2 map

  abbrev pub state_at : ℕ
  state_at = 5 + bit 2 map + bit 3 map

  flag_at : (k x : ℕ) → cond (present bytes k) x 0 ≡ bit k map * x
  flag_at k x = flagged (bit k map) x (bit_lt k map)

  module _ (low : map % 4 ≡ 3) (c : ℕ) where
    start-shovel : start_of c bytes 1 ≡ 3
    unfolding start_of sum record_field record_fields
    start-shovel = rw (always bytes low).0 refl

    start-ties : start_of c bytes 2 ≡ 5
    unfolding start_of sum record_field record_fields
    start-ties = rw ((always bytes low).0, (always bytes low).1) refl

    start-taken : start_of c bytes 3 ≡ taken_at
    unfolding start_of sum record_field record_fields
    start-taken = rw ((always bytes low).0, (always bytes low).1) (omega (arith, flag_at 2 1))

    start-state : start_of c bytes 4 ≡ state_at
    unfolding start_of sum record_field record_fields
    start-state = rw ((always bytes low).0, (always bytes low).1) (omega (arith, flag_at 2 1, flag_at 3 1))

    -- the end, without a state and with one
    end_none : bit 4 map ≡ 0 → start_of c bytes record_field_count ≡ state_at
    unfolding start_of sum record_field record_fields
    end_none z = rw ((always bytes low).0, (always bytes low).1, ap (λ (d : ℕ). eqb d 1) z) (omega (arith, flag_at 2 1, flag_at 3 1))

    start-words : bit 4 map ≡ 1 → start_of c bytes 5 ≡ state_at + 1
    unfolding record_field record_fields
    start-words o = start_suc c bytes 4 ∙ ap₂ (λ (x y : ℕ). x + y) start-state (ap (λ (d : ℕ). cond (eqb d 1) 1 0) o)

    end_state_lem : bit 4 map ≡ 1 → start_of c bytes record_field_count ≡ state_at + 1 + 4 * c
    unfolding start_of sum record_field record_fields
    end_state_lem o = rw ((always bytes low).0, (always bytes low).1, ap (λ (d : ℕ). eqb d 1) o) (omega (arith, flag_at 2 1, flag_at 3 1))

  -- ---- fields by their bytes: of one byte, of two, and the state's words

  byte-field : (c k at : ℕ) → (record_field c k).count ≡ 1 → (record_field c k).size ≡ 1 → start_of c bytes k ≡ at
      → numbers_at c bytes k ≡ cond (present bytes (bit_of k)) (get_or bytes at 0 ∷ []) []
  unfolding numbers_at
  byte-field c k at one s e =
      ap (λ (xs : List ℕ). cond (present bytes (bit_of k)) xs [])
      (numbers-byte (record_field c k) _ one s ∙ ap (λ (x : ℕ). x ∷ []) (rw e (get_or-drop at bytes 0 0 ∙ ap (λ (i : ℕ). get_or bytes i 0) (add-zero at))))

  half-field : (c k at : ℕ) → (record_field c k).count ≡ 1 → (record_field c k).size ≡ 2 → start_of c bytes k ≡ at → present bytes (bit_of k) ≡ true
      → numbers_at c bytes k ≡ (get_or bytes at 0 + get_or bytes (at + 1) 0 * 256) ∷ []
  unfolding numbers_at
  half-field c k at one s e here =
      rw (here, e)
      (numbers-half (record_field c k) _ one s
      ∙ ap₂ (λ (x y : ℕ). (x + y * 256) ∷ []) (get_or-drop at bytes 0 0 ∙ ap (λ (i : ℕ). get_or bytes i 0) (add-zero at)) (get_or-drop at bytes 1 0))

  module _ (low : map % 4 ≡ 3) where
    pub truck-bytes : get_or (record_numbers bytes 0) 0 0 ≡ get_or bytes 1 0 + get_or bytes 2 0 * 256
    unfolding record_field record_fields start_of sum
    truck-bytes = ap (λ (xs : List ℕ). get_or xs 0 0) (half-field (word_count_of bytes) 0 1 refl refl refl (always bytes low).0)

    pub shovel-bytes : get_or (record_numbers bytes 1) 0 0 ≡ get_or bytes 3 0 + get_or bytes 4 0 * 256
    unfolding record_field record_fields
    shovel-bytes = ap (λ (xs : List ℕ). get_or xs 0 0) (half-field (word_count_of bytes) 1 3 refl refl (start-shovel low _) (always bytes low).1)

    pub ties-byte : record_numbers bytes 2 ≡ cond (present bytes 2) (get_or bytes 5 0 ∷ []) []
    unfolding record_field record_fields
    ties-byte = byte-field (word_count_of bytes) 2 5 refl refl (start-ties low _)

    pub taken-byte : record_numbers bytes 3 ≡ cond (present bytes 3) (get_or bytes taken_at 0 ∷ []) []
    unfolding record_field record_fields
    taken-byte = byte-field (word_count_of bytes) 3 taken_at refl refl (start-taken low _)

    count-byte : (c : ℕ) → numbers_at c bytes 4 ≡ cond (present bytes 4) (get_or bytes state_at 0 ∷ []) []
    unfolding record_field record_fields
    count-byte c = byte-field c 4 state_at refl refl (start-state low c)

    pub words-byte : record_numbers bytes 4 ≡ cond (present bytes 4) (get_or bytes state_at 0 ∷ []) []
    words-byte = count-byte (word_count_of bytes)

    word_count : bit 4 map ≡ 1 → word_count_of bytes ≡ get_or bytes state_at 0
    unfolding word_count_of
    word_count o =
        ap (λ (xs : List ℕ). get_or xs 0 0) (count-byte 0)
        ∙ ap (λ (b : Bool). get_or (cond b (get_or bytes state_at 0 ∷ []) []) 0 0) (ap (λ (d : ℕ). eqb d 1) o)

  -- ---- the test

  pub not_low : map % 4 ≢ 3 → is_whole bytes ≡ false
  unfolding is_whole
  not_low ne = rw (ne_eqb _ 3 ne) refl

  pub not_high : 31 < map → is_whole bytes ≡ false
  unfolding is_whole
  not_high h = rw (le-ltb map 32 h) (go (eqb (map % 4) 3) _ _)
    where
      go : (a b d : Bool) → (((a && false) && b) && d) ≡ false
      go true b d = refl
      go false b d = refl

  module _ (low : map % 4 ≡ 3) (high : map < 32) where
    pub whole_none : bit 4 map ≡ 0 → is_whole bytes ≡ eqb (length bytes) state_at
    unfolding is_whole numbers_at allowed
    whole_none z = rw (eq-eqb _ 3 low, lt-ltb map 32 high, end_none low (word_count_of bytes) z, ap (λ (d : ℕ). eqb d 1) z) refl

    -- with a state it is as long as its count says, where that is allowed
    module _ (o : bit 4 map ≡ 1) where
      abbrev c : ℕ
      c = get_or bytes state_at 0

      whole_state : is_whole bytes ≡ (leb fewest_words c && leb c most_words && true && eqb (length bytes) (state_at + 1 + 4 * c))
      unfolding is_whole allowed record_field record_fields
      whole_state = rw (eq-eqb _ 3 low, lt-ltb map 32 high, end_state_lem low (word_count_of bytes) o, words-byte low, ap (λ (d : ℕ). eqb d 1) o, word_count low o) refl

      pub too_few : c < fewest_words → is_whole bytes ≡ false
      too_few l = whole_state ∙ rw (lt-leb fewest_words c l) refl

      pub too_many : most_words < c → is_whole bytes ≡ false
      too_many l = whole_state ∙ rw (lt-leb c most_words l) (go (leb fewest_words c))
        where
          go : (a : Bool) → (((a && false) && true) && eqb (length bytes) (state_at + 1 + 4 * c)) ≡ false
          go true = refl
          go false = refl

      pub whole_counted : fewest_words ≤ c → c ≤ most_words → is_whole bytes ≡ eqb (length bytes) (state_at + 1 + 4 * c)
      whole_counted l h = whole_state ∙ rw (le-leb fewest_words c l, le-leb c most_words h) refl

  -- ---- a whole record

  pub record Known : Type 0 where
    pub low : map % 4 ≡ 3
    pub long : state_at ≤ length bytes
    pub few : get_or bytes state_at 0 ≤ most_words
    pub ends : bit 4 map ≡ 1 → state_at + 1 + 4 * get_or bytes state_at 0 ≡ length bytes
    pub none : bit 4 map ≡ 0 → state_at ≡ length bytes

  pub known : Whole bytes → Known
  unfolding allowed record_field record_fields
  known w =
      go (whole_form bytes w) (bit 4 map) refl (bit_lt 4 map)
    where
      go : Form bytes → (d : ℕ) → bit 4 map ≡ d → d < 2 → Known
      go f zero z l =
          let e = f.ends ∙ end_none f.low (word_count_of bytes) z in
          record {
            low = f.low;
            long = le_of_eq (sym e);
            few = rw (get_or-eq_default bytes 0 (le_of_eq e)) (omega arith);
            ends = λ o. absurd (omega arith);
            none = λ z. sym e;
          }
      go f (suc zero) o l =
          let e = f.ends ∙ end_state_lem f.low (word_count_of bytes) o ∙ ap (λ (c : ℕ). state_at + 1 + 4 * c) (word_count f.low o) in
          record {
            low = f.low;
            long = omega arith;
            few = (allowed_at (record_field (word_count_of bytes) 4) (get_or bytes state_at 0 ∷ []) (rw (words-byte f.low, ap (λ (d : ℕ). eqb d 1) o) at f.counted) 0 (lit< tt)).1;
            ends = λ o. sym e;
            none = λ z. absurd (omega arith);
          }
      go f (suc (suc d)) e l = absurd (omega arith)

  -- the words behind the count; none where the state lacks
  pub words-bytes : Known → record_numbers bytes 5 ≡ numbers (word_field (get_or bytes state_at 0)) (drop (state_at + 1) bytes)
  unfolding numbers_at numbers tabulate record_field record_fields
  words-bytes k = go (bit 4 map) refl (bit_lt 4 map)
    where
      go : (d : ℕ) → bit 4 map ≡ d → d < 2
          → cond (eqb d 1) (numbers (record_field (word_count_of bytes) 5) (drop (start_of (word_count_of bytes) bytes 5) bytes)) []
          ≡ numbers (word_field (get_or bytes state_at 0)) (drop (state_at + 1) bytes)
      go zero z l = rw (get_or-eq_default bytes 0 (le_of_eq (sym (k.none z)))) refl
      go (suc zero) o l =
          ap₂ (λ (c at : ℕ). numbers (word_field c) (drop at bytes)) (word_count k.low o) (start-words k.low (word_count_of bytes) o)
      go (suc (suc d)) e l = absurd (omega arith)
