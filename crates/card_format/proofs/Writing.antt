-- For the writer: the numbers of a card, its range, the fields' bytes and how many they are.
use mathlib.Core.Path.{◌≡◌, refl, ap, ap₂, ◌∙◌}
use mathlib.Core.Logic.{◌≢◌}
use mathlib.Core.Bool.{Bool, true, false, cond, ◌&&◌, and-eq-true_iff}
use mathlib.Core.List.{List, [], ◌∷◌, ◌++◌}
use Prim.Native.Nat.{ℕ, zero, suc, ◌+◌, ◌/◌, ◌%◌, ◌^◌, ◌≤◌, ◌<◌}
use native.Mathlib.Decide.{le_ind}
use native.Mathlib.Nat.{add_assoc, le_refl, le_of_eq, mul-one, div-one, mod-one, mod-eq_of_lt}
use native.Mathlib.Numerals.{add-one}
use native.Mathlib.Omega.{arith}
use borrow.Author.Tests.{eqb-true, leb-true, ne_eqb, not-false}
use lib.Dec.{eqb, leb, ltb}
use lib.ListN.{length, get_or, take, drop, length-append}
use lib.Pow.{pow_pos}
use lib.Seq.{length-take-le, get_or-take, take_all}
use Rattle.cycle.specs.Notation.{sum, every, tabulate}
use Rattle.cycle.proofs.Digits.{tabulate_ext, tabulate-get_or}
use Rattle.cycle.proofs.Sum.{sum_mono}
use Rattle.cycle.proofs.Every.{every_at}
use Rattle.tsc.specs.declared.Card.{Card}
use Rattle.tsc.specs.Constants.{most_words, default_words}
use Rattle.tsc.specs.Coverage.{WellFormed}
use Rattle.std.specs.Prelude.{Ok, Err}
use Rattle.refusals.specs.Refusals.{first_of, NoneApplies}
use Rattle.card_format.specs.Fields.{fields, field, field_count, most_card_bytes, table_bit, extent, bytes_of, allowed, same}
use Rattle.card_format.specs.Reading.{card_from}
use Rattle.card_format.specs.Writing.{numbers_of, is_written, field_bytes, written_to, written, in_range, value_checks, write_checks, writing, page_after}
use Rattle.refusals.proofs.Refusals.{none_first, first_right, first-left}
use Rattle.card_format.proofs.Fields.{allowed_at, by_table, each_number, few-entries}
use Rattle.card_format.proofs.Bytes.{cond_le, length-cond, length-bytes_of}

-- ---- one number in each field but the table

pub numbers_of_single : (number : ℕ → ℕ) (table : List ℕ) (k : ℕ) → k < field_count → k ≢ table_bit → numbers_of (card_from number table) k ≡ number k ∷ []
unfolding numbers_of
numbers_of_single number table = each_number (λ k. numbers_of (card_from number table) k ≡ number k ∷ []) refl refl refl refl refl refl refl

-- ---- a card in range

pub words-allowed : (card : Card) → allowed (field card.words 0) (numbers_of card 0) ≡ true → card.words ≤ most_words
unfolding numbers_of field fields
words-allowed card h = (allowed_at (field card.words 0) (numbers_of card 0) h 0 (omega arith)).1

-- each number of a card in range is within its field's bounds
range_at : (card : Card) → in_range card ≡ true → (k : ℕ) → k < field_count → (i : ℕ) → i < length (numbers_of card k)
    → ((field card.words k).least ≤ get_or (numbers_of card k) i 0) × (get_or (numbers_of card k) i 0 ≤ (field card.words k).most)
unfolding in_range
range_at card r k l = allowed_at (field card.words k) (numbers_of card k) (every_at field_count _ ((and-eq-true_iff _ _).0 r).0 k l)

pub range_words : (card : Card) → in_range card ≡ true → card.words ≤ most_words
unfolding in_range
range_words card r = words-allowed card (every_at field_count _ ((and-eq-true_iff _ _).0 r).0 0 (omega arith))

pub range_formed : (card : Card) → length card.table ≡ 2 ^ most_words → in_range card ≡ true → WellFormed card × (card.words ≤ most_words)
unfolding numbers_of field fields
range_formed card z r =
    let w = range_at card r 0 (omega arith) 0 (omega arith) in
    let room : 2 ^ card.words ≤ length card.table = omega (arith, few-entries card.words w.1) in (
      record {
        words = w.0;
        width = (range_at card r 1 (omega arith) 0 (omega arith)).0;
        entries = λ y l. let t = range_at card r table_bit (omega arith) y (omega (arith, length-take-le (2 ^ card.words) card.table room)) in
            omega (arith, t.1, get_or-take (2 ^ card.words) card.table y 0 l, pow_pos card.words);
      },
      w.1,
    )

-- ---- the bytes of a field

-- byte p of numbers of `size` bytes
abbrev pub byte_at : ℕ → List ℕ → ℕ → ℕ
byte_at size xs p = get_or xs (p / size) 0 / 256 ^ (p % size) % 256

-- a table's are its entries
pub bytes_of_table : (m : ℕ) (xs : List ℕ) → length xs ≡ 2 ^ m → ((i : ℕ) → i < 2 ^ m → get_or xs i 0 < 256) → bytes_of (field m table_bit) xs ≡ xs
unfolding bytes_of field fields
bytes_of_table m xs z h =
    ap (λ (n : ℕ). tabulate n (byte_at 1 xs)) (mul-one (2 ^ m))
    ∙ tabulate_ext (2 ^ m) (byte_at 1 xs) (λ i. get_or xs i 0) (λ i l. rw (div-one i, mod-one i, div-one) (mod-eq_of_lt (h i l)))
    ∙ tabulate-get_or (2 ^ m) xs (omega arith) ∙ take_all (2 ^ m) xs (omega arith)

pub field_bytes_table : (card : Card) → length card.table ≡ 2 ^ most_words → in_range card ≡ true → is_written card table_bit ≡ true
    → field_bytes card table_bit ≡ take (2 ^ card.words) card.table
unfolding field_bytes numbers_of
field_bytes_table card z r w =
    let f = range_formed card z r in
    let few = few-entries card.words f.1 in
    let n = 2 ^ card.words in
    rw w
    (bytes_of_table card.words (take n card.table) (length-take-le n card.table (omega arith))
    (λ i l. omega (arith, get_or-take n card.table i 0 l, f.0.entries i l)))

pub field_bytes-none : (card : Card) (k : ℕ) → is_written card k ≡ false → field_bytes card k ≡ []
unfolding field_bytes
field_bytes-none card k w = rw w refl

-- ---- how many they are

pub extent-few : (m : ℕ) → m ≤ most_words → (k : ℕ) → k < field_count → extent (field m k) ≤ 2 ^ most_words
unfolding field fields
extent-few m h =
    by_table (λ k. extent (field m k) ≤ 2 ^ most_words) (omega (arith, few-entries m h))
    (each_number (λ k. extent (field m k) ≤ 2 ^ most_words) (omega arith) (omega arith) (omega arith) (omega arith) (omega arith) (omega arith) (omega arith))

pub length-field_bytes : (card : Card) (k : ℕ) → length (field_bytes card k) ≡ cond (is_written card k) (extent (field card.words k)) 0
unfolding field_bytes
length-field_bytes card k = length-cond (is_written card k) _ ∙ ap (λ (n : ℕ). cond (is_written card k) n 0) (length-bytes_of (field card.words k) _)

abbrev pub length_to : Card → ℕ → ℕ
length_to card k = length (written_to card k)

pub length_suc : (card : Card) (k : ℕ) → length_to card (k + 1) ≡ length_to card k + length (field_bytes card k)
unfolding written_to
length_suc card k = ap (length_to card) (add-one k) ∙ length-append (written_to card k) (field_bytes card k)

pub written_to_suc : (card : Card) (k : ℕ) → written_to card (k + 1) ≡ written_to card k ++ field_bytes card k
unfolding written_to
written_to_suc card k = ap (written_to card) (add-one k)

pub length_before : (card : Card) (k n : ℕ) → k ≤ n → length_to card k ≤ length_to card n
length_before card k n h =
    le_ind (λ (j : ℕ). length_to card k ≤ length_to card j) (le_refl _) (λ j g ih. omega (arith, ih, length_suc card j, ap (length_to card) (add-one j))) n h

pub length_some : (card : Card) (k : ℕ) → 0 < length_to card k
unfolding written_to
length_some card k = omega (arith, length_before card 0 k (omega arith))

-- ---- no card is longer than the longest

-- what a field takes at most: the words field is not there for the default m
most_extent : ℕ → ℕ → ℕ
most_extent m k = cond (eqb k 0 && eqb m default_words) 0 (extent (field m k))

most_bytes : (m : ℕ) → m ≤ most_words → 1 + sum field_count (most_extent m) ≤ most_card_bytes
unfolding most_extent every sum field fields
most_bytes m h =
    leb-true _ most_card_bytes (every_at (suc most_words) (λ m. leb (1 + sum field_count (most_extent m)) most_card_bytes) refl m (omega arith))

pub present-short : (m : ℕ) (here : ℕ → Bool) → m ≤ most_words → (m ≡ default_words → here 0 ≡ false)
    → 1 + sum field_count (λ k. cond (here k) (extent (field m k)) 0) ≤ most_card_bytes
unfolding most_extent
present-short m here few absent =
    omega (arith, most_bytes m few, sum_mono field_count (λ k. cond (here k) (extent (field m k)) 0) (most_extent m) (λ k l. go k (eqb k 0 && eqb m default_words) refl))
  where
    go : (k : ℕ) (b : Bool) → (eqb k 0 && eqb m default_words) ≡ b → cond (here k) (extent (field m k)) 0 ≤ cond b 0 (extent (field m k))
    go k true e =
        let t = (and-eq-true_iff (eqb k 0) (eqb m default_words)).0 e in
        le_of_eq (ap (λ (h : Bool). cond h (extent (field m k)) 0) (ap here (eqb-true k 0 t.0) ∙ absent (eqb-true m default_words t.1)))
    go k false e = cond_le (here k) (extent (field m k))

pub length-written_to : (card : Card) (k : ℕ) → length_to card k ≡ 1 + sum k (λ j. cond (is_written card j) (extent (field card.words j)) 0)
unfolding written_to sum
length-written_to card zero = refl
length-written_to card (suc k) =
    length-append (written_to card k) (field_bytes card k) ∙ ap₂ (λ (x y : ℕ). x + y) (length-written_to card k) (length-field_bytes card k) ∙ add_assoc 1 _ _

pub written-short : (card : Card) → card.words ≤ most_words → length (written card) ≤ most_card_bytes
unfolding numbers_of same field fields
written-short card few =
    rw (length-written_to card field_count) (present-short card.words (is_written card) few (λ e. rw e refl))

-- ---- what the writer answers

-- a refusal of the values is told whatever the room is
pub value_told : (card : Card) (room : ℕ) → first_of (value_checks card) ≢ 0 → first_of (write_checks card room) ≡ first_of (value_checks card)
unfolding write_checks
value_told card room ne = first-left (value_checks card) _ ne

-- where there is none, the room decides
pub room_told : (card : Card) (room : ℕ) → first_of (value_checks card) ≡ 0 → first_of (write_checks card room) ≡ cond (ltb room (length (written card))) 16 0
unfolding write_checks first_of
room_told card room z = first_right (value_checks card) _ z

pub value_range : (card : Card) → first_of (value_checks card) ≡ 0 → in_range card ≡ true
unfolding value_checks NoneApplies
value_range card z = not-false (in_range card) (none_first (value_checks card) z).0

pub writing-refused : (card : Card) (page : List ℕ) (r : ℕ) → r ≢ 0 → first_of (write_checks card (length page)) ≡ r
    → (Err r ≡ writing card (length page)) × (page ≡ page_after card page)
unfolding writing page_after
writing-refused card page r ne e = rw (e, ne_eqb r 0 ne) (refl, refl)

pub writing_done : (card : Card) (page : List ℕ) → first_of (write_checks card (length page)) ≡ 0
    → (Ok (length (written card)) ≡ writing card (length page)) × (written card ++ drop (length (written card)) page ≡ page_after card page)
unfolding writing page_after
writing_done card page e = rw e (refl, refl)
