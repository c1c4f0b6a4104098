-- Cards read and written: what is accepted is written as it was, and what is written is accepted and reads back.
use mathlib.Core.Path.{◌≡◌, refl, sym, ap, ap₂, ◌∙◌}
use mathlib.Core.Logic.{◌≢◌}
use mathlib.Core.Bool.{Bool, true, false, cond, not, ◌&&◌, and-eq-true_iff}
use mathlib.Core.List.{List, [], ◌∷◌, ◌++◌, append_assoc, append-nil}
use Prim.Native.Nat.{ℕ, zero, suc, ◌+◌, ◌-◌, ◌^◌, ◌≤◌, ◌<◌}
use native.Mathlib.Nat.{le_of_eq}
use native.Mathlib.Omega.{arith}
use borrow.Author.Tests.{ltb-true, ltb-false, lt-ltb, le-ltb, eqb-false, eq-eqb, ne_eqb, not-true, not-false}
use lib.Dec.{eqb, ltb, lit<}
use lib.ListN.{length, get_or, take, drop, length-drop, length-replicate, take-append-drop}
use lib.Pow.{pow_mono}
use lib.Seq.{length-take-le, get_or-drop, take_at, take_all, take-suc, take-add, drop_at}
use Rattle.cycle.specs.Notation.{sum, every, tabulate}
use Rattle.cycle.proofs.Sum.{sum_ext}
use Rattle.cycle.proofs.Every.{every_at, every_of}
use Rattle.cycle.proofs.Digits.{tabulate_ext}
use Rattle.tsc.specs.declared.Card.{Card}
use Rattle.tsc.specs.Constants.{most_words, default_words}
use Rattle.std.specs.Prelude.{Ok, Err}
use Rattle.refusals.specs.Refusals.{check, first_of, NoneApplies}
use Rattle.refusals.specs.declared.Refusal.TheVariants.{TableMissing}
use Rattle.card_format.specs.Fields.{Bytes, fields, field, field_count, most_card_bytes, table_bit, extent, allowed, same}
use Rattle.card_format.specs.Reading.{present, offset, values_at, words_of, values, value, padded, card_from, card_of, part_checks, field_checks, checks_to, constant_check, form_checks, SoundForm}
use Rattle.card_format.specs.Verdict.{period_checks, card_checks, verdict}
use Rattle.card_format.specs.Writing.{numbers_of, is_written, field_bytes, written_to, written, unused_clear, in_range, value_checks, write_checks, writing, page_after, rewrite_checks, rewriting, page_rewritten}
use Rattle.refusals.proofs.Refusals.{first-none, none_first, first-append, first_right, first-left, none_left, none_right, none-append}
use Rattle.card_format.proofs.Sound.{Fitting, offset_suc, sound_fitting, value-words, field-none}
use Rattle.card_format.proofs.Fields.{by_table, count-one, same_refl, same_true}
use Rattle.card_format.proofs.Verdict.{words-sound}
use Rattle.card_format.proofs.Writing.{numbers_of_single, range_words, present-short, length-written_to}
use Rattle.card_format.proofs.Bytes.{length-one, byte_lt, read_differs, read_bytes, written_read, bit-map, map-bit}

-- ---- the numbers of a card: one in each field but the table

card_ext : (f g : ℕ → ℕ) (s t : List ℕ) → ((k : ℕ) → k < field_count → f k ≡ g k) → s ≡ t → card_from f s ≡ card_from g t
unfolding tabulate
card_ext f g s t h e = ap₂ (λ (xs table : List ℕ). card_from (λ k. get_or xs k 0) table) (tabulate_ext field_count f g h) e

-- ---- a card of sound form

module _ (bytes : List ℕ) (s : SoundForm bytes) where
  length_table : length (values bytes table_bit) ≡ 2 ^ value bytes 0
  unfolding field fields
  length_table = (sound_fitting bytes s table_bit (lit< tt)).count ∙ ap (λ (m : ℕ). 2 ^ m) (sym (value-words bytes))

  numbers_of-sound : (k : ℕ) → k < field_count → numbers_of (card_of bytes) k ≡ values bytes k
  unfolding numbers_of card_of
  numbers_of-sound =
      by_table (λ k. numbers_of (card_of bytes) k ≡ values bytes k) (take_at (values bytes table_bit) _ (2 ^ value bytes 0) length_table)
      (λ k l ne. numbers_of_single (value bytes) _ k l ne
      ∙ length-one (values bytes k) ((sound_fitting bytes s k l).count ∙ count-one (words_of bytes) k l ne))

  is_written-sound : (k : ℕ) → k < field_count → is_written (card_of bytes) k ≡ present bytes k
  unfolding card_of field_checks values_at
  is_written-sound k l =
      rw (numbers_of-sound k l, value-words) (read_differs (field (words_of bytes) k) _ (present bytes k) _ (field-none bytes s k l))

  field_bytes-sound : Bytes bytes → (k : ℕ) → k < field_count → field_bytes (card_of bytes) k
      ≡ take (cond (present bytes k) (extent (field (words_of bytes) k)) 0) (drop (offset (words_of bytes) bytes k) bytes)
  unfolding card_of field_bytes field_checks values_at
  field_bytes-sound b k l =
      rw (is_written-sound k l, numbers_of-sound k l, value-words)
      (read_bytes (field (words_of bytes) k) _ (present bytes k) _ (field-none bytes s k l) (λ i. rw get_or-drop (byte_lt bytes b _)))

  written_to-sound : Bytes bytes → (k : ℕ) → k ≤ field_count → written_to (card_of bytes) k ≡ take (offset (words_of bytes) bytes k) bytes
  unfolding written_to offset sum form_checks checks_to NoneApplies
  written_to-sound b zero l =
      let some : 0 < length bytes = omega (arith, eqb-false (length bytes) 0 s.0) in
      ap (λ (x : ℕ). x ∷ [])
      (sum_ext field_count _ _ (λ k lk. ap (λ (t : Bool). cond t (2 ^ k) 0) (is_written-sound k lk)) ∙ map-bit field_count (get_or bytes 0 0) (b 0 some))
      ∙ sym (take-suc bytes 0 0 some)
  written_to-sound b (suc k) l =
      ap₂ (λ (x y : List ℕ). x ++ y) (written_to-sound b k (omega arith)) (field_bytes-sound b k l)
      ∙ sym (ap (λ (n : ℕ). take n bytes) (offset_suc (words_of bytes) bytes k) ∙ take-add (offset (words_of bytes) bytes k) _ bytes)

  sound-in_range : in_range (card_of bytes) ≡ true
  unfolding in_range card_of
  sound-in_range =
      (and-eq-true_iff _ _).1 (
        every_of field_count _ (λ k l. rw (numbers_of-sound k l, value-words) (sound_fitting bytes s k l).allow),
        rw (drop_at (values bytes table_bit) _ (2 ^ value bytes 0) length_table, length-replicate) (same_refl _),
      )

  sound-length : length bytes ≤ offset (words_of bytes) bytes field_count
  unfolding form_checks NoneApplies
  sound-length = ltb-false (offset (words_of bytes) bytes field_count) (length bytes) (none_right (checks_to bytes field_count) _ s).0

  -- the default m is given by absence
  words-absent : words_of bytes ≡ default_words → present bytes 0 ≡ false
  unfolding card_of numbers_of same field fields
  words-absent e = sym (is_written-sound 0 (lit< tt)) ∙ rw (value-words bytes, e) refl

  sound-narrow : (constant_check (card_of bytes)).applies ≡ false
  unfolding form_checks NoneApplies
  sound-narrow = (none_right (checks_to bytes field_count) _ s).1.0

-- a card of sound form, written, is the same bytes
pub sound-written : (bytes : List ℕ) → Bytes bytes → SoundForm bytes → written (card_of bytes) ≡ bytes
sound-written bytes b s = written_to-sound bytes s b field_count (omega arith) ∙ take_all (offset (words_of bytes) bytes field_count) bytes (sound-length bytes s)

-- ---- an accepted card

accepted-none : (bytes : List ℕ) → verdict bytes ≡ 0 → SoundForm bytes × NoneApplies (period_checks (card_of bytes))
unfolding verdict
accepted-none bytes z = let n = none_first _ z in (none_left (form_checks bytes) _ n, none_right (form_checks bytes) _ n)

-- two accepted byte strings with the same values are the same string
pub accepted-unique : (a b : List ℕ) → Bytes a → Bytes b → verdict a ≡ 0 → verdict b ≡ 0 → card_of a ≡ card_of b → a ≡ b
accepted-unique a b ha hb za zb e =
    sym (sound-written a ha (accepted-none a za).0) ∙ ap written e ∙ sound-written b hb (accepted-none b zb).0

pub accepted-short : (bytes : List ℕ) → verdict bytes ≡ 0 → length bytes ≤ most_card_bytes
unfolding offset card_of
accepted-short bytes z =
    let s = (accepted-none bytes z).0 in
    let few : words_of bytes ≤ most_words = omega (arith, value-words bytes, words-sound bytes s) in
    omega (arith, sound-length bytes s, present-short (words_of bytes) (present bytes) few (words-absent bytes s))

-- ---- a card read and written again

-- 7 to 9 and 16 decide on a card of sound form, whether its values are written or its bytes are
sound_told : (bytes : List ℕ) → Bytes bytes → SoundForm bytes → (room : ℕ)
    → first_of (write_checks (card_of bytes) room) ≡ first_of (rewrite_checks bytes room)
unfolding value_checks write_checks rewrite_checks first_of
sound_told bytes b s room =
    rw (sound-in_range bytes s, sound-narrow bytes s, sound-written bytes b s)
    (sym (ap first_of (append_assoc (form_checks bytes) _ _) ∙ first-append (form_checks bytes) _ s))

-- so the writer answers and leaves what is said of the bytes
pub sound-rewriting : (bytes page : List ℕ) → Bytes bytes → SoundForm bytes
    → (writing (card_of bytes) (length page) ≡ rewriting bytes (length page)) × (page_after (card_of bytes) page ≡ page_rewritten bytes page)
unfolding writing page_after rewriting page_rewritten
sound-rewriting bytes page b s = rw (sound_told bytes b s (length page), sound-written bytes b s) (refl, refl)

pub rewriting-refused : (bytes page : List ℕ) (r : ℕ) → r ≢ 0 → first_of (rewrite_checks bytes (length page)) ≡ r
    → (rewriting bytes (length page) ≡ Err r) × (page_rewritten bytes page ≡ page)
unfolding rewriting page_rewritten
rewriting-refused bytes page r ne e = rw (e, ne_eqb r 0 ne) (refl, refl)

-- a refusal of the card is told whatever the room is
pub verdict-rewriting : (bytes page : List ℕ) → verdict bytes ≢ 0
    → (rewriting bytes (length page) ≡ Err (verdict bytes)) × (page_rewritten bytes page ≡ page)
unfolding verdict rewrite_checks
verdict-rewriting bytes page ne = rewriting-refused bytes page _ ne (first-left (card_checks bytes) _ ne)

-- the room decides on an accepted card
accepted_told : (bytes : List ℕ) → verdict bytes ≡ 0 → (room : ℕ) → first_of (rewrite_checks bytes room) ≡ cond (ltb room (length bytes)) 16 0
unfolding verdict rewrite_checks first_of
accepted_told bytes z room = first_right (card_checks bytes) _ z

-- with room it gives the same bytes and the same length
pub accepted-rewriting : (bytes page : List ℕ) → verdict bytes ≡ 0 → length bytes ≤ length page
    → (rewriting bytes (length page) ≡ Ok (length bytes)) × (page_rewritten bytes page ≡ bytes ++ drop (length bytes) page)
unfolding rewriting page_rewritten
accepted-rewriting bytes page z l = rw (accepted_told bytes z (length page), le-ltb _ _ l) (refl, refl)

pub accepted-writing : (bytes page : List ℕ) → Bytes bytes → verdict bytes ≡ 0 → length bytes ≤ length page
    → (writing (card_of bytes) (length page) ≡ Ok (length bytes)) × (page_after (card_of bytes) page ≡ bytes ++ drop (length bytes) page)
accepted-writing bytes page b z l =
    let w = sound-rewriting bytes page b (accepted-none bytes z).0 in
    let d = accepted-rewriting bytes page z l in
    (w.0 ∙ d.0, w.1 ∙ d.1)

-- with less room the answer is 16, and the page is as it was
pub accepted_small : (bytes page : List ℕ) → Bytes bytes → verdict bytes ≡ 0 → length page < length bytes
    → (writing (card_of bytes) (length page) ≡ Err 16) × (page_after (card_of bytes) page ≡ page)
accepted_small bytes page b z l =
    let w = sound-rewriting bytes page b (accepted-none bytes z).0 in
    let d = rewriting-refused bytes page 16 (λ e. absurd (omega arith)) (accepted_told bytes z (length page) ∙ rw (lt-ltb _ _ l) refl) in
    (w.0 ∙ d.0, w.1 ∙ d.1)

-- ---- a written card

-- a number of a field fits its bytes, and the table's absent value is no table of another m: computed for each m and k
row-holds : ℕ → ℕ → Bool
row-holds m k =
    let f = field m k in
    ltb f.most (256 ^ f.size) && cond (eqb (length f.absent) f.count) (not (eqb k table_bit && not (eqb m default_words))) true

pub row_facts : (m k : ℕ) → m ≤ most_words → k < field_count → let f = field m k in
    (f.most < 256 ^ f.size) × (length f.absent ≡ f.count → (eqb k table_bit && not (eqb m default_words)) ≡ false)
unfolding row-holds every field fields
row_facts m k lm lk =
    let t = (and-eq-true_iff _ _).0 (every_at field_count (row-holds m) (every_at (suc most_words) (λ m. every field_count (row-holds m)) refl m (omega arith)) k lk) in
    (ltb-true _ _ t.0, λ e. not-true _ (rw (eq-eqb _ _ e) at t.1))

module _ (card : Card) (full : length card.table ≡ 2 ^ most_words) (r : in_range card ≡ true) where
  range_card : (every field_count (λ k. allowed (field card.words k) (numbers_of card k)) ≡ true) × (unused_clear card.words card.table ≡ true)
  unfolding in_range
  range_card = (and-eq-true_iff _ _).0 r

  words_card : card.words ≤ most_words
  words_card = range_words card r

  length_table_card : length (take (2 ^ card.words) card.table) ≡ 2 ^ card.words
  length_table_card = length-take-le (2 ^ card.words) card.table (rw full (pow_mono words_card))

  fitting_card : (k : ℕ) → k < field_count → Fitting (field card.words k) (numbers_of card k)
  unfolding numbers_of field fields
  fitting_card k l = record { allow = every_at field_count _ range_card.0 k l; count = counted k l }
    where
      counted : (k : ℕ) → k < field_count → length (numbers_of card k) ≡ (field card.words k).count
      counted =
          by_table (λ k. length (numbers_of card k) ≡ (field card.words k).count) length_table_card
          (λ k l ne. ap length (numbers_of_single (λ j. get_or (numbers_of card j) 0 0) card.table k l ne)
          ∙ sym (count-one card.words k l ne))

  padded_card : padded (take (2 ^ card.words) card.table) ≡ card.table
  padded_card =
      let n = 2 ^ card.words in
      let rest : 2 ^ most_words - length (take n card.table) ≡ length (drop n card.table) =
      omega (arith, length_table_card, length-drop n card.table) in
      rw (rest, ← same_true _ _ range_card.1) (take-append-drop n card.table)

  present-written : (k : ℕ) → k < field_count → present (written card) k ≡ is_written card k
  unfolding written_to
  present-written = bit-map field_count (is_written card)

  offset-written : (k : ℕ) → k ≤ field_count → offset card.words (written card) k ≡ length (written_to card k)
  unfolding offset
  offset-written k l =
      ap (λ (n : ℕ). 1 + n) (sum_ext k _ _ (λ j lj. rw (present-written j (omega arith)) refl)) ∙ sym (length-written_to card k)

  written_split : (n k : ℕ) → n + suc k ≡ field_count → (rest : List ℕ) × (written card ≡ written_to card k ++ (field_bytes card k ++ rest))
  unfolding written_to
  written_split zero k e =
      let last : field_count ≡ suc k = omega arith in
      ([], ap (written_to card) last ∙ ap (λ (r : List ℕ). written_to card k ++ r) (sym (append-nil (field_bytes card k))))
  written_split (suc n) k e =
      let p = written_split n (suc k) (omega arith) in
      (field_bytes card (suc k) ++ p.0, p.1 ∙ append_assoc (written_to card k) (field_bytes card k) _)

  -- field k reads back as the card's numbers, and none of its checks applies
  field-written : (k : ℕ) → k < field_count → let b = written card in let m = card.words in
      (values_at m b k ≡ numbers_of card k)
      × NoneApplies (cond (present b k) (part_checks (field m k) (drop (offset m b k) b))
      (check TableMissing (eqb k table_bit && not (eqb m default_words)) ∷ []))
  unfolding values_at field_bytes NoneApplies
  field-written k l =
      let p = written_split (field_count - suc k) k (omega arith) in
      let n = offset card.words (written card) k in
      let fit = fitting_card k l in
      let facts = row_facts card.words k words_card l in
      rw (present-written k l)
      (written_read (field card.words k) _ (numbers_of card k) p.0 _ fit facts.0
      (λ e. (facts.1 (ap length (sym e) ∙ fit.count), tt))
      (ap (drop n) p.1 ∙ drop_at (written_to card k) (field_bytes card k ++ p.0) n (sym (offset-written k (omega arith)))))

  words-written : words_of (written card) ≡ card.words
  unfolding words_of values_at offset sum field fields numbers_of
  words-written = ap (λ (xs : List ℕ). get_or xs 0 0) (field-written 0 (lit< tt)).0

  values-written : (k : ℕ) → k < field_count → values (written card) k ≡ numbers_of card k
  values-written k l = rw words-written (field-written k l).0

  card_of-written : card_of (written card) ≡ card
  unfolding card_of numbers_of
  card_of-written =
      card_ext (value (written card)) (λ k. get_or (numbers_of card k) 0 0) _ card.table
      (λ k l. ap (λ (xs : List ℕ). get_or xs 0 0) (values-written k l)) (ap padded (values-written table_bit (lit< tt)) ∙ padded_card)

  checks_written : (k : ℕ) → k ≤ field_count → NoneApplies (checks_to (written card) k)
  unfolding checks_to field_checks NoneApplies written_to
  checks_written zero l = (ne_eqb (length (written card)) 0 (omega arith), tt)
  checks_written (suc k) l =
      none-append (checks_to (written card) k) _ (checks_written k (omega arith)) (rw words-written (field-written k l).1)

  length-written : ltb (offset (words_of (written card)) (written card) field_count) (length (written card)) ≡ false
  length-written = rw words-written (le-ltb _ _ (le_of_eq (sym (offset-written field_count (omega arith)))))

-- what the writer writes is accepted and reads back as the same values
pub written-accepted : (card : Card) (room : ℕ) → length card.table ≡ 2 ^ most_words → first_of (write_checks card room) ≡ 0
    → (verdict (written card) ≡ 0) × (card_of (written card) ≡ card)
unfolding form_checks verdict write_checks value_checks NoneApplies
written-accepted card room full z =
    let n = none_left (value_checks card) _ (none_first (write_checks card room) z) in
    let r = not-false (in_range card) n.0 in
    let e = card_of-written card full r in
    let each = checks_written card full r field_count (omega arith) in
    let end = length-written card full r in
    let form : SoundForm (written card) = none-append (checks_to (written card) field_count) _ each (end, (rw e n.1.0, tt)) in
    (first-none _ (none-append (form_checks (written card)) _ form (rw e n.1.1)), e)
