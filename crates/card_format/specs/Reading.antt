-- What the bytes of a card mean, and refusals 1 to 6 (document 01, The card and Refusal table). The first byte is the map; bytes past the end count as 0.
use Rattle.std.specs.Prelude.{Bool, cond, not, ◌&&◌, List, [], ◌∷◌, ◌++◌, ℕ, zero, suc, ◌+◌, ◌^◌, eqb, leb, ltb, length, get_or, drop, Result}
use Rattle.cycle.specs.Notation.{sum, zero_filled, bit}
use Rattle.tsc.specs.declared.Card.{Card}
use Rattle.tsc.specs.Constants.{most_words, default_words}
use Rattle.refusals.specs.Refusals.{Check, check, first_of, NoneApplies, answered}
use Rattle.refusals.specs.declared.Refusal.TheVariants.{Truncated, OutOfRange, Redundant, TableMissing, TrailingBytes, ConstantTooWide}
use Rattle.card_format.specs.Fields.{Field, field, field_count, table_bit, extent, numbers, allowed, same}

-- whether field k is present
abbrev pub present : List ℕ → ℕ → Bool
present bytes k = eqb (bit k (get_or bytes 0 0)) 1

-- where field k starts on a card of m words: after the map and the present fields before it
unfoldable pub offset : ℕ → List ℕ → ℕ → ℕ
offset m bytes k = 1 + sum k (λ j. cond (present bytes j) (extent (field m j)) 0)

-- the numbers of field k on a card of m words, given or absent
unfoldable pub values_at : ℕ → List ℕ → ℕ → List ℕ
values_at m bytes k = cond (present bytes k) (numbers (field m k) (drop (offset m bytes k) bytes)) (field m k).absent

-- m, by field 0, whose place and size do not depend on m
unfoldable pub words_of : List ℕ → ℕ
words_of bytes = get_or (values_at 0 bytes 0) 0 0

abbrev pub values : List ℕ → ℕ → List ℕ
values bytes k = values_at (words_of bytes) bytes k

abbrev pub value : List ℕ → ℕ → ℕ
value bytes k = get_or (values bytes k) 0 0

-- a table as a card holds it: unused entries are 0
abbrev pub padded : List ℕ → List ℕ
padded xs = zero_filled (2 ^ most_words) xs

-- the card of these numbers, by their bits, and this table
abbrev pub card_from : (ℕ → ℕ) → List ℕ → Card
card_from number table =
    record {
      words = number 0;
      width = number 1;
      table = table;
      odd_power = number 3;
      even_power = number 4;
      constant = number 5;
      filter = number 6;
      sum_term = number 7;
    }

-- the eight values
unfoldable pub card_of : List ℕ → Card
card_of bytes = card_from (value bytes) (padded (values bytes table_bit))

-- a present field's checks, in their order, on the card's bytes from the field's start on
unfoldable pub part_checks : Field → List ℕ → List Check
part_checks f part =
    check Truncated (ltb (length part) (extent f))
    ∷ check OutOfRange (not (allowed f (numbers f part)))
    ∷ check Redundant (same (numbers f part) f.absent)
    ∷ []

-- the checks of field k; 4 stands at the table's place
unfoldable pub field_checks : List ℕ → ℕ → List Check
field_checks bytes k =
    let m = words_of bytes in
    cond (present bytes k) (part_checks (field m k) (drop (offset m bytes k) bytes))
    (check TableMissing (eqb k table_bit && not (eqb m default_words)) ∷ [])

-- the map, then the fields before field k
unfoldable pub checks_to : List ℕ → ℕ → List Check
checks_to bytes zero = check Truncated (eqb (length bytes) 0) ∷ []
checks_to bytes (suc k) = checks_to bytes k ++ field_checks bytes k

-- condition 6, on a card's values
abbrev pub constant_check : Card → Check
constant_check card = check ConstantTooWide (leb (2 ^ card.width) card.constant)

-- conditions 1 to 6
unfoldable pub form_checks : List ℕ → List Check
form_checks bytes =
    checks_to bytes field_count
    ++ (check TrailingBytes (ltb (offset (words_of bytes) bytes field_count) (length bytes))
    ∷ constant_check (card_of bytes)
    ∷ [])

-- a card of sound form: none of conditions 1 to 6 applies
abbrev pub SoundForm : List ℕ → Type 0
SoundForm bytes = NoneApplies (form_checks bytes)

-- what the reader answers: the eight values, or the first of refusals 1 to 6
unfoldable pub reading : List ℕ → Result Card ℕ
reading bytes = answered (first_of (form_checks bytes)) (card_of bytes)
