-- Which bytes are a whole record, what it holds, and what the desk is answered (document 02, Seven).
use Rattle.std.specs.Prelude.{◌≡◌, Bool, true, not, ◌&&◌, List, [], ◌∷◌, ℕ, ◌%◌, eqb, ltb, length, get_or, Option, None, Some, Result}
use Rattle.cycle.specs.Notation.{zero_filled}
use Rattle.tsc.specs.declared.State.{State}
use Rattle.tsc.specs.Constants.{most_words}
use Rattle.refusals.specs.Refusals.{Check, check, first_of, answered}
use Rattle.refusals.specs.declared.Refusal.TheVariants.{MalformedRecord}
use Rattle.card_format.specs.Fields.{allowed}
use Rattle.records.specs.declared.Record.{Record}
use Rattle.records.specs.Fields.{record_field, record_field_count, start_of, word_count_of, record_numbers}

-- map, state count and length are of the form: bits 0 and 1 stand, 5 to 7 do not; the count, where it is given, is allowed; no byte is missing, and none is left
unfoldable pub is_whole : List ℕ → Bool
is_whole bytes =
    let map = get_or bytes 0 0 in
    let c = word_count_of bytes in
    eqb (map % 4) 3 && ltb map 32 && allowed (record_field c 4) (record_numbers bytes 4) && eqb (length bytes) (start_of c bytes record_field_count)

abbrev pub Whole : List ℕ → Type 0
Whole bytes = is_whole bytes ≡ true

-- condition 20
abbrev pub record_checks : List ℕ → List Check
record_checks bytes = check MalformedRecord (not (is_whole bytes)) ∷ []

-- a number that may lack
abbrev pub optional : List ℕ → Option ℕ
optional [] = None
optional (x ∷ xs) = Some x

-- the state of these words, as a record holds it
abbrev pub held_state : List ℕ → State
held_state xs = record { words = zero_filled most_words xs }

-- the fields
unfoldable pub record_of : List ℕ → Record
record_of bytes =
    record {
      truck = get_or (record_numbers bytes 0) 0 0;
      shovel = get_or (record_numbers bytes 1) 0 0;
      ties = optional (record_numbers bytes 2);
      taken = optional (record_numbers bytes 3);
      words = optional (record_numbers bytes 4);
      state = held_state (record_numbers bytes 5);
    }

-- what the desk is answered: the fields, or 20
unfoldable pub reading_record : List ℕ → Result Record ℕ
reading_record bytes = answered (first_of (record_checks bytes)) (record_of bytes)
