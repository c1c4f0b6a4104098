-- The bytes of a record of these fields (document 02, Seven).
use Rattle.std.specs.Prelude.{◌≡◌, Bool, true, cond, not, List, [], ◌∷◌, ◌++◌, ℕ, zero, suc, ◌^◌, length, get_or, take, drop, Option, None, Some}
use Rattle.cycle.specs.Notation.{sum, every}
use Rattle.card_format.specs.Fields.{bytes_of, allowed, same}
use Rattle.records.specs.declared.Record.{Record}
use Rattle.records.specs.Fields.{record_field, record_field_count, bit_count, bit_of}
use Rattle.records.specs.Reading.{held_state}

-- the number of a field that may lack, or none
abbrev pub given : Option ℕ → List ℕ
given None = []
given (Some x) = x ∷ []

-- how many words the state has, 0 where it lacks; and the words
abbrev pub word_count : Record → ℕ
word_count r = get_or (given r.words) 0 0

abbrev pub state_of : Record → List ℕ
state_of r = take (word_count r) r.state.words

-- the numbers of field k
unfoldable pub numbers_of : Record → ℕ → List ℕ
numbers_of r k = get_or ((r.truck ∷ []) ∷ (r.shovel ∷ []) ∷ given r.ties ∷ given r.taken ∷ given r.words ∷ state_of r ∷ []) k []

-- whether the field of a bit is given
abbrev pub is_given : Record → ℕ → Bool
is_given r b = not (same (numbers_of r b) [])

-- the bytes of field k
unfoldable pub field_bytes : Record → ℕ → List ℕ
field_bytes r k = cond (is_given r (bit_of k)) (bytes_of (record_field (word_count r) k) (numbers_of r k)) []

-- the map, then the fields before field k
unfoldable pub encoded_to : Record → ℕ → List ℕ
encoded_to r zero = sum bit_count (λ b. cond (is_given r b) (2 ^ b) 0) ∷ []
encoded_to r (suc k) = encoded_to r k ++ field_bytes r k

abbrev pub encoded : Record → List ℕ
encoded r = encoded_to r record_field_count

-- a page with a record at its front: bytes past it are as they were
abbrev pub recorded_on : List ℕ → List ℕ → List ℕ
recorded_on left page = left ++ drop (length left) page

-- fields that a record can hold: each number has room, the count is allowed, and the state has no words past it
pub record Fits (r : Record) : Type 0 where
  pub room : every record_field_count (λ k. allowed (record_field (word_count r) k) (numbers_of r k)) ≡ true
  pub state : r.state ≡ held_state (state_of r)

-- the fields of a record that lacks none
abbrev pub full_record : ℕ → ℕ → ℕ → ℕ → List ℕ → Record
full_record truck shovel ties taken xs =
    record {
      truck = truck;
      shovel = shovel;
      ties = Some ties;
      taken = Some taken;
      words = Some (length xs);
      state = held_state xs;
    }
