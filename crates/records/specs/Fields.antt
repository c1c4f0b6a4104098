-- The fields of a record (document 02, Seven). The first byte is the map; bytes past the end count as 0.
use Rattle.std.specs.Prelude.{Bool, cond, ◌||◌, List, [], ◌∷◌, ℕ, ◌+◌, ◌*◌, ltb, get_or, drop}
use Rattle.cycle.specs.Notation.{sum}
use Rattle.tsc.specs.Constants.{fewest_words, most_words}
use Rattle.card_format.specs.Fields.{Field, row, extent, numbers}
use Rattle.card_format.specs.Reading.{present}

-- c words of a state, any of 32 bits
abbrev pub word_field : ℕ → Field
word_field c = row c 4 0 0xffffffff []

-- the fields of a record whose state has c words: those of bits 0 to 3, and the two parts of bit 4. A field that lacks holds no number, and of those given only
-- the count of words is judged
unfoldable pub record_fields : ℕ → List Field
record_fields c =
    -- count, size, least, most, absent
    row 1 2 0 0xffff []  -- 0 truck
    ∷ row 1 2 0 0xffff []  -- 1 shovel
    ∷ row 1 1 0 0xff []  -- 2 ties
    ∷ row 1 1 0 0xff []  -- 3 words taken
    ∷ row 1 1 fewest_words most_words []  -- 4 the state before the pick: how many words,
    ∷ word_field c  -- 4 and the words
    ∷ []

abbrev pub record_field_count : ℕ
record_field_count = 6

abbrev pub bit_count : ℕ
bit_count = 5

-- field k, and its bit
unfoldable pub record_field : ℕ → ℕ → Field
record_field c k = get_or (record_fields c) k (row 0 0 0 0 [])

abbrev pub bit_of : ℕ → ℕ
bit_of k = get_or (0 ∷ 1 ∷ 2 ∷ 3 ∷ 4 ∷ 4 ∷ []) k 0

-- the bytes that field k takes: none where it lacks
abbrev pub extent_at : ℕ → List ℕ → ℕ → ℕ
extent_at c bytes k = cond (present bytes (bit_of k)) (extent (record_field c k)) 0

-- where field k starts: after the map and the given fields before it
unfoldable pub start_of : ℕ → List ℕ → ℕ → ℕ
start_of c bytes k = 1 + sum k (extent_at c bytes)

-- the numbers of field k; none where it lacks
unfoldable pub numbers_at : ℕ → List ℕ → ℕ → List ℕ
numbers_at c bytes k = cond (present bytes (bit_of k)) (numbers (record_field c k) (drop (start_of c bytes k) bytes)) []

-- how many words the state has, by field 4, whose place and size do not depend on it; 0 where it lacks
unfoldable pub word_count_of : List ℕ → ℕ
word_count_of bytes = get_or (numbers_at 0 bytes 4) 0 0

abbrev pub record_numbers : List ℕ → ℕ → List ℕ
record_numbers bytes k = numbers_at (word_count_of bytes) bytes k

-- the bytes of a record that has every field, with a state of m words
abbrev pub record_bytes : ℕ → ℕ
record_bytes m = 8 + 4 * m

-- whether a page of `room` bytes has none for it, or no state has so many words
abbrev pub lacks_room : ℕ → ℕ → Bool
lacks_room m room = ltb most_words m || ltb room (record_bytes m)
