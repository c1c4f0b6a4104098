-- What the writer writes, and its refusals (document 01, after the refusal table); and a card's bytes, read and written again.
use Rattle.std.specs.Prelude.{Bool, cond, not, ◌&&◌, List, [], ◌∷◌, ◌++◌, ℕ, zero, suc, ◌^◌, eqb, ltb, length, get_or, take, drop, replicate, Result}
use Rattle.cycle.specs.Notation.{sum, every}
use Rattle.tsc.specs.declared.Card.{Card}
use Rattle.refusals.specs.Refusals.{Check, check, first_of, answered}
use Rattle.refusals.specs.declared.Refusal.TheVariants.{OutOfRange, BufferTooSmall}
use Rattle.card_format.specs.Fields.{field, field_count, bytes_of, allowed, same}
use Rattle.card_format.specs.Reading.{constant_check}
use Rattle.card_format.specs.Verdict.{period_checks, card_checks}

-- the numbers of field k of a card
unfoldable pub numbers_of : Card → ℕ → List ℕ
numbers_of card k =
    get_or
    ((card.words ∷ []) ∷ (card.width ∷ []) ∷ take (2 ^ card.words) card.table ∷ (card.odd_power ∷ [])
    ∷ (card.even_power ∷ []) ∷ (card.constant ∷ []) ∷ (card.filter ∷ []) ∷ (card.sum_term ∷ []) ∷ [])
    k []

-- a field is written only when it differs from its absent value; so the table always is when m is not the default
abbrev pub is_written : Card → ℕ → Bool
is_written card k = not (same (numbers_of card k) (field card.words k).absent)

-- the bytes that are written for field k
unfoldable pub field_bytes : Card → ℕ → List ℕ
field_bytes card k = cond (is_written card k) (bytes_of (field card.words k) (numbers_of card k)) []

-- the map's bits of the fields before field k
abbrev pub map_to : Card → ℕ → ℕ
map_to card k = sum k (λ j. cond (is_written card j) (2 ^ j) 0)

-- the map, then the fields before field k
unfoldable pub written_to : Card → ℕ → List ℕ
written_to card zero = map_to card field_count ∷ []
written_to card (suc k) = written_to card k ++ field_bytes card k

abbrev pub written : Card → List ℕ
written card = written_to card field_count

-- whether the entries past 2^m are 0
abbrev pub unused_clear : ℕ → List ℕ → Bool
unused_clear m table = let rest = drop (2 ^ m) table in same rest (replicate (length rest) 0)

-- whether every value is allowed, and unused table entries are 0
unfoldable pub in_range : Card → Bool
in_range card = every field_count (λ k. allowed (field card.words k) (numbers_of card k)) && unused_clear card.words card.table

-- 2, 6, 7, 8, 9, on a card's values
unfoldable pub value_checks : Card → List Check
value_checks card =
    check OutOfRange (not (in_range card))
    ∷ constant_check card
    ∷ period_checks card

-- and 16, for a page of `room` bytes
unfoldable pub write_checks : Card → ℕ → List Check
write_checks card room = value_checks card ++ (check BufferTooSmall (ltb room (length (written card))) ∷ [])

-- what the writer answers for a page of `room` bytes: the length, or the refusal
unfoldable pub writing : Card → ℕ → Result ℕ ℕ
writing card room = answered (first_of (write_checks card room)) (length (written card))

-- the page after the call: bytes past the length are as they were, and so is the whole page after a refusal
unfoldable pub page_after : Card → List ℕ → List ℕ
page_after card page =
    cond (eqb (first_of (write_checks card (length page))) 0) (written card ++ drop (length (written card)) page) page

-- ---- bytes read and written again: the card itself, where it is accepted. The reader and the writer do not enter here

-- 1 to 9, and 16
unfoldable pub rewrite_checks : List ℕ → ℕ → List Check
rewrite_checks bytes room = card_checks bytes ++ (check BufferTooSmall (ltb room (length bytes)) ∷ [])

-- what is answered for a page of `room` bytes: the length, or the refusal
unfoldable pub rewriting : List ℕ → ℕ → Result ℕ ℕ
rewriting bytes room = answered (first_of (rewrite_checks bytes room)) (length bytes)

-- the page after the call: it begins with the same bytes, and past them it is as it was; so is the whole page after a refusal
unfoldable pub page_rewritten : List ℕ → List ℕ → List ℕ
page_rewritten bytes page = cond (eqb (first_of (rewrite_checks bytes (length page))) 0) (bytes ++ drop (length bytes) page) page
