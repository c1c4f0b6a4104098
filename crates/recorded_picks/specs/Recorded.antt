-- What a recorded pick answers, and what the lent state words and the page are after it (document 02, Seven), for any bytes, words, lists, truck and page.
use Rattle.std.specs.Prelude.{cond, List, [], ◌∷◌, ◌++◌, ℕ, ◌<◌, eqb, ltb, length, get_or}
use Rattle.refusals.specs.Refusals.{Check, check, first_of}
use Rattle.refusals.specs.declared.Refusal.TheVariants.{BufferTooSmall}
use Rattle.card_format.specs.Reading.{card_of}
use Rattle.records.specs.Fields.{record_bytes}
use Rattle.records.specs.Writing.{encoded, recorded_on, full_record}
use Rattle.picks.specs.declared.Pick.{Pick}
use Rattle.picks.specs.declared.Pick.TheVariants.{Shovel, Refused}
use Rattle.picks.specs.Picks.{pick_checks, picking, picked}

-- numbers of 16 bits
abbrev pub Halves : List ℕ → Type 0
Halves xs = (i : ℕ) → i < length xs → get_or xs i 0 < 65536

-- the record that an answer leaves, of the state before the pick: every field where there was a tie, nothing where one was nearest or the pick was refused
abbrev pub record_left : ℕ → List ℕ → Pick → List ℕ
record_left truck xs (Shovel s k t) = cond (eqb k 1) [] (encoded (full_record truck s k t xs))
record_left truck xs (Refused r) = []

module _ (bytes xs shovels times : List ℕ) (room : ℕ) where
  -- what it looks at: what a pick does, then 16, tie or not
  abbrev pub recorded_checks : List Check
  recorded_checks = pick_checks bytes xs shovels times ++ (check BufferTooSmall (ltb room (record_bytes (card_of bytes).words)) ∷ [])

  unfoldable pub recorded_refusal : ℕ
  recorded_refusal = first_of recorded_checks

  -- what it answers: what a pick does, or the refusal
  unfoldable pub recorded_picking : Pick
  recorded_picking = cond (eqb recorded_refusal 0) (picking bytes xs shovels times) (Refused recorded_refusal)

  -- the state words after it: as a pick leaves them, or as lent where it refuses
  unfoldable pub recorded_state : List ℕ
  recorded_state = cond (eqb recorded_refusal 0) (picked bytes xs shovels times) xs

-- the page after it
unfoldable pub recorded_page : List ℕ → List ℕ → List ℕ → List ℕ → ℕ → List ℕ → List ℕ
recorded_page bytes xs shovels times truck page = recorded_on (record_left truck xs (recorded_picking bytes xs shovels times (length page))) page
