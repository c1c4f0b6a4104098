-- The least period of a card's words (document 02, Six), and a card whose words repeat early.
use Rattle.std.specs.Prelude.{List, [], ◌∷◌, ℕ}
use Rattle.cycle.specs.Period.{LeastPeriod}
use Rattle.tsc.specs.Word.{word_at}
use Rattle.tsc.specs.Coverage.{IsState}
use Rattle.card_format.specs.Reading.{card_of}

-- from every state of the card a shift by N words maps the endless sequence onto itself, and no shift of 1 to N - 1 does
abbrev pub WordPeriod : List ℕ → ℕ → Type 0
WordPeriod bytes N = (start : List ℕ) → IsState (card_of bytes) start → LeastPeriod (word_at (card_of bytes) start) N

-- two words of 3 bits. Half the orbit on the top bits of x0 and x1 have flipped, since the square of the table flips both bits of a column; filter 1 turns
-- neither word within 3 bits, and their sum is the word. All 64 states come up, and the words repeat after 32
abbrev pub repeating : List ℕ
repeating = 0x27 ∷ 0x02 ∷ 0x03 ∷ 0x01 ∷ 0x03 ∷ 0x00 ∷ 0x02 ∷ 0x01 ∷ 0x00 ∷ 0x00 ∷ 0x00 ∷ []
