-- What a count of bits answers and leaves on the page (document 02, Eight), for any bytes, words and page.
use Rattle.std.specs.Prelude.{cond, List, ◌++◌, ℕ, eqb, length, drop, Result}
use Rattle.refusals.specs.Refusals.{Check, first_of, answered}
use Rattle.card_format.specs.Reading.{card_of}
use Rattle.card_format.specs.Verdict.{card_checks}
use Rattle.bit_strip.specs.Strip.{strip_checks}
use Rattle.bit_counts.specs.declared.Counts.{Counts}
use Rattle.bit_counts.specs.Bits.{bits_of, text}
use Rattle.bit_counts.specs.Counts.{counts_of}

module _ (bytes strip : List ℕ) where
  -- the bits of the strip, by the card's width
  abbrev pub strip_bits : List ℕ
  strip_bits = bits_of (card_of bytes).width strip

  -- 1 to 9, then 22 to 24
  abbrev pub bit_checks : ℕ → List Check
  bit_checks room = card_checks bytes ++ strip_checks (card_of bytes).width strip room

  unfoldable pub bit_refusal : ℕ → ℕ
  bit_refusal room = first_of (bit_checks room)

  -- the four integers, or the refusal
  unfoldable pub counting_bits : ℕ → Result Counts ℕ
  counting_bits room = answered (bit_refusal room) (counts_of strip_bits)

  -- the page: the bits as text, and past them what stood there; as lent where it refuses
  unfoldable pub bit_page : List ℕ → List ℕ
  bit_page page = cond (eqb (bit_refusal (length page)) 0) (text strip_bits ++ drop (length strip_bits) page) page
