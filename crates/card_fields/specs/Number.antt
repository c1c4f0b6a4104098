-- What the reader of a numeric field answers.
use Rattle.std.specs.Prelude.{List, ℕ, get_or, Result}
use Rattle.refusals.specs.Refusals.{first_of, answered}
use Rattle.card_format.specs.Fields.{Field, numbers}
use Rattle.card_format.specs.Reading.{part_checks}

-- a field of one number at the start of the part
unfoldable pub number_read : Field → List ℕ → Result ℕ ℕ
number_read f part = answered (first_of (part_checks f part)) (get_or (numbers f part) 0 0)
