-- The strip of a case.
use Rattle.std.specs.Prelude.{true, List, ℕ, Option}
use Rattle.case_numbers.specs.Numbers.{most_number}
use Rattle.case_fields.specs.Lists.{Held, numbers_in}

-- the most words of a strip
abbrev pub strip_room : ℕ
strip_room = 16400

-- words in hex, commas between
abbrev pub words_in : List ℕ → Option Held
words_in xs = numbers_in true most_number strip_room xs
