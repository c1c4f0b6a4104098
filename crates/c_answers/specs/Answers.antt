-- The calls' answers as C has them (include/tiedraw.h): the values and the refusal, 0 for none. On a refusal the values are 0.
use Rattle.std.specs.Prelude.{◌≡◌, Bool, cond, List, [], ℕ, ◌^◌, ltb, length, Result, Ok, Err}
use Rattle.cycle.specs.Notation.{one}
use Rattle.tsc.specs.declared.Card.{Card}
use Rattle.tsc.specs.Constants.{most_words}
use Rattle.refusals.specs.Refusals.{number}
use Rattle.refusals.specs.declared.Refusal.TheVariants.{OutOfRange}
use Rattle.card_format.specs.Reading.{padded, card_from, reading}
use Rattle.card_format.specs.Writing.{writing, page_after}
use Rattle.picks.specs.declared.Pick.{Pick}
use Rattle.picks.specs.declared.Pick.TheVariants.{Shovel, Refused}
use Rattle.margins.specs.declared.Nearest.{Nearest}
use Rattle.margins.specs.Margins.{IsMargin}
use Rattle.c_answers.specs.declared.DrawnWord.{DrawnWord}
use Rattle.c_answers.specs.declared.Choice.{Choice}
use Rattle.c_answers.specs.declared.MarginAnswer.{MarginAnswer}
use Rattle.c_answers.specs.declared.WrittenLength.{WrittenLength}
use Rattle.c_answers.specs.declared.CardValues.{CardValues}
use Rattle.c_answers.specs.declared.CardReading.{CardReading}

-- a draw's answer
abbrev pub drawn : Result ℕ ℕ → DrawnWord
drawn (Ok w) = record { word = w; refusal = 0 }
drawn (Err r) = record { word = 0; refusal = r }

-- a pick's answer
abbrev pub choice : Pick → Choice
choice (Shovel s k t) = record { shovel = s; ties = k; taken = t; refusal = 0 }
choice (Refused r) = record { shovel = 0; ties = 0; taken = 0; refusal = r }

-- a margin's answer: raised is 1, and lowered 0
abbrev pub margin_answer : Result Nearest ℕ → MarginAnswer
margin_answer (Ok n) = record {
  seconds = n.seconds;
  changed = n.changed;
  shovel = n.shovel;
  raised = one n.raised;
  ties = n.ties;
  taken = n.taken;
  refusal = 0;
}
margin_answer (Err r) = record { seconds = 0; changed = 0; shovel = 0; raised = 0; ties = 0; taken = 0; refusal = r }

-- what is answered to these bytes, words and lists
abbrev pub IsMarginAnswer : List ℕ → List ℕ → List ℕ → List ℕ → MarginAnswer → Type 0
IsMarginAnswer bytes xs shovels times r = (m : Result Nearest ℕ) × IsMargin bytes xs shovels times m × (r ≡ margin_answer m)

-- the writer's answer
abbrev pub written_length : Result ℕ ℕ → WrittenLength
written_length (Ok n) = record { length = n; refusal = 0 }
written_length (Err r) = record { length = 0; refusal = r }

-- a card's eight values
abbrev pub card_values : Card → CardValues
card_values card = record {
  words = card.words;
  width = card.width;
  odd_power = card.odd_power;
  even_power = card.even_power;
  filter = card.filter;
  sum_term = card.sum_term;
  constant = card.constant;
  table = card.table;
}

-- the card that goes with a refusal: every value is 0
abbrev pub no_card : Card
no_card = card_from (λ k. 0) (padded [])

-- the reader's answer
abbrev pub card_reading : Result Card ℕ → CardReading
card_reading (Ok card) = record { card = card_values card; refusal = 0 }
card_reading (Err r) = record { card = card_values no_card; refusal = r }

-- and what it is to these bytes
abbrev pub read_card : List ℕ → CardReading
read_card bytes = card_reading (reading bytes)

-- the writer's eight values, as C hands them over: a table shorter than the array counts as followed by zeros
abbrev pub given : ℕ → ℕ → List ℕ → ℕ → ℕ → ℕ → ℕ → ℕ → Card
given words width table oddPower evenPower constant filter sumTerm = record {
  words = words;
  width = width;
  table = padded table;
  odd_power = oddPower;
  even_power = evenPower;
  constant = constant;
  filter = filter;
  sum_term = sumTerm;
}

-- the writer's values as tiedraw_write_card hands them over
abbrev pub given_values : CardValues → Card
given_values v = given v.words v.width v.table v.odd_power v.even_power v.constant v.filter v.sum_term

-- whether the table is longer than the array
abbrev pub overlong : Card → Bool
overlong card = ltb (2 ^ most_words) (length card.table)

-- what is answered for these values and a page of `room` bytes: an overlong table is refused by 2
unfoldable pub written_from : Card → ℕ → WrittenLength
written_from card room = written_length (cond (overlong card) (Err (number OutOfRange)) (writing card room))

-- the page after the call
unfoldable pub page_from : Card → List ℕ → List ℕ
page_from card page = cond (overlong card) page (page_after card page)
