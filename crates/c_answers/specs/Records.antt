-- What desk and cab are answered, as C has it (include/tiedraw.h): beside each field of a record that may lack a flag, 1 where it is given. On a refusal, and
-- where a field lacks, the numbers are 0.
use Rattle.std.specs.Prelude.{List, [], ℕ, Option, None, Some, Result, Ok, Err}
use Rattle.records.specs.declared.Record.{Record}
use Rattle.records.specs.Reading.{held_state, reading_record}
use Rattle.records.specs.Orders.{order_for}
use Rattle.c_answers.specs.declared.RecordValues.{RecordValues}
use Rattle.c_answers.specs.declared.RecordAnswer.{RecordAnswer}
use Rattle.c_answers.specs.declared.OrderAnswer.{OrderAnswer}

-- a field that may lack: its flag, and its number
abbrev pub flag : Option ℕ → ℕ
flag None = 0
flag (Some x) = 1

abbrev pub number : Option ℕ → ℕ
number None = 0
number (Some x) = x

-- the fields of a record
abbrev pub record_values : Record → RecordValues
record_values r = record {
  state = r.state.words;
  truck = r.truck;
  shovel = r.shovel;
  ties_given = flag r.ties;
  ties = number r.ties;
  taken_given = flag r.taken;
  taken = number r.taken;
  state_given = flag r.words;
  words = number r.words;
}

-- the record that goes with a refusal
abbrev pub no_record : Record
no_record = record { truck = 0; shovel = 0; ties = None; taken = None; words = None; state = held_state [] }

-- the desk's answer
abbrev pub record_answer : Result Record ℕ → RecordAnswer
record_answer (Ok r) = record { values = record_values r; refusal = 0 }
record_answer (Err n) = record { values = record_values no_record; refusal = n }

-- a cab's
abbrev pub order_answer : Result ℕ ℕ → OrderAnswer
order_answer (Ok s) = record { shovel = s; refusal = 0 }
order_answer (Err n) = record { shovel = 0; refusal = n }

-- and what they are to these bytes
abbrev pub read_record : List ℕ → RecordAnswer
read_record bytes = record_answer (reading_record bytes)

abbrev pub told_to : ℕ → List ℕ → OrderAnswer
told_to truck bytes = order_answer (order_for truck bytes)
