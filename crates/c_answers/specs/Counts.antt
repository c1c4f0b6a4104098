-- What a count of bits answers, as C has it (include/tiedraw.h): the four integers and the refusal. On a refusal the integers are 0.
use Rattle.std.specs.Prelude.{List, ℕ, pos, Result, Ok, Err}
use Rattle.bit_counts.specs.declared.Counts.{Counts}
use Rattle.bit_counts.specs.Calls.{counting_bits}
use Rattle.c_answers.specs.declared.BitCountsAnswer.{BitCountsAnswer}

abbrev pub bit_counts_answer : Result Counts ℕ → BitCountsAnswer
bit_counts_answer (Ok c) = record { balance = c.balance; forward = c.forward; backward = c.backward; runs = c.runs; refusal = 0 }
bit_counts_answer (Err r) = record { balance = pos 0; forward = 0; backward = 0; runs = 0; refusal = r }

-- and what it is to these bytes, words and a page of `room` bytes
abbrev pub counted_for : List ℕ → List ℕ → ℕ → BitCountsAnswer
counted_for bytes strip room = bit_counts_answer (counting_bits bytes strip room)
