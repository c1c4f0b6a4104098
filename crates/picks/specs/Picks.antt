-- What a pick answers and what the lent state words are after it (document 01, Step, word and pick; document 02, Two), for any bytes, words and lists.
use Rattle.std.specs.Prelude.{cond, List, ◌++◌, ℕ, eqb, Result, Ok, Err}
use Rattle.refusals.specs.declared.Refusal.{Refusal}
use Rattle.refusals.specs.Refusals.{Check, number, first_of}
use Rattle.card_format.specs.Reading.{card_of}
use Rattle.samples.specs.Samples.{taken, drawn_rank, drawn_state, tie_checks}
use Rattle.draws.specs.Calls.{call_checks}
use Rattle.ties.specs.Ties.{ties, chosen}
use Rattle.tie_list.specs.Checks.{list_checks}
use Rattle.picks.specs.declared.Pick.{Pick}
use Rattle.picks.specs.declared.Pick.TheVariants.{Shovel, Refused}

-- what a pick looks at: 1 to 9, then 10 and 11, then 12 to 15, then 18
abbrev pub pick_checks : List ℕ → List ℕ → List ℕ → List ℕ → List Check
pick_checks bytes xs shovels times = call_checks bytes xs ++ (list_checks shovels times ++ tie_checks (card_of bytes).width (ties times))

-- the refusal that it tells; 0 where none applies
unfoldable pub pick_refusal : List ℕ → List ℕ → List ℕ → List ℕ → ℕ
pick_refusal bytes xs shovels times = first_of (pick_checks bytes xs shovels times)

-- what a pick answers: the number of the tie whose rank is drawn, how many ties there are and how many words were taken; or the refusal
unfoldable pub picking : List ℕ → List ℕ → List ℕ → List ℕ → Pick
picking bytes xs shovels times =
    let card = card_of bytes in
    let k = ties times in
    let r = pick_refusal bytes xs shovels times in
    cond (eqb r 0) (Shovel (chosen shovels times (drawn_rank card xs k)) k (taken card xs k)) (Refused r)

-- the answer of code that hands its refusals on
abbrev pub answering : Result Pick Refusal → Pick
answering (Ok p) = p
answering (Err e) = Refused (number e)

-- how many words a pick tells that it took; none where it is refused
abbrev pub words_taken : Pick → ℕ
words_taken (Shovel s k t) = t
words_taken (Refused r) = 0

-- the state words after a pick; as lent where it refuses
unfoldable pub picked : List ℕ → List ℕ → List ℕ → List ℕ → List ℕ
picked bytes xs shovels times = cond (eqb (pick_refusal bytes xs shovels times) 0) (drawn_state (card_of bytes) xs (ties times)) xs
