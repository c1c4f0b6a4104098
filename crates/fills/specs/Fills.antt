-- What a fill answers, and what the lent state words and the lent strip are after it (document 02, One), for any bytes, words, place and count.
use Rattle.std.specs.Prelude.{cond, List, ◌++◌, ℕ, ◌+◌, eqb, length, take, drop}
use Rattle.tsc.specs.Step.{orbit}
use Rattle.tsc.specs.Word.{orbit_words}
use Rattle.refusals.specs.Refusals.{Check, first_of}
use Rattle.card_format.specs.Reading.{card_of}
use Rattle.draws.specs.Calls.{call_checks}
use Rattle.spans.specs.Span.{span_checks}

-- what a fill looks at: 1 to 9, then 10 and 11, then 17
abbrev pub fill_checks : List ℕ → List ℕ → List ℕ → ℕ → ℕ → List Check
fill_checks bytes xs strip place count = call_checks bytes xs ++ span_checks (length strip) place count

-- the refusal that it tells; 0 where none applies
unfoldable pub fill_refusal : List ℕ → List ℕ → List ℕ → ℕ → ℕ → ℕ
fill_refusal bytes xs strip place count = first_of (fill_checks bytes xs strip place count)

-- the strip after a fill: what stands before the place, the words, and what stands behind them; as lent where it refuses
unfoldable pub filled : List ℕ → List ℕ → List ℕ → ℕ → ℕ → List ℕ
filled bytes xs strip place count =
    cond (eqb (fill_refusal bytes xs strip place count) 0) (take place strip ++ orbit_words (card_of bytes) xs count ++ drop (place + count) strip) strip

-- the state words after a fill: state number count; as lent where it refuses
unfoldable pub filled_state : List ℕ → List ℕ → List ℕ → ℕ → ℕ → List ℕ
filled_state bytes xs strip place count = cond (eqb (fill_refusal bytes xs strip place count) 0) (orbit (card_of bytes) xs count) xs
