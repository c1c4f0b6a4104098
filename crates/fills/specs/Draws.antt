-- Single draws, each word stored in a strip at the next place: what a fill is held to.
use Rattle.std.specs.Prelude.{cond, List, ℕ, zero, suc, ◌+◌, ltb, set, Result, Ok, Err}
use Rattle.cycle.specs.Notation.{iterate}
use Rattle.draws.specs.Calls.{stepped, drawing}

-- a strip with a draw's word at a place; a refused draw has none
abbrev pub with_draw : List ℕ → ℕ → Result ℕ ℕ → List ℕ
with_draw strip place (Ok w) = set strip place w
with_draw strip place (Err r) = strip

-- the strip after so many draws; the state words are then the step repeated
unfoldable pub drawn_strip : List ℕ → List ℕ → List ℕ → ℕ → ℕ → List ℕ
drawn_strip bytes xs strip place zero = strip
drawn_strip bytes xs strip place (suc t) = with_draw (drawn_strip bytes xs strip place t) (place + t) (drawing bytes (iterate (stepped bytes) t xs))

-- how many draws a fill of a strip of `size` words stands for: none where the span ends past the strip
abbrev pub draws_made : ℕ → ℕ → ℕ → ℕ
draws_made size place count = cond (ltb size (place + count)) 0 count
