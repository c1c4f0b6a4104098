-- What the least period of the words hangs on (document 02, Six): the words of states that are half the orbit apart.
use Rattle.std.specs.Prelude.{◌≢◌, List, ℕ, ◌/◌}
use Rattle.tsc.specs.declared.Card.{Card}
use Rattle.tsc.specs.Step.{orbit}
use Rattle.tsc.specs.Word.{word}
use Rattle.tsc.specs.Coverage.{states}

-- the state half the orbit on, N / 2 steps
abbrev pub opposite : Card → List ℕ → List ℕ
opposite card xs = orbit card xs (states card / 2)

-- the state has another word than its opposite
abbrev pub Differs : Card → List ℕ → Type 0
Differs card xs = word card xs ≢ word card (opposite card xs)
