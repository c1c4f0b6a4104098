-- The best change so far, if there is one, and what comes before it. The contracts of the calls do without.
use Rattle.std.specs.Prelude.{Bool, true, List, ℕ, ◌<◌, Option, None, Some}
use Rattle.changes.specs.declared.Change.{Change}
use Rattle.changes.specs.Others.{before}

-- it is one of a list of n
unfoldable pub Placed : ℕ → Option Change → Type 0
Placed n None = Unit {0}
Placed n (Some c) = c.place < n

-- whether c comes before it
unfoldable pub comes_first : List ℕ → Change → Option Change → Bool
comes_first shovels c None = true
comes_first shovels c (Some e) = before shovels c e
