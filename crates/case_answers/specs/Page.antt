-- The page that a replayed writer is lent.
use Rattle.std.specs.Prelude.{List, ℕ, replicate}

-- the most bytes of it
abbrev pub most_page : ℕ
most_page = 600

-- what it holds when it is lent: every byte a5, so that bytes that are not written are seen
abbrev pub untouched_page : List ℕ
untouched_page = replicate most_page 0xa5
