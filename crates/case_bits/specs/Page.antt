-- The page that a replayed count of bits is lent.
use Rattle.std.specs.Prelude.{List, ℕ, replicate}
use Rattle.case_answers.specs.Page.{most_page}

-- every byte a full stop, so that bytes that are not written are seen
abbrev pub dotted_page : List ℕ
dotted_page = replicate most_page 46
