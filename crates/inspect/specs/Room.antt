-- How much the program reads.
use Rattle.std.specs.Prelude.{ℕ}

-- document 02, Five: so many bytes, more than an accepted card can have
abbrev pub most_read : ℕ
most_read = 512
