-- Words so few that all entries of their tables can be gone through on whole words (crates minterms and multiplexer).
use Rattle.std.specs.Prelude.{ℕ}

abbrev pub few_words : ℕ
few_words = 4
