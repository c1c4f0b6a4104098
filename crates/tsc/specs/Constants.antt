-- The sizes that a card may ask for (document 01, The card), each bound here alone, and the published constants (document 002, 13, 14 and 19).
use Rattle.std.specs.Prelude.{List, [], ◌∷◌, ℕ}

-- words m of a state
abbrev pub fewest_words : ℕ
fewest_words = 2

abbrev pub most_words : ℕ
most_words = 8

-- m of a card that does not give it, and of TSC-1 and TSC-2: the one m whose table may be absent
abbrev pub default_words : ℕ
default_words = 4

-- words that the filters of document 002 take (15, 20): those past them are added by themselves (document 02, Five)
abbrev pub filter_words : ℕ
filter_words = 4

-- bits n of a word
abbrev pub narrowest_width : ℕ
narrowest_width = 2

abbrev pub widest_width : ℕ
widest_width = 32

-- document 002 (13): C of TSC-1
abbrev pub tsc1_constant : ℕ
tsc1_constant = 0x12488421

-- document 002 (14): S of TSC-1
abbrev pub tsc1_table : List ℕ
tsc1_table = 3 ∷ 5 ∷ 9 ∷ 13 ∷ 1 ∷ 6 ∷ 11 ∷ 15 ∷ 4 ∷ 0 ∷ 8 ∷ 14 ∷ 10 ∷ 7 ∷ 2 ∷ 12 ∷ []

-- document 002 (19): S of TSC-2
abbrev pub tsc2_table : List ℕ
tsc2_table = 5 ∷ 2 ∷ 11 ∷ 12 ∷ 13 ∷ 4 ∷ 3 ∷ 14 ∷ 15 ∷ 8 ∷ 1 ∷ 6 ∷ 7 ∷ 10 ∷ 9 ∷ 0 ∷ []
