-- Groups of eight columns: group g has the columns from 8 g on, which lie in byte g of each word, as a matrix.
use Rattle.std.specs.Prelude.{List, ℕ, ◌+◌, ◌*◌, ◌/◌, ◌%◌, get_or}
use Rattle.cycle.specs.Notation.{bit}
use Rattle.tsc.specs.Constants.{widest_width}
use Rattle.words.specs.Masks.{HasBits}
use Rattle.transposition.specs.Matrix.{byte, HasRows}

-- the groups of eight columns in a word of the widest width
abbrev pub group_count : ℕ
group_count = widest_width / 8

-- row k is byte g of word k, of words with f i in column i
abbrev pub HasGroup : ℕ → ℕ → (ℕ → ℕ) → Type 0
HasGroup g x f = HasRows x (λ k i. bit k (f (8 * g + i)))

-- v has in byte i row k of group i
abbrev pub IsWord : List ℕ → ℕ → ℕ → Type 0
IsWord groups k v = HasBits v (λ i. bit (i % 8) (byte k (get_or groups (i / 8) 0)))
