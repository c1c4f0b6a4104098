-- States and their columns (document 002, 2). A state is the list of its m words of n bits, x0 first; `bit i x` is [x]_i of (1).
use Rattle.std.specs.Prelude.{◌≡◌, List, [], ◌∷◌, ℕ, ◌+◌, ◌*◌, ◌^◌, ◌<◌, length, get_or}
use Rattle.cycle.specs.Notation.{sum, tabulate, bit}

-- a state in range: m words of n bits
abbrev pub InRange : ℕ → ℕ → List ℕ → Type 0
InRange m n xs = (length xs ≡ m) × ((k : ℕ) → k < m → get_or xs k 0 < 2 ^ n)

-- document 002 (2): column i is the number whose bit k is bit i of word k
unfoldable pub column : ℕ → List ℕ → ℕ
column i [] = 0
column i (x ∷ xs) = bit i x + 2 * column i xs

-- the m words of n bits whose column i is c i: bit i of word k is bit k of c i
unfoldable pub from_columns : ℕ → ℕ → (ℕ → ℕ) → List ℕ
from_columns m n c = tabulate m (λ k. sum n (λ i. bit k (c i) * 2 ^ i))
