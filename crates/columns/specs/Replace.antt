-- What the functions on columns answer.
use Rattle.std.specs.Prelude.{◌≡◌, cond, List, ℕ, ◌+◌, ◌*◌, ◌%◌, ◌^◌, ◌≤◌, ◌<◌, eqb, ltb, get_or, take}
use Rattle.cycle.specs.Notation.{tabulate, iterate, bit}
use Rattle.cycle.specs.Cycle.{SingleCycle}
use Rattle.tsc.specs.declared.Card.{Card}
use Rattle.tsc.specs.Constants.{most_words}
use Rattle.tsc.specs.Columns.{column}
use Rattle.words.specs.Masks.{HasBits}

-- words of i bits with c as column i above them in the first `count` words
unfoldable pub with_column : ℕ → ℕ → ℕ → List ℕ → List ℕ
with_column count i c ws = tabulate most_words (λ k. get_or ws k 0 + bit k (c % 2 ^ count) * 2 ^ i)

-- words whose first m have f i in column i: bit i of word k is bit k of f i
abbrev pub HasColumns : ℕ → List ℕ → (ℕ → ℕ) → Type 0
HasColumns m ws f = (k : ℕ) → k < m → HasBits (get_or ws k 0) (λ i. bit k (f i))

-- a table of 2^m entries that is a single cycle
pub record IsCycle (m : ℕ) (table : List ℕ) : Type 0 where
  pub entries : (y : ℕ) → y < 2 ^ m → get_or table y 0 < 2 ^ m
  pub cycle : SingleCycle (2 ^ m) (λ y. get_or table y 0) 0

-- an array that holds a table of 2^m entries applied k times: entry x is where x goes; past the table's entries it is 0
abbrev pub IsPowerOf : ℕ → List ℕ → ℕ → List ℕ → Type 0
IsPowerOf m table k t = (x : ℕ) → get_or t x 0 ≡ cond (ltb x (2 ^ m)) (iterate (λ y. get_or table y 0) k x) 0

-- the card's table applied k times
abbrev pub IsPower : Card → ℕ → List ℕ → Type 0
IsPower card k t = IsPowerOf card.words card.table k t

-- where column c goes: by the odd power where the selector bit is 1, else by the even power
abbrev pub image_of : List ℕ → List ℕ → ℕ → ℕ → ℕ
image_of odd even s c = get_or (cond (eqb s 1) odd even) c 0

-- All columns of the first `count` words ws put through a table at once: in r, column i is where column i of ws goes by the power that bit i of z picks, for
-- the columns in `low`; the other columns are 0, and so are the words past `count`.
pub record Replaced (count : ℕ) (odd even ws : List ℕ) (z low : ℕ) (r : List ℕ) : Type 0 where
  pub columns : HasColumns count r (λ i. bit i low * image_of odd even (bit i z) (column i (take count ws)))
  pub others : (k : ℕ) → count ≤ k → get_or r k 0 ≡ 0
