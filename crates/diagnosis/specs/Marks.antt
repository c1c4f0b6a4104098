-- What inner functions ask and answer on the way to the bad places of a table: f is the table as a map of the numbers below N. The contract of the call does without.
use Rattle.std.specs.Prelude.{◌≡◌, Bool, true, false, cond, List, ℕ, zero, suc, ◌^◌, ◌≤◌, ◌<◌, ltb, length, get_or, set, Option, Some, None}
use Rattle.cycle.specs.Notation.{first, iterate}
use Rattle.tsc.specs.Constants.{fewest_words, most_words}
use Rattle.completions.specs.Finding.{clashes, clashes_with, cycle_length}
use Rattle.diagnosis.specs.declared.shortest.Found.{Found}

-- a list as a map
abbrev pub entry_of : List ℕ → ℕ → ℕ
entry_of table x = get_or table x 0

-- the table that the call hands down: its entries are places of it
pub record IsTable (table : List ℕ) : Type 0 where
  pub large : 2 ^ fewest_words ≤ length table
  pub fits : length table ≤ 2 ^ most_words
  pub below : (x : ℕ) → x < length table → entry_of table x < length table

-- the first of 0, 1, .., n - 1 that meets p
abbrev pub first_below : ℕ → (ℕ → Bool) → Option ℕ
first_below n p = cond (ltb (first n p) n) (Some (first n p)) None

-- the first place that clashes with another, with the first that it clashes with
abbrev pub first_pair : ℕ → (ℕ → ℕ) → Option (ℕ × ℕ)
first_pair N f = let x = first N (clashes N f) in cond (ltb x N) (Some (x, first N (clashes_with f x))) None

-- whether place x is marked
abbrev pub marked : List Bool → ℕ → Bool
marked marks x = get_or marks x false

-- marks with one more at each of x, f x, .., f applied n - 1 times to x
unfoldable pub marks_along : (ℕ → ℕ) → ℕ → ℕ → List Bool → List Bool
marks_along f x zero marks = marks
marks_along f x (suc n) marks = set (marks_along f x n marks) (iterate f n x) true

-- what is found once the places before x have been tried: the first of the shortest among them; and none is marked but on the way of one of them
pub record Tried (N : ℕ) (f : ℕ → ℕ) (x : ℕ) (found : Found) (marks : List Bool) : Type 0 where
  pub start : found.start < x
  pub steps : found.steps ≡ cycle_length N f found.start
  pub least : (z : ℕ) → z < x → found.steps ≤ cycle_length N f z
  pub first : (z : ℕ) → z < found.start → found.steps < cycle_length N f z
  pub long : length marks ≡ 2 ^ most_words
  pub passed : (v : ℕ) → marked marks v ≡ true → (z : ℕ) × (k : ℕ) × (z < x) × (iterate f k z ≡ v)
