-- How the least set of places that exclude a single cycle is found: what the searches look for in a map f of the numbers below N. The claim does without.
use Rattle.std.specs.Prelude.{Bool, ◌&&◌, ◌||◌, ℕ, suc, ◌-◌, ◌≤◌, ◌<◌, eqb, ltb}
use Rattle.cycle.specs.Notation.{count, first, iterate}

-- whether x is its own entry
abbrev pub is_fixed : (ℕ → ℕ) → ℕ → Bool
is_fixed f x = eqb (f x) x

-- how many places have the entry v
abbrev pub uses : ℕ → (ℕ → ℕ) → ℕ → ℕ
uses N f v = count N (λ x. eqb (f x) v)

-- whether x's entry stands elsewhere too, or x is its entry's entry
abbrev pub clashes : ℕ → (ℕ → ℕ) → ℕ → Bool
clashes N f x = ltb 1 (uses N f (f x)) || eqb (f (f x)) x

-- whether x with entry v and y with entry w have the same entry, or each other as entry
abbrev pub clash : ℕ → ℕ → ℕ → ℕ → Bool
clash x v y w = eqb v w || (eqb v y && eqb w x)

-- whether y is past x and clashes with it
abbrev pub clashes_with : (ℕ → ℕ) → ℕ → ℕ → Bool
clashes_with f x y = ltb x y && clash x (f x) y (f y)

-- after how many applications f first returns from x to x, or N where it does not sooner
unfoldable pub cycle_length : ℕ → (ℕ → ℕ) → ℕ → ℕ
cycle_length N f x = suc (first (N - 1) (λ k. eqb (iterate f (suc k) x) x))

-- no place has a shorter cycle than x, and none before it one as short
pub record Shortest (N : ℕ) (f : ℕ → ℕ) (x : ℕ) : Type 0 where
  pub below : x < N
  pub least : (z : ℕ) → z < N → cycle_length N f x ≤ cycle_length N f z
  pub first : (z : ℕ) → z < x → cycle_length N f x < cycle_length N f z
