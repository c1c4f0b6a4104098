-- A map f of the numbers below N to themselves of which the entries at some places are kept, and when these alone exclude a single cycle (document 02, Eleven).
-- A set of places is a test P: the places below N that meet it.
use Rattle.std.specs.Prelude.{◌≡◌, Bool, true, ℕ, ◌<◌}
use Rattle.cycle.specs.Notation.{iterate}
use Rattle.cycle.specs.Cycle.{SingleCycle}

-- g maps the numbers below N to themselves, and has f's entries at the places of P
pub record Keeps (N : ℕ) (f : ℕ → ℕ) (P : ℕ → Bool) (g : ℕ → ℕ) : Type 0 where
  pub below : (x : ℕ) → x < N → g x < N
  pub agrees : (x : ℕ) → x < N → P x ≡ true → g x ≡ f x

-- no map that does is a single cycle
abbrev pub Excludes : ℕ → (ℕ → ℕ) → (ℕ → Bool) → Type 0
Excludes N f P = (g : ℕ → ℕ) → Keeps N f P g → SingleCycle N g 0 → ⊥

-- two places of P have the same entry
pub record RepeatIn (N : ℕ) (f : ℕ → ℕ) (P : ℕ → Bool) : Type 0 where
  pub one : ℕ
  pub other : ℕ
  pub apart : one < other
  pub below : other < N
  pub one_in : P one ≡ true
  pub other_in : P other ≡ true
  pub same : f one ≡ f other

-- from a place, f returns to it after fewer than N applications, and is at places of P till then
pub record ShortCycleIn (N : ℕ) (f : ℕ → ℕ) (P : ℕ → Bool) : Type 0 where
  pub start : ℕ
  pub size : ℕ
  pub below : start < N
  pub some : 0 < size
  pub short : size < N
  pub returns : iterate f size start ≡ start
  pub inside : (k : ℕ) → k < size → P (iterate f k start) ≡ true

-- no two numbers below N have the same entry
abbrev pub Injective : ℕ → (ℕ → ℕ) → Type 0
Injective N f = (x y : ℕ) → x < N → y < N → f x ≡ f y → x ≡ y
