-- Single cycles of a map of the numbers below N to themselves, and the first return to 0.
use Rattle.std.specs.Prelude.{◌≡◌, cond, ℕ, zero, suc, ◌<◌, eqb}
use Rattle.cycle.specs.Notation.{iterate}

-- from z, f comes by every number below N within N applications, and is back at z after N
pub record SingleCycle (N : ℕ) (f : ℕ → ℕ) (z : ℕ) : Type 0 where
  pub reaches : (x : ℕ) → x < N → (k : ℕ) × (k < N) × (iterate f k z ≡ x)
  pub returns : iterate f N z ≡ z

-- where x stands after t applications: the first of the d counts t, t + 1, .. at which 0 stands, or 0 if it stands at none of them
unfoldable pub return_from : (ℕ → ℕ) → ℕ → ℕ → ℕ → ℕ
return_from f zero t x = 0
return_from f (suc d) t x = cond (eqb x 0) t (return_from f d (suc t) (f x))

-- after how many applications f first returns from 0 to 0, or 0 if it does not within N
unfoldable pub first_return : (ℕ → ℕ) → ℕ → ℕ
first_return f N = return_from f N 1 (f 0)
