-- Lists in another order.
use Rattle.std.specs.Prelude.{◌≡◌, List, ℕ, ◌<◌, length, get_or}
use Rattle.cycle.specs.Notation.{tabulate}

-- f is a permutation of 0, 1, .., n - 1
pub record Permutes (n : ℕ) (f : ℕ → ℕ) : Type 0 where
  pub below : (i : ℕ) → i < n → f i < n
  pub onto : (j : ℕ) → j < n → (i : ℕ) × (i < n) × (f i ≡ j)

-- the list whose entry i is entry f i of xs
abbrev pub reordered : (ℕ → ℕ) → List ℕ → List ℕ
reordered f xs = tabulate (length xs) (λ i. get_or xs (f i) 0)

-- the same shovels with the same times, in another order
pub record SameShovels (shovels times shovels₂ times₂ : List ℕ) : Type 0 where
  pub order : ℕ → ℕ
  pub permutes : Permutes (length shovels) order
  pub numbers : shovels₂ ≡ reordered order shovels
  pub durations : times₂ ≡ reordered order times
