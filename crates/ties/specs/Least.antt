-- A least time, as the functions on lists find it, and lists with the same ties. Ties are defined without these.
use Rattle.std.specs.Prelude.{◌≡◌, List, ℕ, ◌≤◌, ◌<◌, length, get_or}
use Rattle.ties.specs.Ties.{is_tie}

-- x is the least of the first n times
pub record LeastOf (times : List ℕ) (n x : ℕ) : Type 0 where
  pub stands : (i : ℕ) × (i < n) × (get_or times i 0 ≡ x)
  pub least : (j : ℕ) → j < n → x ≤ get_or times j 0

-- two lists of times in which the same shovels tie
pub record SameTies (times times₂ : List ℕ) : Type 0 where
  pub size : length times ≡ length times₂
  pub same : (j : ℕ) → j < length times → is_tie times j ≡ is_tie times₂ j
