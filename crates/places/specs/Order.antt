-- The same shovels at the same places, in another order.
use Rattle.std.specs.Prelude.{◌≡◌, List, ℕ, ◌<◌, ℤ, pos, length, get_or}
use Rattle.ties.specs.Order.{Permutes, reordered}
use Rattle.places.specs.Places.{Places}

-- entry i of cs₂ is entry f i of cs
pub record ReorderedBy (f : ℕ → ℕ) (cs cs₂ : List ℤ) : Type 0 where
  pub many : length cs₂ ≡ length cs
  pub entries : (i : ℕ) → i < length cs → get_or cs₂ i (pos 0) ≡ get_or cs (f i) (pos 0)

pub record SamePlaces (q q₂ : Places) : Type 0 where
  pub truck : (q₂.x ≡ q.x) × (q₂.y ≡ q.y)
  pub order : ℕ → ℕ
  pub permutes : Permutes (length q.shovels) order
  pub numbers : q₂.shovels ≡ reordered order q.shovels
  pub xs_alike : ReorderedBy order q.xs q₂.xs
  pub ys_alike : ReorderedBy order q.ys q₂.ys
