-- What the search for the least change answers. The contracts of the calls do without.
use Rattle.std.specs.Prelude.{cond, ◌&&◌, List, ℕ, ◌<◌, ltb, Option, None, Some}
use Rattle.changes.specs.declared.Change.{Change}
use Rattle.changes.specs.Change.{changed, Counts, NoLater}
use Rattle.changes.specs.Others.{change_to}
use Rattle.change_order.specs.First.{comes_first}
use Rattle.outcomes.specs.declared.Known.{Known}
use Rattle.outcomes.specs.declared.outcome.Varied.{Varied}
use Rattle.outcomes.specs.Elsewhere.{elsewhere}

-- the best change once c is tried
unfoldable pub attempted : Known → List ℕ → List ℕ → Change → Option Change → Option Change
attempted known shovels times c best = cond (ltb 0 c.seconds && (comes_first shovels c best && elsewhere known shovels (changed times c))) (Some c) best

-- the best change once the shovel's time v is tried
abbrev pub attempted_to : Varied → ℕ → Option Change → Option Change
attempted_to s v best = attempted s.known.now s.shovels.now s.times.now (change_to s.times.now s.place v) best

module _ (shovels times : List ℕ) (Wanted : List ℕ → Type 0) where
  unfoldable pub Sound : Option Change → Type 0
  Sound None = Unit {0}
  Sound (Some c) = Counts times Wanted c

  unfoldable pub LeadsOver : Option Change → Change → Type 0
  LeadsOver None e = Counts times Wanted e → ⊥
  LeadsOver (Some c) e = Counts times Wanted e → NoLater shovels c e

  -- the least change of the first n shovels that counts, if there is one
  pub record BestOf (n : ℕ) (best : Option Change) : Type 0 where
    pub sound : Sound best
    pub leads : (e : Change) → e.place < n → LeadsOver best e
