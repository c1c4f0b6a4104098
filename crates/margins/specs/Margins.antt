-- How near a pick was (document 02, Four): the least change of one shovel's time that sends the truck elsewhere from the same state, for any bytes, words and lists.
use Rattle.std.specs.Prelude.{◌≡◌, ◌≢◌, List, ℕ, get_or}
use Rattle.refusals.specs.Refusals.{number}
use Rattle.refusals.specs.declared.Refusal.TheVariants.{NoSuchChange}
use Rattle.changes.specs.declared.Change.{Change}
use Rattle.changes.specs.Change.{changed, Counts, LeastChange}
use Rattle.picks.specs.declared.Pick.{Pick}
use Rattle.picks.specs.declared.Pick.TheVariants as pick
use Rattle.picks.specs.Picks.{picking}
use Rattle.margins.specs.declared.Nearest.{Nearest}
use Rattle.std.specs.Prelude.{Result, Ok, Err}

-- two picks that are not refused, to shovels of different numbers
unfoldable pub Apart : Pick → Pick → Type 0
Apart (pick.Shovel s k t) (pick.Shovel s₂ k₂ t₂) = s₂ ≢ s
Apart (pick.Shovel s k t) (pick.Refused r) = ⊥
Apart (pick.Refused r) p = ⊥

module _ (bytes xs shovels times : List ℕ) where
  -- changed times that send the truck elsewhere; a change counts where it makes such
  abbrev pub Elsewhere : List ℕ → Type 0
  Elsewhere ys = Apart (picking bytes xs shovels times) (picking bytes xs shovels ys)

  -- a change as it is told, with the changed pick
  pub record Tells (c : Change) (n : Nearest) : Type 0 where
    pub seconds : n.seconds ≡ c.seconds
    pub shovel : n.changed ≡ get_or shovels c.place 0
    pub direction : n.raised ≡ c.raised
    pub changed_pick : picking bytes xs shovels (changed times c) ≡ pick.Shovel n.shovel n.ties n.taken

  -- what is answered, by the unchanged pick: its refusal; or else 19 where no change counts, or the least that does
  abbrev pub Answer : Pick → Result Nearest ℕ → Type 0
  Answer (pick.Refused r) m = m ≡ Err r
  Answer (pick.Shovel s k t) (Err r) = (r ≡ number NoSuchChange) × ((c : Change) → Counts times Elsewhere c → ⊥)
  Answer (pick.Shovel s k t) (Ok n) = (c : Change) × LeastChange shovels times Elsewhere c × Tells c n

  unfoldable pub IsMargin : Result Nearest ℕ → Type 0
  IsMargin m = Answer (picking bytes xs shovels times) m
