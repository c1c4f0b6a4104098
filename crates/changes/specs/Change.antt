-- One shovel's time changed, and the least change that counts (document 02, Four).
use Rattle.std.specs.Prelude.{◌≡◌, Bool, true, false, List, ℕ, ◌+◌, ◌-◌, ◌≤◌, ◌<◌, length, get_or, set}
use Rattle.changes.specs.declared.Change.{Change}

-- the greatest time
abbrev pub most_time : ℕ
most_time = 4294967295

-- time t raised, or else lowered, by d seconds
unfoldable pub moved : Bool → ℕ → ℕ → ℕ
moved true t d = t + d
moved false t d = t - d

-- it is still a time then
unfoldable pub Within : Bool → ℕ → ℕ → Type 0
Within true t d = t + d ≤ most_time
Within false t d = d ≤ t

-- the times after a change
unfoldable pub changed : List ℕ → Change → List ℕ
changed times c = set times c.place (moved c.raised (get_or times c.place 0) c.seconds)

-- a change, of at least a second, after which the times are as wanted
pub record Counts (times : List ℕ) (Wanted : List ℕ → Type 0) (c : Change) : Type 0 where
  pub listed : c.place < length times
  pub some : 1 ≤ c.seconds
  pub within : Within c.raised (get_or times c.place 0) c.seconds
  pub wanted : Wanted (changed times c)

-- e does not come before c. First come fewer seconds, then the lower number of the changed shovel, then lowered before raised
pub record NoLater (shovels : List ℕ) (c e : Change) : Type 0 where
  pub seconds : c.seconds ≤ e.seconds
  pub number : c.seconds ≡ e.seconds → get_or shovels c.place 0 ≤ get_or shovels e.place 0
  pub direction : c.seconds ≡ e.seconds → get_or shovels c.place 0 ≡ get_or shovels e.place 0 → c.raised ≡ true → e.raised ≡ true

-- of the changes that count, none comes before it
pub record LeastChange (shovels times : List ℕ) (Wanted : List ℕ → Type 0) (c : Change) : Type 0 where
  pub counts : Counts times Wanted c
  pub least : (e : Change) → Counts times Wanted e → NoLater shovels c e
