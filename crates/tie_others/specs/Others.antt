-- What inner functions answer on the way to the least change. The contracts of the calls do without.
use Rattle.std.specs.Prelude.{◌≡◌, ◌≢◌, Bool, cond, ◌&&◌, List, ℕ, ◌+◌, ◌≤◌, ◌<◌, eqb, ltb, get_or}
use Rattle.cycle.specs.Notation.{one, count}
use Rattle.changes.specs.Change.{most_time}
use Rattle.changes.specs.Others.{other_at}
use Rattle.tie_others.specs.declared.others.Others.{Others}

-- one shovel more, if it is another than the one left out, of time t, and whether its number is lower
unfoldable pub joined_by : Others → Bool → ℕ → Bool → Others
joined_by o other t lower =
    let first : Others = record { time = t; ties = 1; lower = one lower } in
    let further : Others = record { time = t; ties = o.ties + 1; lower = o.lower + one lower } in
    cond other (cond (ltb t o.time) first (cond (eqb t o.time) further o)) o

-- the first n shovels but the one at place i, if there are any: their least time, how many have it, and how many of these have a lower number than y
pub record IsOthers (shovels times : List ℕ) (i y n : ℕ) (o : Others) : Type 0 where
  pub least : (j : ℕ) → j < n → j ≢ i → o.time ≤ get_or times j 0
  pub ties : o.ties ≡ count n (other_at times i o.time)
  pub lower : o.lower ≡ count n (λ j. other_at times i o.time j && ltb (get_or shovels j 0) y)
  pub some : (j : ℕ) → j < n → j ≢ i → 0 < o.ties
  pub none : o.ties ≡ 0 → o.time ≡ most_time
