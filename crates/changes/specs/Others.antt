-- What inner functions answer on the way to the least change. The contracts of the calls do without.
use Rattle.std.specs.Prelude.{Bool, not, ◌&&◌, ◌||◌, List, ℕ, ◌+◌, ◌-◌, eqb, ltb, get_or}
use Rattle.changes.specs.declared.Change.{Change}

-- whether shovel j is another than the one at place i and has time x
abbrev pub other_at : List ℕ → ℕ → ℕ → ℕ → Bool
other_at times i x j = not (eqb j i) && eqb (get_or times j 0) x

-- the change of the time at place i to v
abbrev pub change_to : List ℕ → ℕ → ℕ → Change
change_to times i v = record { place = i; raised = ltb (get_or times i 0) v; seconds = (v - get_or times i 0) + (get_or times i 0 - v) }

-- whether c comes before e
unfoldable pub before : List ℕ → Change → Change → Bool
before shovels c e =
    let a = get_or shovels c.place 0 in
    let b = get_or shovels e.place 0 in
    ltb c.seconds e.seconds || (eqb c.seconds e.seconds && (ltb a b || (eqb a b && (not c.raised && e.raised))))
