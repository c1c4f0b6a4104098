-- What a pick by the map answers and what the lent state words are after it (document 02, Ten), for any bytes, words and places: the timed pick's definitions, with
-- squared distances in place of times.
use Rattle.std.specs.Prelude.{cond, List, ◌++◌, ℕ, eqb}
use Rattle.refusals.specs.Refusals.{Check, first_of}
use Rattle.card_format.specs.Reading.{card_of}
use Rattle.draws.specs.Calls.{call_checks}
use Rattle.ties.specs.Ties.{ties}
use Rattle.samples.specs.Samples.{tie_checks}
use Rattle.places.specs.Places.{Places, distances_of, on_map, place_checks}
use Rattle.picks.specs.declared.Pick.{Pick}
use Rattle.picks.specs.declared.Pick.TheVariants.{Refused}
use Rattle.picks.specs.Picks.{picking, picked}

-- what it looks at: 1 to 9, then 10 and 11, then 12 to 15, then 25, then 18
abbrev pub map_pick_checks : List ℕ → List ℕ → Places → List Check
map_pick_checks bytes state q =
    call_checks bytes state
    ++ (place_checks q.shovels q.xs q.ys (on_map q.x q.y q.xs q.ys) ++ tie_checks (card_of bytes).width (ties (distances_of q)))

-- the refusal that it tells; 0 where none applies
unfoldable pub map_pick_refusal : List ℕ → List ℕ → Places → ℕ
map_pick_refusal bytes state q = first_of (map_pick_checks bytes state q)

-- what it answers: as the timed pick by the distances, or the refusal
unfoldable pub map_picking : List ℕ → List ℕ → Places → Pick
map_picking bytes state q =
    let r = map_pick_refusal bytes state q in
    cond (eqb r 0) (picking bytes state q.shovels (distances_of q)) (Refused r)

-- the state words after it; as lent where it refuses
unfoldable pub map_picked : List ℕ → List ℕ → Places → List ℕ
map_picked bytes state q = cond (eqb (map_pick_refusal bytes state q) 0) (picked bytes state q.shovels (distances_of q)) state
