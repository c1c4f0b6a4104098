-- Picks by time and by the map, in any mix, one after the other as over a shift: each begins with the state that the one before it left.
use Rattle.std.specs.Prelude.{List, [], ◌∷◌, ℕ}
use Rattle.ties.specs.Order.{SameShovels}
use Rattle.places.specs.Places.{Places}
use Rattle.places.specs.Order.{SamePlaces}
use Rattle.picks.specs.declared.Pick.{Pick}
use Rattle.picks.specs.Picks.{picking, picked}
use Rattle.picks.specs.Shift.{Request}
use Rattle.map_picks.specs.MapPicks.{map_picking, map_picked}

-- what a server hands over for a truck
pub data Call : Type 0 where
  by_time : Request → Call
  by_map : Places → Call

-- what it comes to from a state: the answer, and the state after
abbrev pub answer_to : List ℕ → List ℕ → Call → Pick
answer_to bytes state (by_time q) = picking bytes state q.shovels q.times
answer_to bytes state (by_map q) = map_picking bytes state q

abbrev pub state_left : List ℕ → List ℕ → Call → List ℕ
state_left bytes state (by_time q) = picked bytes state q.shovels q.times
state_left bytes state (by_map q) = map_picked bytes state q

-- over a shift: the answers, and the state words at its end
unfoldable pub mixed_answers : List ℕ → List ℕ → List Call → List Pick
mixed_answers bytes state [] = []
mixed_answers bytes state (c ∷ cs) = answer_to bytes state c ∷ mixed_answers bytes (state_left bytes state c) cs

unfoldable pub mixed_state : List ℕ → List ℕ → List Call → List ℕ
mixed_state bytes state [] = state
mixed_state bytes state (c ∷ cs) = mixed_state bytes (state_left bytes state c) cs

-- the same calls, each list in an order of its own
abbrev pub SameCall : Call → Call → Type 0
SameCall (by_time q) (by_time r) = SameShovels q.shovels q.times r.shovels r.times
SameCall (by_map q) (by_map r) = SamePlaces q r
SameCall (by_time q) (by_map r) = ⊥
SameCall (by_map q) (by_time r) = ⊥

unfoldable pub AlikeCalls : List Call → List Call → Type 0
AlikeCalls [] [] = Unit {0}
AlikeCalls [] (d ∷ ds) = ⊥
AlikeCalls (c ∷ cs) [] = ⊥
AlikeCalls (c ∷ cs) (d ∷ ds) = SameCall c d × AlikeCalls cs ds
