use mathlib.Core.Path.{refl, sym, ap, ◌∙◌}
use mathlib.Core.List.{List}
use Prim.Native.Nat.{ℕ, ◌≤◌}
use lib.ListN.{length, take}
use Rattle.tsc.specs.declared.State.{State}
use Rattle.tsc.specs.Constants.{most_words}
use Rattle.cycle.proofs.Lists.{take-filled}
use Rattle.records.specs.Fields.{record_bytes}
use Rattle.records.specs.Writing.{recorded_on}
use Rattle.recorded_picks.specs.Recorded.{record_left}
use Rattle.recorded_picks.proofs.Recorded.{has_room, call_told, call_small, call_made}
use Rattle.recorded_pick.proofs.call.pick_recorded.Goals as goal
use Rattle.recorded_pick.proofs.call.pick_recorded.Goals.{Else-lacks_room}

-- past the first test the page has room
roomy : (c : Else-lacks_room) → let a = c.args in (length a.state.now ≤ most_words) × (record_bytes (length a.state.now) ≤ length a.page.now)
roomy c = let a = c.args in has_room (length a.state.now) (length a.page.now) c.lacks_room.ensures c.if-lacks_room.false

pub returns-in-Ok : goal.returns-in-Ok
returns-in-Ok c = let a = c.args in
    let both = call_small a.card.now a.state.now a.shovels.now a.times.now a.truck a.page.now (sym c.in-Ok.ensures) (sym c.lacks_room.ensures ∙ c.if-lacks_room.true) in
    rw c.from.ensures (record { answer = both.0; after = both.1.0; page = both.1.1 })

pub returns-in-Err : goal.returns-in-Err
returns-in-Err c = let a = c.args in
    let both = call_told a.card.now a.state.now a.shovels.now a.times.now a.truck a.page.now c.in-Err.told (sym c.in-Err.ensures) in
    rw c.from-in-Err.ensures (record { answer = both.0; after = both.1.0; page = both.1.1 })

pub load-held-requires : goal.load-held-requires
load-held-requires c = (roomy c).0

pub record_tie-requires : goal.record_tie-requires
record_tie-requires c = roomy (goal.at.record_tie-requires c).Else-lacks_room

pub returns : goal.returns
returns c = let a = c.args in
    let xs = a.state.now in
    let held = ap (λ (s : State). take (length xs) s.words) c.load-held.ensures ∙ take-filled most_words (length xs) xs refl in
    let p = c.pick-picked in let both = call_made a.card.now xs a.shovels.now a.times.now a.truck a.page.now (roomy (goal.at.returns c).Else-lacks_room).1 p.ensures.answer p.ensures.after
    (c.record_tie.ensures ∙ ap (λ (ws : List ℕ). recorded_on (record_left a.truck ws p.result) a.page.now) held) in record { answer = both.0; after = both.1.0; page = both.1.1 }
