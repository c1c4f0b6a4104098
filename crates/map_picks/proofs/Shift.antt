-- The standby server, with timed picks and picks by the map in any mix: the same calls from the same state, each list in an order of its own, the same answers
-- throughout and the same state at the end. And what a pick by the map takes can be taken back.
use mathlib.Core.Path.{◌≡◌, refl, sym, ap, ap₂, ◌∙◌}
use mathlib.Core.List.{List, [], ◌∷◌}
use Prim.Native.Nat.{ℕ}
use native.Mathlib.Decide.{ℕ_discrete}
use Rattle.cycle.specs.Notation.{iterate}
use Rattle.draws.specs.Calls.{stepped_back}
use Rattle.places.specs.Places.{Places, distances_of}
use Rattle.picks.specs.declared.Pick.{Pick}
use Rattle.picks.specs.Picks.{words_taken}
use Rattle.picks.proofs.Choice.{pick_order}
use Rattle.picks.proofs.Steps.{pick_undone}
use Rattle.map_picks.specs.MapPicks.{map_pick_refusal, map_picking, map_picked}
use Rattle.map_picks.specs.Shift.{Call, by_time, by_map, answer_to, state_left, mixed_answers, mixed_state, SameCall, AlikeCalls}
use Rattle.map_picks.proofs.Timed.{map-refused, map-passed, map-timed}
use Rattle.map_picks.proofs.Order.{map_pick_order}

call_alike : (bytes state : List ℕ) (c d : Call) → SameCall c d → (answer_to bytes state d ≡ answer_to bytes state c) × (state_left bytes state d ≡ state_left bytes state c)
call_alike bytes state (by_time q) (by_time r) h = pick_order bytes state q.shovels q.times r.shovels r.times h
call_alike bytes state (by_map q) (by_map r) h = map_pick_order bytes state q r h
call_alike bytes state (by_time q) (by_map r) h = absurd h
call_alike bytes state (by_map q) (by_time r) h = absurd h

pub mixed_alike : (bytes state : List ℕ) (cs ds : List Call) → AlikeCalls cs ds
    → (mixed_answers bytes state ds ≡ mixed_answers bytes state cs) × (mixed_state bytes state ds ≡ mixed_state bytes state cs)
unfolding mixed_answers mixed_state AlikeCalls
mixed_alike bytes state [] [] h = (refl, refl)
mixed_alike bytes state [] (d ∷ ds) h = absurd h
mixed_alike bytes state (c ∷ cs) [] h = absurd h
mixed_alike bytes state (c ∷ cs) (d ∷ ds) h =
    let o = call_alike bytes state c d h.0 in
    let ih = mixed_alike bytes (state_left bytes state c) cs ds h.1 in (
      ap₂ (λ (a : Pick) (rest : List Pick). a ∷ rest) o.0 (ap (λ (ys : List ℕ). mixed_answers bytes ys ds) o.1 ∙ ih.0),
      ap (λ (ys : List ℕ). mixed_state bytes ys ds) o.1 ∙ ih.1,
    )

-- as many steps back as words were taken undo a pick by the map, for every input
module _ (bytes state : List ℕ) (q : Places) where
  none-taken : (p : Pick) (ys : List ℕ) → words_taken p ≡ 0 → ys ≡ state → iterate (stepped_back bytes) (words_taken p) ys ≡ state
  unfolding iterate
  none-taken p ys e h = rw e h

  pub map-undone : iterate (stepped_back bytes) (words_taken (map_picking bytes state q)) (map_picked bytes state q) ≡ state
  map-undone = go (ℕ_discrete (map_pick_refusal bytes state q) 0)
    where
      go : Dec (map_pick_refusal bytes state q ≡ 0) → iterate (stepped_back bytes) (words_taken (map_picking bytes state q)) (map_picked bytes state q) ≡ state
      go (yes z) =
          let p = (map-passed bytes state q z).0 in
          let t = map-timed bytes state q p.is_paired p.all_allowed in
          ap₂ (λ (a : Pick) (ys : List ℕ). iterate (stepped_back bytes) (words_taken a) ys) t.0 t.1 ∙ pick_undone bytes state q.shovels (distances_of q)
      go (no n) = let r = map-refused bytes state q (map_pick_refusal bytes state q) n refl in none-taken (map_picking bytes state q) (map_picked bytes state q) (sym (ap words_taken r.0)) (sym r.1)
