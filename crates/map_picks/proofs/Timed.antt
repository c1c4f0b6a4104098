-- A pick by the map is the timed pick by its squared distances, refusals included, wherever 12 and 25 do not apply.
use mathlib.Core.Path.{◌≡◌, refl, sym, ◌∙◌}
use mathlib.Core.Logic.{◌≢◌}
use mathlib.Core.Bool.{Bool, true}
use mathlib.Core.List.{List, ◌++◌}
use Prim.Native.Nat.{ℕ}
use native.Mathlib.Decide.{ℕ_discrete}
use borrow.Author.Tests.{eq-eqb, ne_eqb}
use lib.Dec.{eqb}
use lib.ListN.{length}
use Rattle.refusals.specs.Refusals.{Check, first_of}
use Rattle.refusals.proofs.Refusals.{first-left, first_both, first_ext}
use Rattle.card_format.specs.Reading.{card_of}
use Rattle.draws.specs.Calls.{call_checks}
use Rattle.ties.specs.Ties.{ties}
use Rattle.tie_list.specs.Checks.{list_checks}
use Rattle.samples.specs.Samples.{tie_checks}
use Rattle.places.specs.Places.{Places, distances_of, paired, on_map, place_checks}
use Rattle.places.proofs.Distances.{length-distances}
use Rattle.places.proofs.Places.{Passed, places_passed, paired-parts}
use Rattle.picks.specs.declared.Pick.TheVariants.{Refused}
use Rattle.picks.specs.Picks.{pick_refusal, picking, picked}
use Rattle.picks.proofs.Picking.{picking-refused}
use Rattle.map_picks.specs.MapPicks.{map_pick_refusal, map_picking, map_picked}

module _ (bytes state : List ℕ) (q : Places) where
  abbrev mapped : Bool
  mapped = on_map q.x q.y q.xs q.ys

  -- 12 to 15 and 25; 18
  abbrev pub here : List Check
  here = place_checks q.shovels q.xs q.ys mapped

  abbrev many : List Check
  many = tie_checks (card_of bytes).width (ties (distances_of q))

  pub map-refused : (r : ℕ) → r ≢ 0 → r ≡ map_pick_refusal bytes state q → (Refused r ≡ map_picking bytes state q) × (state ≡ map_picked bytes state q)
  unfolding map_picking map_picked
  map-refused r ne e = rw (sym e) (simp (ne_eqb r 0 ne), simp (ne_eqb r 0 ne))

  -- where the places are refused, nothing behind them is looked at
  pub refused_here : first_of here ≢ 0 → (first_of (call_checks bytes state ++ here) ≡ map_pick_refusal bytes state q) × (first_of (call_checks bytes state ++ here) ≢ 0)
  unfolding map_pick_refusal
  refused_here ne = (
    first_ext (call_checks bytes state) here (here ++ many) (sym (first-left here many ne)),
    (λ z. ne (first_both (call_checks bytes state) here z).1),
  )

  -- where neither 12 nor 25 applies, all else that is looked at is the timed pick's
  same_later : paired q.shovels q.xs q.ys ≡ true → mapped ≡ true → eqb (length q.shovels) (length (distances_of q)) ≡ true
      → first_of (here ++ many) ≡ first_of (list_checks q.shovels (distances_of q) ++ many)
  unfolding place_checks list_checks first_of
  same_later e m k = rw (e, m, k) refl

  passed_is : map_pick_refusal bytes state q ≡ 0
      → (map_picking bytes state q ≡ picking bytes state q.shovels (distances_of q)) × (map_picked bytes state q ≡ picked bytes state q.shovels (distances_of q))
  unfolding map_picking map_picked
  passed_is z = rw z (refl, refl)

  module _ (even : paired q.shovels q.xs q.ys ≡ true) (m : mapped ≡ true) where
    timed-refusal : map_pick_refusal bytes state q ≡ pick_refusal bytes state q.shovels (distances_of q)
    unfolding map_pick_refusal pick_refusal
    timed-refusal =
        let as_many = (paired-parts q.shovels q.xs q.ys even).0 ∙ sym (length-distances q.x q.y q.xs q.ys) in
        first_ext (call_checks bytes state) (here ++ many) (list_checks q.shovels (distances_of q) ++ many)
        (same_later even m (eq-eqb (length q.shovels) (length (distances_of q)) as_many))

    pub map-timed : (map_picking bytes state q ≡ picking bytes state q.shovels (distances_of q)) × (map_picked bytes state q ≡ picked bytes state q.shovels (distances_of q))
    map-timed = go (ℕ_discrete (map_pick_refusal bytes state q) 0)
      where
        go : Dec (map_pick_refusal bytes state q ≡ 0)
            → (map_picking bytes state q ≡ picking bytes state q.shovels (distances_of q)) × (map_picked bytes state q ≡ picked bytes state q.shovels (distances_of q))
        go (yes z) = passed_is z
        go (no n) =
            let a = map-refused (map_pick_refusal bytes state q) n refl in
            let b = picking-refused bytes state q.shovels (distances_of q) (map_pick_refusal bytes state q) n timed-refusal in
            (sym a.0 ∙ b.0, sym a.1 ∙ b.1)

  -- no refusal: none of the places, and none of the timed pick
  pub map-passed : map_pick_refusal bytes state q ≡ 0 → Passed q.shovels q.xs q.ys mapped × (pick_refusal bytes state q.shovels (distances_of q) ≡ 0)
  unfolding map_pick_refusal
  map-passed z =
      let p = places_passed q.shovels q.xs q.ys mapped (first_both here many (first_both (call_checks bytes state) (here ++ many) z).1).0 in
      (p, sym (timed-refusal p.is_paired p.all_allowed) ∙ z)
