-- The order of the places makes no difference to a pick by the map: the same shovels at the same places, the same answer and the same state, refusals included.
use mathlib.Core.Path.{◌≡◌, sym, ◌∙◌}
use mathlib.Core.List.{List, ◌++◌}
use Prim.Native.Nat.{ℕ}
use native.Mathlib.Decide.{ℕ_discrete}
use Rattle.refusals.specs.Refusals.{first_of}
use Rattle.refusals.proofs.Refusals.{first_ext}
use Rattle.draws.specs.Calls.{call_checks}
use Rattle.places.specs.Places.{Places, distances_of, on_map}
use Rattle.places.specs.Order.{SamePlaces}
use Rattle.places.proofs.Places.{places_passed}
use Rattle.places.proofs.Order.{paired_alike, on_map_alike, distances-reordered, refusal_alike}
use Rattle.picks.proofs.Choice.{pick_order}
use Rattle.map_picks.specs.MapPicks.{map_picking, map_picked}
use Rattle.map_picks.proofs.Timed.{here, map-refused, refused_here, map-timed}

pub map_pick_order : (bytes state : List ℕ) (q q₂ : Places) → SamePlaces q q₂
    → (map_picking bytes state q₂ ≡ map_picking bytes state q) × (map_picked bytes state q₂ ≡ map_picked bytes state q)
map_pick_order bytes state q q₂ s = go (ℕ_discrete (first_of (here bytes state q)) 0)
  where
    alike : first_of (here bytes state q₂) ≡ first_of (here bytes state q)
    alike = refusal_alike q q₂ s (λ b. b)

    go : Dec (first_of (here bytes state q) ≡ 0)
        → (map_picking bytes state q₂ ≡ map_picking bytes state q) × (map_picked bytes state q₂ ≡ map_picked bytes state q)
    go (yes z) =
        let p = places_passed q.shovels q.xs q.ys (on_map q.x q.y q.xs q.ys) z in
        let e = p.is_paired in
        let m = p.all_allowed in
        let a = map-timed bytes state q e m in
        let b = map-timed bytes state q₂ (paired_alike q q₂ s ∙ e) (on_map_alike q q₂ s e ∙ m) in
        let o = pick_order bytes state q.shovels (distances_of q) q₂.shovels (distances_of q₂) (distances-reordered q q₂ s e) in
        (b.0 ∙ o.0 ∙ sym a.0, b.1 ∙ o.1 ∙ sym a.1)
    go (no n) =
        let a = refused_here bytes state q n in
        let b = refused_here bytes state q₂ (λ z. n (sym alike ∙ z)) in
        let r : ℕ = first_of (call_checks bytes state ++ here bytes state q) in
        let f = map-refused bytes state q r a.1 a.0 in
        let g = map-refused bytes state q₂ r a.1 (sym (first_ext (call_checks bytes state) _ _ alike) ∙ b.0) in
        (sym g.0 ∙ f.0, sym g.1 ∙ f.1)
