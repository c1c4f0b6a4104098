-- The order of the places makes no difference to what is refused of them, and the distances come in the same order as the shovels.
use mathlib.Core.Path.{◌≡◌, refl, sym, ap, subst}
use mathlib.Core.Bool.{Bool, true, false}
use mathlib.Core.List.{List}
use Prim.Native.Nat.{ℕ}
use native.Mathlib.Omega.{arith}
use lib.IntN.{ℤ, pos}
use lib.ListN.{length, get_or}
use Rattle.cycle.proofs.Digits.{tabulate_ext}
use Rattle.refusals.specs.Refusals.{first_of}
use Rattle.ties.specs.Order.{Permutes, SameShovels}
use Rattle.ties.proofs.Order.{every_permute, length-reordered, twice-reordered}
use Rattle.places.specs.Distances.{distances}
use Rattle.places.specs.Places.{Places, distances_of, paired, is_on_map, all_on_map, on_map, place_checks}
use Rattle.places.specs.Order.{ReorderedBy, SamePlaces}
use Rattle.places.proofs.Distances.{length-distances, distance_is}
use Rattle.places.proofs.Places.{paired-parts}

map-reordered : (f : ℕ → ℕ) (cs cs₂ : List ℤ) → Permutes (length cs) f → ReorderedBy f cs cs₂ → all_on_map cs₂ ≡ all_on_map cs
unfolding all_on_map
map-reordered f cs cs₂ p r =
    rw r.many
    (every_permute (length cs) f (λ i. is_on_map (get_or cs₂ i (pos 0))) (λ i. is_on_map (get_or cs i (pos 0))) p (λ i l. ap is_on_map (r.entries i l)))

module _ (q q₂ : Places) (s : SamePlaces q q₂) where
  pub paired_alike : paired q₂.shovels q₂.xs q₂.ys ≡ paired q.shovels q.xs q.ys
  paired_alike = rw (s.numbers, length-reordered s.order q.shovels, s.xs_alike.many, s.ys_alike.many) refl

  module _ (even : paired q.shovels q.xs q.ys ≡ true) where
    permutes_for : (cs : List ℤ) → length q.shovels ≡ length cs → Permutes (length cs) s.order
    permutes_for cs e = subst (λ (n : ℕ). Permutes n s.order) e s.permutes

    pub on_map_alike : on_map q₂.x q₂.y q₂.xs q₂.ys ≡ on_map q.x q.y q.xs q.ys
    on_map_alike =
        let e = paired-parts q.shovels q.xs q.ys even in
        rw (
          s.truck.0,
          s.truck.1,
          map-reordered s.order q.xs q₂.xs (permutes_for q.xs e.0) s.xs_alike,
          map-reordered s.order q.ys q₂.ys (permutes_for q.ys e.1) s.ys_alike,
        ) refl

    pub distances-reordered : SameShovels q.shovels (distances_of q) q₂.shovels (distances_of q₂)
    unfolding distances
    distances-reordered =
        let e = paired-parts q.shovels q.xs q.ys even in
        let below = (permutes_for q.xs e.0).below in
        record {
          order = s.order;
          permutes = s.permutes;
          numbers = s.numbers;
          durations =
              rw (s.xs_alike.many, length-distances q.x q.y q.xs q.ys)
              (tabulate_ext (length q.xs) _ _
              (λ i l.
              rw (s.truck.0, s.truck.1, s.xs_alike.entries i l, s.ys_alike.entries i (omega (arith, e.0, e.1)))
              (sym (distance_is q.x q.y q.xs q.ys (s.order i) (below i l)))));
        }

  -- whatever is asked beside the map
  pub refusal_alike : (ask : Bool → Bool) → first_of (place_checks q₂.shovels q₂.xs q₂.ys (ask (on_map q₂.x q₂.y q₂.xs q₂.ys)))
      ≡ first_of (place_checks q.shovels q.xs q.ys (ask (on_map q.x q.y q.xs q.ys)))
  unfolding place_checks first_of
  refusal_alike ask = go (paired q.shovels q.xs q.ys) refl
    where
      go : (b : Bool) → paired q.shovels q.xs q.ys ≡ b → first_of (place_checks q₂.shovels q₂.xs q₂.ys (ask (on_map q₂.x q₂.y q₂.xs q₂.ys)))
          ≡ first_of (place_checks q.shovels q.xs q.ys (ask (on_map q.x q.y q.xs q.ys)))
      go false e = rw (paired_alike, e) refl
      go true e = rw (paired_alike, on_map_alike e, s.numbers, length-reordered s.order q.shovels, twice-reordered s.order q.shovels s.permutes) refl
