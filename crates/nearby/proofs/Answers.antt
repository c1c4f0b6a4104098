-- What is answered to places and a radius: refused or listed, whatever the order of the places.
use mathlib.Core.Path.{◌≡◌, refl, sym, ap, subst, ◌∙◌}
use mathlib.Core.Logic.{◌≢◌, ◌↔◌}
use mathlib.Core.Bool.{Bool, true, false, cond, ◌&&◌}
use mathlib.Core.List.{List}
use Prim.Native.Nat.{ℕ, ◌≤◌, ◌<◌}
use native.Mathlib.Decide.{ℕ_discrete, dec_lt}
use native.Mathlib.Omega.{arith}
use borrow.Author.Tests.{ne_eqb}
use lib.Dec.{eqb}
use lib.IntN.{ℤ}
use lib.ListN.{length, get_or}
use Rattle.cycle.proofs.Count.{count_le}
use Rattle.cycle.proofs.Digits.{length-tabulate, tabulate_ext, get_d_tabulate}
use Rattle.refusals.specs.Refusals.{first_of}
use Rattle.ties.specs.Ties.{most_shovels}
use Rattle.ties.specs.Order.{Permutes}
use Rattle.places.specs.Distances.{square}
use Rattle.places.specs.Places.{Places, distances_of, on_map, is_radius}
use Rattle.places.specs.Order.{SamePlaces}
use Rattle.places.proofs.Distances.{length-distances}
use Rattle.places.proofs.Places.{Passed, places_passed, paired-parts}
use Rattle.places.proofs.Order.{distances-reordered, refusal_alike}
use Rattle.nearby.specs.declared.WithinAnswer.{WithinAnswer}
use Rattle.nearby.specs.Nearby.{is_within, within_count, number_at}
use Rattle.nearby.specs.Calls.{within_checks, listing, no_list, within_radius}
use Rattle.nearby.proofs.Keys.{before_says}
use Rattle.nearby.proofs.Listed.{past_end, at_place, number_is, number_past, listed-exactly, listed-ascending, listed-once}
use Rattle.nearby.proofs.Order.{count-reordered, number-reordered}

module _ (q : Places) (radius : ℤ) where
  pub within-refused : (r : ℕ) → r ≢ 0 → r ≡ first_of (within_checks q radius) → no_list r ≡ within_radius q radius
  unfolding within_radius
  within-refused r ne e = rw (sym e) (simp (ne_eqb r 0 ne))

  length_by : (b : Bool) (r : ℕ) → length (cond b (listing q radius) (no_list r)).shovels ≡ most_shovels
  length_by true r = length-tabulate most_shovels (number_at q.shovels (distances_of q) (square radius))
  length_by false r = refl

  pub answer-length : length (within_radius q radius).shovels ≡ most_shovels
  unfolding within_radius
  answer-length = let r = first_of (within_checks q radius) in length_by (eqb r 0) r

  module _ (z : first_of (within_checks q radius) ≡ 0) where
    pub within-listed : within_radius q radius ≡ listing q radius
    unfolding within_radius
    within-listed = rw z refl

    abbrev distances : List ℕ
    distances = distances_of q

    abbrev limit : ℕ
    limit = square radius

    passed : Passed q.shovels q.xs q.ys (on_map q.x q.y q.xs q.ys && is_radius radius)
    passed = places_passed q.shovels q.xs q.ys _ z

    pub paired_list : length q.shovels ≡ length distances
    paired_list = (paired-parts q.shovels q.xs q.ys passed.is_paired).0 ∙ sym (length-distances q.x q.y q.xs q.ys)

    -- at most 64 are listed
    pub within-few : within_count distances limit ≤ most_shovels
    unfolding within_count
    within-few = omega (arith, count_le (length distances) (is_within distances limit), paired_list, passed.few)

    entry : (p : ℕ) → p < most_shovels → get_or (within_radius q radius).shovels p 0 ≡ number_at q.shovels distances limit p
    entry p l = ap (λ (w : WithinAnswer). get_or w.shovels p 0) within-listed ∙ get_d_tabulate most_shovels (number_at q.shovels distances limit) p l

    counted : (within_radius q radius).count ≡ within_count distances limit
    counted = ap (λ (w : WithinAnswer). w.count) within-listed

    pub answer-exactly : (i : ℕ) → i < length q.shovels → let w = within_radius q radius in
        (get_or distances i 0 ≤ limit) ↔ ((p : ℕ) × (p < w.count) × (get_or w.shovels p 0 ≡ get_or q.shovels i 0))
    answer-exactly i l =
        let h = listed-exactly q.shovels distances limit passed.once paired_list i (omega (arith, paired_list)) in (
          (λ near. let f = h.0 near in (f.0, omega (arith, counted, f.1), entry f.0 (omega (arith, within-few, f.1)) ∙ f.2)),
          (λ f. h.1 (f.0, omega (arith, counted, f.1), sym (entry f.0 (omega (arith, counted, within-few, f.1))) ∙ f.2)),
        )

    pub answer-only : (p : ℕ) → let w = within_radius q radius in p < w.count → (i : ℕ) × (i < length q.shovels) × (get_or w.shovels p 0 ≡ get_or q.shovels i 0)
    answer-only p l =
        let a = at_place q.shovels distances limit passed.once paired_list p (omega (arith, counted)) in (
          a.0,
          omega (arith, paired_list, a.1),
          entry p (omega (arith, counted, within-few)) ∙ number_is q.shovels distances limit passed.once paired_list p a.0 a.1 a.2 a.3,
        )

    pub answer-ascending : (p r i j : ℕ) → let w = within_radius q radius in p < r → r < w.count → i < length q.shovels → j < length q.shovels
        → get_or w.shovels p 0 ≡ get_or q.shovels i 0 → get_or w.shovels r 0 ≡ get_or q.shovels j 0
        → (get_or distances i 0 ≤ get_or distances j 0) × (get_or distances i 0 ≡ get_or distances j 0 → get_or q.shovels i 0 < get_or q.shovels j 0)
    answer-ascending p r i j l lr li lj ep er =
        before_says (get_or distances i 0) (get_or q.shovels i 0) (get_or distances j 0) (get_or q.shovels j 0)
        (listed-ascending q.shovels distances limit passed.once paired_list p r i j l (omega (arith, counted)) (omega (arith, paired_list)) (omega (arith, paired_list))
        (sym (entry p (omega (arith, counted, within-few))) ∙ ep) (sym (entry r (omega (arith, counted, within-few))) ∙ er))

    pub answer-once : (p r : ℕ) → let w = within_radius q radius in p < r → r < w.count → get_or w.shovels p 0 ≢ get_or w.shovels r 0
    answer-once p r l lr e =
        listed-once q.shovels distances limit passed.once paired_list p r l (omega (arith, counted))
        (sym (entry p (omega (arith, counted, within-few))) ∙ e ∙ entry r (omega (arith, counted, within-few)))

    pub answer-past : (p : ℕ) → let w = within_radius q radius in w.count ≤ p → get_or w.shovels p 0 ≡ 0
    answer-past p l = go (dec_lt p most_shovels)
      where
        go : Dec (p < most_shovels) → get_or (within_radius q radius).shovels p 0 ≡ 0
        go (yes lp) = entry p lp ∙ number_past q.shovels distances limit passed.once paired_list p (omega (arith, counted))
        go (no n) = past_end (within_radius q radius).shovels p (omega (arith, answer-length))

-- THE ORDER MAKES NO DIFFERENCE: the same shovels at the same places in any order, the same list, refusals included
pub within-order : (q q₂ : Places) → SamePlaces q q₂ → (radius : ℤ) → within_radius q₂ radius ≡ within_radius q radius
within-order q q₂ s radius = go (ℕ_discrete (first_of (within_checks q radius)) 0)
  where
    alike : first_of (within_checks q₂ radius) ≡ first_of (within_checks q radius)
    alike = refusal_alike q q₂ s (λ m. m && is_radius radius)

    go : Dec (first_of (within_checks q radius) ≡ 0) → within_radius q₂ radius ≡ within_radius q radius
    go (no n) = sym (within-refused q₂ radius _ n (sym alike)) ∙ within-refused q radius _ n refl
    go (yes z) = within-listed q₂ radius (alike ∙ z) ∙ same ∙ sym (within-listed q radius z)
      where
        ok : Passed q.shovels q.xs q.ys (on_map q.x q.y q.xs q.ys && is_radius radius)
        ok = places_passed q.shovels q.xs q.ys _ z

        same : listing q₂ radius ≡ listing q radius
        same =
            let h = distances-reordered q q₂ s ok.is_paired in
            let f = h.order in
            let paired = paired_list q radius z in
            let p : Permutes (length (distances_of q)) f = subst (λ (n : ℕ). Permutes n f) paired h.permutes in
            let limit = square radius in
            rw (h.numbers, h.durations, count-reordered f q.shovels (distances_of q) limit p ok.once paired)
            (ap (λ (ns : List ℕ). record { shovels = ns; count = within_count (distances_of q) limit; refusal = 0 })
            (tabulate_ext most_shovels _ _ (λ i l. number-reordered f q.shovels (distances_of q) limit p ok.once paired i)))
