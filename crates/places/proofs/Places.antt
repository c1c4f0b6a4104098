-- What is on the map, and what follows of places that are not refused.
use mathlib.Core.Path.{◌≡◌, refl, sym, ap, subst, ◌∙◌}
use mathlib.Core.Logic.{◌↔◌}
use mathlib.Core.Bool.{Bool, true, false, ◌&&◌, and-eq-true_iff, true≢false}
use mathlib.Core.List.{List}
use Prim.Native.Nat.{ℕ, ◌≤◌, ◌<◌}
use native.Mathlib.Omega.{arith}
use borrow.Author.Tests.{ltb-false, le-leb, leb-true, eqb-true, eqb-false, not-false}
use lib.Dec.{eqb}
use lib.IntN.{ℤ, pos, negsuc}
use lib.ListN.{length, get_or}
use mir.Syntax.{w32}
use mir.Val.{SFits}
use Rattle.cycle.proofs.Every.{every_at}
use Rattle.refusals.specs.Refusals.{first_of, NoneApplies}
use Rattle.refusals.proofs.Refusals.{none_first}
use Rattle.ties.specs.Ties.{most_shovels, twice}
use Rattle.places.specs.Distances.{distances}
use Rattle.places.specs.Places.{most_radius, most_squared, paired, is_on_map, all_on_map, on_map, is_radius, place_checks, Measurable}
use Rattle.places.proofs.Signed.{read, read_back}
use Rattle.places.proofs.Distances.{squared_le, distance_is}

-- ---- the test of a radius

pub radius_is : (r : ℤ) → (is_radius r ≡ true) ↔ ((n : ℕ) × (r ≡ pos n) × (n ≤ most_radius))
radius_is (pos n) = ((λ h. (n, refl, leb-true n most_radius h)), (λ f. ap is_radius f.1 ∙ le-leb f.0 most_radius f.2))
radius_is (negsuc n) = ((λ h. absurd (true≢false (sym h))), (λ f. ap is_radius f.1 ∙ le-leb f.0 most_radius f.2))

-- ---- what is known of places that are on the map

module _ (x y : ℤ) (xs ys : List ℤ) (h : on_map x y xs ys ≡ true) where
  parts : (is_on_map x ≡ true) × (is_on_map y ≡ true) × (all_on_map xs ≡ true) × (all_on_map ys ≡ true)
  parts =
      let a = (and-eq-true_iff (is_on_map x && is_on_map y && all_on_map xs) (all_on_map ys)).0 h in
      let b = (and-eq-true_iff (is_on_map x && is_on_map y) (all_on_map xs)).0 a.0 in
      let c = (and-eq-true_iff (is_on_map x) (is_on_map y)).0 b.0 in
      (c.0, c.1, b.1, a.1)

  pub truck-mapped : (is_on_map x ≡ true) × (is_on_map y ≡ true)
  truck-mapped = (parts.0, parts.1)

  pub shovel-mapped : (i : ℕ) → i < length xs → i < length ys → (is_on_map (get_or xs i (pos 0)) ≡ true) × (is_on_map (get_or ys i (pos 0)) ≡ true)
  unfolding all_on_map
  shovel-mapped i lx ly = (every_at (length xs) (λ i. is_on_map (get_or xs i (pos 0))) parts.2 i lx, every_at (length ys) (λ i. is_on_map (get_or ys i (pos 0))) parts.3 i ly)

-- no squared distance is larger
pub distance_le : {x y : ℤ} {xs ys : List ℤ} → Measurable x y xs ys → (i : ℕ) → i < length xs → get_or (distances x y xs ys) i 0 ≤ most_squared
distance_le {x} {y} {xs} {ys} m i l =
    let t = truck-mapped x y xs ys m.mapped in
    let s = shovel-mapped x y xs ys m.mapped i l (omega (arith, m.even)) in
    rw (distance_is x y xs ys i l) (squared_le x y _ _ t.0 t.1 s.0 s.1)

-- ---- what is known of places that are not refused

pub paired-parts : (shovels : List ℕ) (xs ys : List ℤ) → paired shovels xs ys ≡ true → (length shovels ≡ length xs) × (length shovels ≡ length ys)
paired-parts shovels xs ys h =
    let e = (and-eq-true_iff (eqb (length shovels) (length xs)) (eqb (length shovels) (length ys))).0 h in
    (eqb-true (length shovels) (length xs) e.0, eqb-true (length shovels) (length ys) e.1)

pub record Passed (shovels : List ℕ) (xs ys : List ℤ) (allowed : Bool) : Type 0 where
  pub is_paired : paired shovels xs ys ≡ true
  pub some : 0 < length shovels
  pub few : length shovels ≤ most_shovels
  pub once : twice shovels ≡ false
  pub all_allowed : allowed ≡ true

pub places_passed : (shovels : List ℕ) (xs ys : List ℤ) (allowed : Bool) → first_of (place_checks shovels xs ys allowed) ≡ 0 → Passed shovels xs ys allowed
unfolding place_checks NoneApplies
places_passed shovels xs ys allowed z =
    let h = none_first (place_checks shovels xs ys allowed) z in
    record {
      is_paired = not-false _ h.0;
      some = omega (arith, eqb-false (length shovels) 0 h.1.0);
      few = ltb-false most_shovels (length shovels) h.1.1.0;
      once = h.1.1.1.0;
      all_allowed = not-false allowed h.1.1.1.1.0;
    }

-- ---- coordinates as the machine reads them back

pub measured_read : {x y : ℤ} {xs ys : List ℤ} → SFits w32 x → SFits w32 y → Measurable x y xs ys → Measurable (read x) (read y) xs ys
measured_read {x} {y} {xs} {ys} fx fy m = subst (λ (z : ℤ). Measurable (read x) z xs ys) (sym (read_back fy)) (subst (λ (z : ℤ). Measurable z y xs ys) (sym (read_back fx)) m)

module _ (x y : ℤ) (xs ys : List ℤ) (fx : SFits w32 x) (fy : SFits w32 y) where
  pub distances_read : distances (read x) (read y) xs ys ≡ distances x y xs ys
  distances_read = rw (read_back fx, read_back fy)
