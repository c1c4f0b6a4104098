-- What follows where distances can be worked out, and where they can't.
use mathlib.Core.Path.{◌≡◌, refl, sym, ◌∙◌}
use mathlib.Core.Logic.{◌≢◌}
use mathlib.Core.Bool.{Bool, true, false, ◌&&◌, and-eq-true_iff, true≢false}
use mathlib.Core.List.{List, ◌++◌}
use Prim.Native.Nat.{ℕ, ◌≤◌, ◌<◌}
use native.Mathlib.Omega.{arith}
use borrow.Author.Tests.{ltb-true, lt-ltb, leb-true, le-leb}
use lib.Dec.{leb, ltb}
use lib.IntN.{ℤ}
use lib.ListN.{length}
use Rattle.cycle.proofs.Ranking.{both}
use Rattle.std.proofs.Common.{rules}
use Rattle.std.specs.Prelude.{Result, Ok, Err, IsErr}
use Rattle.refusals.specs.declared.Refusal.{Refusal}
use Rattle.refusals.specs.Refusals.{first_of, told}
use Rattle.draws.specs.Calls.{call_checks}
use Rattle.ties.specs.Ties.{most_shovels}
use Rattle.ties.specs.Least.{SameTies}
use Rattle.places.specs.Places.{Places, distances_of, paired, on_map, place_checks, Measurable}
use Rattle.places.proofs.Places.{paired-parts, places_passed}
use Rattle.picks.specs.declared.Pick.{Pick}
use Rattle.picks.specs.declared.Pick.TheVariants.{Refused}
use Rattle.picks.specs.Picks.{picking, picked}
use Rattle.picks.proofs.Choice.{pick_alike}
use Rattle.map_picks.specs.MapPicks.{map_picking, map_picked}
use Rattle.map_picks.proofs.Timed.{map-refused, refused_here, map-timed}
use Rattle.map_pick.specs.Measured.{can_measure}

module _ (shovels : List ℕ) (xs ys : List ℤ) (mapped : Bool) where
  pub measured-parts : can_measure shovels xs ys mapped ≡ true → (mapped ≡ true) × (paired shovels xs ys ≡ true) × (0 < length shovels) × (length shovels ≤ most_shovels)
  measured-parts h =
      let a = (and-eq-true_iff (mapped && paired shovels xs ys && ltb 0 (length shovels)) (leb (length shovels) most_shovels)).0 h in
      let b = (and-eq-true_iff (mapped && paired shovels xs ys) (ltb 0 (length shovels))).0 a.0 in
      let c = (and-eq-true_iff mapped (paired shovels xs ys)).0 b.0 in
      (c.0, c.1, ltb-true 0 (length shovels) b.1, leb-true (length shovels) most_shovels a.1)

  -- 12, 13, 14 or 25
  pub unmeasured : can_measure shovels xs ys mapped ≡ false → first_of (place_checks shovels xs ys mapped) ≢ 0
  unmeasured f z =
      let p = places_passed shovels xs ys mapped z in
      true≢false (sym (both (both (both p.all_allowed p.is_paired) (lt-ltb 0 (length shovels) p.some)) (le-leb (length shovels) most_shovels p.few)) ∙ f)

told_error : (a : Result (Unit {0}) Refusal) → told a ≢ 0 → IsErr a
told_error (Ok u) ne = absurd (ne refl)
told_error (Err e) ne = search rules

module _ (bytes state : List ℕ) (q : Places) where
  abbrev mapped_all : Bool
  mapped_all = on_map q.x q.y q.xs q.ys

  pub measurable : can_measure q.shovels q.xs q.ys mapped_all ≡ true → Measurable q.x q.y q.xs q.ys × (0 < length q.xs) × (length q.xs ≤ most_shovels)
  measurable h =
      let m = measured-parts q.shovels q.xs q.ys mapped_all h in
      let e = paired-parts q.shovels q.xs q.ys m.1 in
      (record { even = sym e.0 ∙ e.1; mapped = m.0 }, omega (arith, e.0, m.2), omega (arith, e.0, m.3))

  -- the refusal that is told then
  pub told_refused : {r : ℕ} → can_measure q.shovels q.xs q.ys mapped_all ≡ false → r ≡ first_of (call_checks bytes state ++ place_checks q.shovels q.xs q.ys mapped_all)
      → (Refused r ≡ map_picking bytes state q) × (state ≡ map_picked bytes state q)
  told_refused {r} f e =
      let h = refused_here bytes state q (unmeasured q.shovels q.xs q.ys mapped_all f) in
      map-refused bytes state q r (λ z. h.1 (sym e ∙ z)) (e ∙ h.0)

  -- so there is one
  pub refuses : can_measure q.shovels q.xs q.ys mapped_all ≡ false → (a : Result (Unit {0}) Refusal)
      → told a ≡ first_of (call_checks bytes state ++ place_checks q.shovels q.xs q.ys mapped_all) → IsErr a
  refuses f a h = told_error a (λ z. (refused_here bytes state q (unmeasured q.shovels q.xs q.ys mapped_all f)).1 (sym h ∙ z))

  -- the timed pick of times that tie as the distances do
  pub told_picked : {p : Pick} {left times : List ℕ} → can_measure q.shovels q.xs q.ys mapped_all ≡ true → SameTies (distances_of q) times
      → p ≡ picking bytes state q.shovels times → left ≡ picked bytes state q.shovels times
      → (p ≡ map_picking bytes state q) × (left ≡ map_picked bytes state q)
  told_picked {p} {left} {times} h s ep el =
      let m = measured-parts q.shovels q.xs q.ys mapped_all h in
      let t = map-timed bytes state q m.1 m.0 in
      let a = pick_alike bytes state q.shovels (distances_of q) times s in
      (ep ∙ sym (t.0 ∙ a.0), el ∙ sym (t.1 ∙ a.1))
