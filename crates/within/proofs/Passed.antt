-- What is known once nothing is refused, and what the call comes to.
use mathlib.Core.Path.{◌≡◌, sym, ap, ap₂, ◌∙◌}
use mathlib.Core.Bool.{true, ◌&&◌, and-eq-true_iff}
use mathlib.Core.List.{List}
use Prim.Native.Nat.{ℕ, ◌≤◌, ◌<◌}
use native.Mathlib.Omega.{arith}
use lib.IntN.{ℤ}
use lib.ListN.{length, get_or, replicate}
use Rattle.cycle.specs.Notation.{count}
use Rattle.refusals.specs.Refusals.{first_of}
use Rattle.ties.specs.Ties.{most_shovels}
use Rattle.places.specs.Distances.{square}
use Rattle.places.specs.Places.{most_squared, Places, distances_of, on_map, is_radius, Measurable}
use Rattle.places.proofs.Distances.{length-distances}
use Rattle.places.proofs.Places.{places_passed, paired-parts, distance_le}
use Rattle.nearby.specs.declared.WithinAnswer.{WithinAnswer}
use Rattle.nearby.specs.Calls.{within_checks, within_radius}
use Rattle.nearby.proofs.Answers.{within-listed, paired_list}
use Rattle.within.specs.Sorting.{keys_of, is_listed, with_first}
use Rattle.within.proofs.Sorting.{length_keys, count_is, sorted}

-- what the call goes on with
pub record Free (q : Places) (radius : ℤ) : Type 0 where
  pub measurable : Measurable q.x q.y q.xs q.ys
  pub paired : length q.shovels ≡ length q.xs
  pub few : length q.xs ≤ most_shovels
  pub is_radius_lem : is_radius radius ≡ true

module _ (q : Places) (radius : ℤ) (z : first_of (within_checks q radius) ≡ 0) where
  pub free : Free q radius
  free =
      let p = places_passed q.shovels q.xs q.ys (on_map q.x q.y q.xs q.ys && is_radius radius) z in
      let e = paired-parts q.shovels q.xs q.ys p.is_paired in
      let b = (and-eq-true_iff (on_map q.x q.y q.xs q.ys) (is_radius radius)).0 p.all_allowed in
      record { measurable = record { even = sym e.0 ∙ e.1; mapped = b.0 }; paired = e.0; few = omega (arith, e.0, p.few); is_radius_lem = b.1 }

  -- the keys, how many are listed, and the numbers put at their places
  pub listed_by : ((i : ℕ) → get_or q.shovels i 0 < 65536) → {keys numbers : List ℕ} {k : ℕ} → keys ≡ keys_of q.shovels (distances_of q) (square radius)
      → k ≡ count (length keys) (is_listed keys) → numbers ≡ with_first keys q.shovels (length keys) (replicate most_shovels 0)
      → ◌≡◌ {A = WithinAnswer} (record { shovels = numbers; count = k; refusal = 0 }) (within_radius q radius)
  listed_by narrow {keys} {numbers} {k} e ek en =
      let p = places_passed q.shovels q.xs q.ys (on_map q.x q.y q.xs q.ys && is_radius radius) z in
      let ds = distances_of q in
      let limit = square radius in
      let n = length-distances q.x q.y q.xs q.ys in
      let paired = paired_list q radius z in
      let slim : (i : ℕ) → i < length ds → get_or q.shovels i 0 < 65536 = λ i l. narrow i in
      let small : (i : ℕ) → i < length ds → get_or ds i 0 ≤ most_squared = λ i l. distance_le free.measurable i (omega (arith, n)) in
      let many = ap length e ∙ length_keys q.shovels ds limit in
      let counted = ek ∙ ap₂ (λ (m : ℕ) (ks : List ℕ). count m (is_listed ks)) many e ∙ count_is q.shovels ds limit slim small in
      let listed = en ∙ ap₂ (λ (m : ℕ) (ks : List ℕ). with_first ks q.shovels m (replicate most_shovels 0)) many e
      ∙ sorted q.shovels ds limit slim small p.once paired (omega (arith, paired, p.few)) in
      ap₂ (λ (ns : List ℕ) (c : ℕ). record { shovels = ns; count = c; refusal = 0 }) listed counted ∙ sym (within-listed q radius z)
