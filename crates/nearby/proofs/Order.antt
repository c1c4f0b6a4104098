-- The order in which the shovels are handed over makes no difference to the list.
use mathlib.Core.Path.{◌≡◌, refl, sym, ap, ap₂, subst, ◌∙◌}
use mathlib.Core.Bool.{Bool, false, ◌&&◌}
use mathlib.Core.List.{List}
use Prim.Native.Nat.{ℕ, ◌<◌}
use native.Mathlib.Decide.{dec_lt}
use native.Mathlib.Omega.{arith}
use lib.Dec.{leb}
use lib.ListN.{length, get_or}
use Rattle.ties.specs.Ties.{twice}
use Rattle.ties.specs.Order.{Permutes, reordered}
use Rattle.ties.proofs.Order.{count_permute, length-reordered, get_or-reordered, twice-reordered}
use Rattle.nearby.specs.Nearby.{is_within, within_count, is_before, place_of, number_at}
use Rattle.nearby.proofs.Listed.{at_place, number_is, number_past}

module _ (f : ℕ → ℕ) (shovels distances : List ℕ) (limit : ℕ) (s : Permutes (length distances) f) (once : twice shovels ≡ false) (paired : length shovels ≡ length distances) where
  abbrev shovels₂ : List ℕ
  shovels₂ = reordered f shovels

  abbrev distances₂ : List ℕ
  distances₂ = reordered f distances

  distance_at : (i : ℕ) → i < length distances → get_or distances₂ i 0 ≡ get_or distances (f i) 0
  distance_at = get_or-reordered f distances

  within_at : (i : ℕ) → i < length distances → is_within distances₂ limit i ≡ is_within distances limit (f i)
  within_at i l = ap (λ (d : ℕ). leb d limit) (distance_at i l)

  number_at_lem : (i : ℕ) → i < length distances → get_or shovels₂ i 0 ≡ get_or shovels (f i) 0
  number_at_lem i l = get_or-reordered f shovels i (omega arith)

  before_at : (j i : ℕ) → j < length distances → i < length distances → is_before shovels₂ distances₂ j i ≡ is_before shovels distances (f j) (f i)
  before_at j i lj li = rw (distance_at j lj, distance_at i li, number_at_lem j lj, number_at_lem i li) refl

  pub count-reordered : within_count distances₂ limit ≡ within_count distances limit
  unfolding within_count
  count-reordered = rw (length-reordered f distances) (count_permute (length distances) f (is_within distances₂ limit) (is_within distances limit) s within_at)

  place_reordered : (i : ℕ) → i < length distances → place_of shovels₂ distances₂ limit i ≡ place_of shovels distances limit (f i)
  unfolding place_of
  place_reordered i l =
      rw (length-reordered f distances)
      (count_permute (length distances) f (λ j. is_within distances₂ limit j && is_before shovels₂ distances₂ j i) (λ j. is_within distances limit j && is_before shovels distances j (f i)) s
      (λ j lj. ap₂ (λ (a b : Bool). a && b) (within_at j lj) (before_at j i lj l)))

  once₂ : twice shovels₂ ≡ false
  once₂ = twice-reordered f shovels (subst (λ (n : ℕ). Permutes n f) (sym paired) s) ∙ once

  paired₂ : length shovels₂ ≡ length distances₂
  paired₂ = length-reordered f shovels ∙ paired ∙ sym (length-reordered f distances)

  pub number-reordered : (p : ℕ) → number_at shovels₂ distances₂ limit p ≡ number_at shovels distances limit p
  number-reordered p = go (dec_lt p (within_count distances limit))
    where
      go : Dec (p < within_count distances limit) → number_at shovels₂ distances₂ limit p ≡ number_at shovels distances limit p
      go (yes l) =
          let a = at_place shovels distances limit once paired p l in
          let o = s.onto a.0 a.1 in
          let i : ℕ = o.0 in
          let li : i < length distances = o.1 in
          let here : f i ≡ a.0 = o.2 in
          let near = within_at i li ∙ ap (is_within distances limit) here ∙ a.2 in
          let place = place_reordered i li ∙ ap (place_of shovels distances limit) here ∙ a.3 in
          number_is shovels₂ distances₂ limit once₂ paired₂ p i (omega (arith, length-reordered f distances)) near place
          ∙ number_at_lem i li ∙ ap (λ (k : ℕ). get_or shovels k 0) here ∙ sym (number_is shovels distances limit once paired p a.0 a.1 a.2 a.3)
      go (no l) =
          number_past shovels₂ distances₂ limit once₂ paired₂ p (omega (arith, count-reordered)) ∙ sym (number_past shovels distances limit once paired p (omega arith))
