-- A map that is no single cycle has a least set of places that exclude one, and it is half of the places at most.
use mathlib.Core.Path.{◌≡◌, refl, sym, ap, ◌∙◌, subst}
use mathlib.Core.Logic.{◌↔◌, ◌⊎◌, ◌≢◌, inl, inr}
use mathlib.Core.Bool.{Bool, true, ◌||◌}
use Prim.Native.Nat.{ℕ, ◌*◌, ◌≤◌, ◌<◌}
use native.Mathlib.Decide.{dec_lt}
use native.Mathlib.Omega.{arith}
use borrow.Author.Tests.{eq-eqb, eqb-true, eqb-false, lt-ltb, ltb-true}
use lib.Dec.{eqb, ltb}
use lib.ListN.{length}
use Rattle.cycle.specs.Notation.{count, first, iterate}
use Rattle.cycle.specs.Cycle.{SingleCycle}
use Rattle.cycle.proofs.Count.{count_pos, count-some, count-one}
use Rattle.cycle.proofs.First.{first_le, first_at, before-first, first-least}
use Rattle.cycle.proofs.Iterate.{MapsBelow}
use Rattle.completions.specs.Completion.{Excludes, RepeatIn, Injective}
use Rattle.completions.specs.Sets.{LeastSet}
use Rattle.completions.specs.Finding.{is_fixed, clashes, clashes_with, cycle_length, Shortest}
use Rattle.completions.proofs.Members.{members-count, least-unique}
use Rattle.completions.proofs.Fewest.{FirstPair, least_of_fixed, least_of_pair, least_of_cycle, count_pair, cycle-half}
use Rattle.completions.proofs.Clashes.{either, injective, first_pair}
use Rattle.completions.proofs.Cycles.{shortest_first}

module _ (N : ℕ) (f : ℕ → ℕ) (four : 4 ≤ N) (below : MapsBelow N f) where
  -- the sets that meet all that is asked: the least that exclude a single cycle, and half of the places at most
  abbrev Chosen : (ℕ → Bool) → Type 0
  Chosen P = LeastSet N (Excludes N f) P × (2 * count N P ≤ N)

  -- a fixed point
  pub fixed_chosen : (x : ℕ) → x ≡ first N (is_fixed f) → x < N → (P : ℕ → Bool) → ((v : ℕ) → v < N → (P v ≡ true) ↔ (v ≡ x)) → Chosen P
  fixed_chosen x e xN P is = (
    least_of_fixed N f below (omega arith) x xN (eqb-true (f x) x (rw e (first_at N (is_fixed f) (omega arith))))
        (λ z l. eqb-false (f z) z (before-first N (is_fixed f) z (omega arith))) P is,
    omega (arith, count-one N P (λ i j li lj hi hj. (is i li).0 hi ∙ sym ((is j lj).0 hj))),
  )

  -- where there is none, the first pair that clashes
  module _ (none : N ≤ first N (is_fixed f)) where
    moves : (z : ℕ) → z < N → f z ≢ z
    moves z zN = eqb-false (f z) z (before-first N (is_fixed f) z (omega arith))

    pub pair_of : (i j : ℕ) → i ≡ first N (clashes N f) → i < N → j ≡ first N (clashes_with f i) → FirstPair N f i j
    pair_of i j ei iN ej =
        subst (λ (j : ℕ). FirstPair N f i j) (sym ej)
        (subst (λ (i : ℕ). FirstPair N f i (first N (clashes_with f i))) (sym ei) (first_pair N f below moves (omega arith)))

    pub pair_chosen : (i j : ℕ) → FirstPair N f i j → (P : ℕ → Bool) → ((v : ℕ) → v < N → (P v ≡ true) ↔ ((v ≡ i) ⊎ (v ≡ j))) → Chosen P
    pair_chosen i j p P is = (least_of_pair N f below moves i j p (omega arith) P is, omega (arith, count_pair N f below moves i j p (omega arith) P is))

  -- where none clashes, the first of the shortest cycles
  pub cycle-chosen : Injective N f → (SingleCycle N f 0 → ⊥) → (x : ℕ) → Shortest N f x → (P : ℕ → Bool)
      → ((v : ℕ) → v < N → (P v ≡ true) ↔ ((k : ℕ) × (k < cycle_length N f x) × (iterate f k x ≡ v))) → Chosen P
  cycle-chosen inj broken x s P is =
      let c = shortest_first N f (omega arith) below broken x s in
      (least_of_cycle N f below (cycle_length N f x) x c few P is, cycle-half N f below (cycle_length N f x) x c few P is inj)
    where
      few : RepeatIn N f (λ v. true) → cycle_length N f x < 2
      few r = absurd (omega (arith, r.apart, inj r.one r.other (omega (arith, r.apart, r.below)) r.below r.same))

  -- so there is one
  pub least_exists : (SingleCycle N f 0 → ⊥) → (P : ℕ → Bool) × Chosen P
  least_exists broken = go (dec_lt (first N (is_fixed f)) N) (dec_lt (first N (clashes N f)) N)
    where
      go : Dec (first N (is_fixed f) < N) → Dec (first N (clashes N f) < N) → (P : ℕ → Bool) × Chosen P
      go (yes l) d = let x = first N (is_fixed f) in (λ v. eqb v x, fixed_chosen x refl l (λ v. eqb v x) (λ v lv. (eqb-true v x, eq-eqb v x)))
      go (no l) (yes m) =
          let i = first N (clashes N f) in
          let j = first N (clashes_with f i) in
          let none : N ≤ first N (is_fixed f) = omega arith in
          (λ v. eqb v i || eqb v j, pair_chosen none i j (pair_of none i j refl m refl) (λ v. eqb v i || eqb v j) (λ v lv. (λ h. forth v i j ((either (eqb v i) (eqb v j)).0 h), λ r. (either (eqb v i) (eqb v j)).1 (back v i j r))))
        where
          forth : (v i j : ℕ) → (eqb v i ≡ true) ⊎ (eqb v j ≡ true) → (v ≡ i) ⊎ (v ≡ j)
          forth v i j (inl h) = inl (eqb-true v i h)
          forth v i j (inr h) = inr (eqb-true v j h)

          back : (v i j : ℕ) → (v ≡ i) ⊎ (v ≡ j) → (eqb v i ≡ true) ⊎ (eqb v j ≡ true)
          back v i j (inl e) = inl (eq-eqb v i e)
          back v i j (inr e) = inr (eq-eqb v j e)
      go (no l) (no m) =
          let (x, xN, least, before) = first-least N (cycle_length N f) (omega arith) in
          let inj = injective N f (omega (arith, first_le N (clashes N f))) in
          let on : ℕ → ℕ → Bool = λ v k. eqb (iterate f k x) v in
          let P : ℕ → Bool = λ v. ltb 0 (count (cycle_length N f x) (on v)) in (
            P,
            cycle-chosen inj broken x (record { below = xN; least = least; first = before }) P
                (λ v lv. (
                  λ h. let (k, lk, e) = count-some (cycle_length N f x) (on v) (ltb-true 0 _ h) in (k, lk, eqb-true (iterate f k x) v e),
                  λ r. lt-ltb 0 _ (count_pos (cycle_length N f x) (on v) r.0 r.1 (eq-eqb (iterate f r.0 x) v r.2)),
                )),
          )

  -- and every least set is that one
  pub least-half : (SingleCycle N f 0 → ⊥) → (P : ℕ → Bool) → LeastSet N (Excludes N f) P → 2 * count N P ≤ N
  least-half broken P least =
      let (Q, chosen) = least_exists broken in
      let same = ap length (least-unique N (Excludes N f) P Q least chosen.0) in
      omega (arith, chosen.1, members-count N P, members-count N Q, same)
