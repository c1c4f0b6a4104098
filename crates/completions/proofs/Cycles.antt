-- After how many applications a place returns, and the first of the shortest cycles.
use mathlib.Core.Path.{◌≡◌, sym, ap, ◌∙◌}
use mathlib.Core.Logic.{◌≢◌}
use mathlib.Core.Bool.{false}
use Prim.Native.Nat.{ℕ, zero, suc, ◌+◌, ◌-◌, ◌≤◌, ◌<◌}
use native.Mathlib.Nat.{add_comm}
use native.Mathlib.Decide.{ℕ_discrete, dec_lt}
use native.Mathlib.Numerals.{add-one}
use native.Mathlib.Omega.{arith}
use borrow.Author.Tests.{eq-eqb, ne_eqb, eqb-true, eqb-false}
use lib.Dec.{eqb}
use Rattle.cycle.specs.Notation.{first, iterate}
use Rattle.cycle.specs.Cycle.{SingleCycle}
use Rattle.cycle.proofs.First.{first_le, first_at, before-first, first_is, first-none}
use Rattle.cycle.proofs.Iterate.{iterate_add, MapsBelow, iterate-below}
use Rattle.completions.specs.Completion.{Injective}
use Rattle.completions.proofs.Completion.{iterate_injective}
use Rattle.completions.proofs.Fewest.{FirstCycle, single_cycle_iff}
use Rattle.completions.specs.Finding.{cycle_length, Shortest}

-- ---- how long a cycle is

module _ (N : ℕ) (f : ℕ → ℕ) (x : ℕ) where
  pub length_le : 0 < N → cycle_length N f x ≤ N
  unfolding cycle_length
  length_le pos = omega (arith, first_le (N - 1) (λ k. eqb (iterate f (suc k) x) x))

  pub length_pos : 0 < cycle_length N f x
  unfolding cycle_length
  length_pos = omega arith

  pub no_sooner : (k : ℕ) → 0 < k → k < cycle_length N f x → iterate f k x ≢ x
  unfolding cycle_length
  no_sooner zero p l = absurd (omega arith)
  no_sooner (suc k) p l = eqb-false (iterate f (suc k) x) x (before-first (N - 1) (λ k. eqb (iterate f (suc k) x) x) k (omega arith))

  pub length-returns : cycle_length N f x < N → iterate f (cycle_length N f x) x ≡ x
  unfolding cycle_length
  length-returns l = eqb-true _ x (first_at (N - 1) (λ k. eqb (iterate f (suc k) x) x) (omega arith))

  -- found by a loop: within k applications x has not returned, and the next one brings it back, or k is all
  module _ (k : ℕ) (none : (j : ℕ) → 0 < j → j ≤ k → iterate f j x ≢ x) where
    not_back : (j : ℕ) → j < k → eqb (iterate f (suc j) x) x ≡ false
    not_back j l = ne_eqb (iterate f (suc j) x) x (none (suc j) (omega arith) l)

    pub length_whole : 0 < k → k ≡ N → k ≡ cycle_length N f x
    unfolding cycle_length
    length_whole pos e = omega (arith, first-none (N - 1) (λ k. eqb (iterate f (suc k) x) x) (λ j l. not_back j (omega arith)))

    pub length_is : k < N → f (iterate f k x) ≡ x → k + 1 ≡ cycle_length N f x
    unfolding cycle_length iterate
    length_is l e = go (dec_lt (k + 1) N)
      where
        go : Dec (k + 1 < N) → k + 1 ≡ suc (first (N - 1) (λ j. eqb (iterate f (suc j) x) x))
        go (yes m) = add-one k ∙ ap suc (sym (first_is (N - 1) (λ j. eqb (iterate f (suc j) x) x) k (omega arith) not_back (eq-eqb (f (iterate f k x)) x e)))
        go (no m) = omega (arith, first-none (N - 1) (λ j. eqb (iterate f (suc j) x) x) (λ j i. not_back j (omega arith)))

    -- one more
    pub none_next : f (iterate f k x) ≢ x → (j : ℕ) → 0 < j → j ≤ k + 1 → iterate f j x ≢ x
    unfolding iterate
    none_next ne j p l = go (ℕ_discrete j (suc k))
      where
        go : Dec (j ≡ suc k) → iterate f j x ≢ x
        go (yes q) = rw q ne
        go (no q) = none j p (omega arith)

-- what lies on the way from z returns no sooner
pub length_along : (N : ℕ) (f : ℕ → ℕ) → 0 < N → MapsBelow N f → Injective N f → (z k : ℕ) → z < N → cycle_length N f z ≤ cycle_length N f (iterate f k z)
length_along N f pos below inj z k zN = go (dec_lt c (cycle_length N f z)) (dec_lt c N)
  where
    x : ℕ
    x = iterate f k z

    c : ℕ
    c = cycle_length N f x

    go : Dec (c < cycle_length N f z) → Dec (c < N) → cycle_length N f z ≤ c
    go (no l) d = omega arith
    go (yes l) (no m) = absurd (omega (arith, length_le N f z pos))
    go (yes l) (yes m) =
        absurd (no_sooner N f z c (length_pos N f x) l
        (iterate_injective N f below inj k (iterate f c z) z (iterate-below N f below c z zN) zN
        (sym (iterate_add f k c z) ∙ ap (λ (n : ℕ). iterate f n z) (add_comm k c) ∙ iterate_add f c k z ∙ length-returns N f x m)))

-- the first place of a shortest cycle, where the map is not a single one
pub shortest_first : (N : ℕ) (f : ℕ → ℕ) → 0 < N → MapsBelow N f → (SingleCycle N f 0 → ⊥) → (x : ℕ) → Shortest N f x → FirstCycle N f (cycle_length N f x) x
shortest_first N f pos below broken x s =
    record {
      below = s.below;
      some = length_pos N f x;
      short = short (dec_lt l N);
      returns = length-returns N f x (short (dec_lt l N));
      shortest = λ z k zN p lk. no_sooner N f z k p (omega (arith, s.least z zN));
      first = λ z lz. no_sooner N f z l (length_pos N f x) (s.first z lz);
    }
  where
    l : ℕ
    l = cycle_length N f x

    short : Dec (l < N) → l < N
    short (yes h) = h
    short (no h) = absurd (broken ((single_cycle_iff N f pos below).1 (λ z k zN p lk. no_sooner N f z k p (omega (arith, s.least z zN)))))
