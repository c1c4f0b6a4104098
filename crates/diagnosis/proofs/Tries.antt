-- Places tried one after the other: what is found stays the first of the shortest cycles.
use mathlib.Core.Path.{◌≡◌, sym, ap, ◌∙◌}
use mathlib.Core.Logic.{◌⊎◌, inl, inr}
use mathlib.Core.Bool.{Bool, true, false, true≢false}
use mathlib.Core.List.{List}
use Prim.Native.Nat.{ℕ, ◌+◌, ◌^◌, ◌≤◌, ◌<◌}
use native.Mathlib.Omega.{arith}
use lib.ListN.{length, replicate, length-replicate}
use Rattle.cycle.specs.Notation.{iterate}
use Rattle.cycle.proofs.Every.{extend}
use Rattle.cycle.proofs.Iterate.{MapsBelow, iterate-below}
use Rattle.tsc.specs.Constants.{most_words}
use Rattle.completions.specs.Completion.{Injective}
use Rattle.diagnosis.specs.declared.shortest.Found.{Found}
use Rattle.completions.specs.Finding.{cycle_length, Shortest}
use Rattle.diagnosis.specs.Marks.{marked, marks_along, Tried}
use Rattle.completions.proofs.Cycles.{length_along}
use Rattle.diagnosis.proofs.Marking.{none-marked, along_length, along_marked}

module _ (N : ℕ) (f : ℕ → ℕ) (pos : 0 < N) (fits : N ≤ 2 ^ most_words) (below : MapsBelow N f) where
  -- marks along the way from x, besides those that there were
  passed_along : (x n : ℕ) (marks : List Bool) → x < N → length marks ≡ 2 ^ most_words → ((v : ℕ) → marked marks v ≡ true → (z : ℕ) × (k : ℕ) × (z < x) × (iterate f k z ≡ v))
      → (v : ℕ) → marked (marks_along f x n marks) v ≡ true → (z : ℕ) × (k : ℕ) × (z < x + 1) × (iterate f k z ≡ v)
  passed_along x n marks xN long passed v h =
      go ((along_marked f x n marks (λ k. omega (arith, iterate-below N f below k x xN, fits)) v).0 h)
    where
      go : (marked marks v ≡ true) ⊎ ((k : ℕ) × (k < n) × (iterate f k x ≡ v)) → (z : ℕ) × (k : ℕ) × (z < x + 1) × (iterate f k z ≡ v)
      go (inl m) = let (z, k, l, e) = passed v m in (z, k, omega arith, e)
      go (inr (k, l, e)) = (x, k, omega arith, e)

  -- the first place
  pub tried-first : (n : ℕ) (none after : List Bool) → none ≡ replicate (2 ^ most_words) false → n ≡ cycle_length N f 0 → after ≡ marks_along f 0 n none
      → Tried N f 1 (record { start = 0; steps = n }) after
  tried-first n none after clear e m =
      record {
        start = omega arith;
        steps = e;
        least = extend (λ z. n ≤ cycle_length N f z) 0 (λ z l. absurd (omega arith)) (omega arith);
        first = λ z l. absurd (omega arith);
        long = ap length m ∙ along_length f 0 n none ∙ long;
        passed = λ v h. passed_along 0 n none pos long (λ v h. absurd (true≢false (sym h ∙ ap (λ (l : List Bool). marked l v) clear ∙ none-marked (2 ^ most_words) v))) v (rw m at h);
      }
    where
      long : length none ≡ 2 ^ most_words
      long = ap length clear ∙ length-replicate {A = Bool} (2 ^ most_words) false

  module _ (x : ℕ) (xN : x < N) (found : Found) (marks : List Bool) (t : Tried N f x found marks) where
    -- a marked place has the cycle of an earlier one
    pub tried-passed : Injective N f → marked marks x ≡ true → Tried N f (x + 1) found marks
    tried-passed inj h =
        let (z, k, l, e) = t.passed x h in
        let longer : cycle_length N f z ≤ cycle_length N f x = rw e at (length_along N f pos below inj z k (omega arith)) in
        record {
          start = omega (arith, t.start);
          steps = t.steps;
          least = extend (λ z. found.steps ≤ cycle_length N f z) x t.least (omega (arith, t.least z l));
          first = t.first;
          long = t.long;
          passed = λ v m. let (z, k, l, e) = t.passed v m in (z, k, omega arith, e);
        }

    -- another is followed, with marks on its way
    module _ (n : ℕ) (after : List Bool) (e : n ≡ cycle_length N f x) (m : after ≡ marks_along f x n marks) where
      long_after : length after ≡ 2 ^ most_words
      long_after = ap length m ∙ along_length f x n marks ∙ t.long

      passed_after : (v : ℕ) → marked after v ≡ true → (z : ℕ) × (k : ℕ) × (z < x + 1) × (iterate f k z ≡ v)
      passed_after v h = passed_along x n marks xN t.long t.passed v (rw m at h)

      pub tried-kept : found.steps ≤ n → Tried N f (x + 1) found after
      tried-kept l =
          record {
            start = omega (arith, t.start);
            steps = t.steps;
            least = extend (λ z. found.steps ≤ cycle_length N f z) x t.least (omega arith);
            first = t.first;
            long = long_after;
            passed = passed_after;
          }

      pub tried_better : n < found.steps → Tried N f (x + 1) (record { start = x; steps = n }) after
      tried_better l =
          record {
            start = omega arith;
            steps = e;
            least = extend (λ z. n ≤ cycle_length N f z) x (λ z h. omega (arith, t.least z h)) (omega arith);
            first = λ z h. omega (arith, t.least z h);
            long = long_after;
            passed = passed_after;
          }

  -- all tried
  pub tried_all : (found : Found) (marks : List Bool) → Tried N f N found marks → Shortest N f found.start
  tried_all found marks t =
      record {
        below = t.start;
        least = λ z l. omega (arith, t.steps, t.least z l);
        first = λ z l. omega (arith, t.steps, t.first z l);
      }
