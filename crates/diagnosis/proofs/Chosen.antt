-- What is marked is the least set that excludes a single cycle: a fixed point, else the first pair, else the shortest cycle.
use mathlib.Core.Path.{◌≡◌, sym, ap, ◌∙◌}
use mathlib.Core.Logic.{◌↔◌, ◌⊎◌, inl, inr}
use mathlib.Core.Bool.{Bool, true, false, true≢false}
use mathlib.Core.List.{List}
use Prim.Native.Nat.{ℕ, ◌^◌, ◌≤◌, ◌<◌}
use native.Mathlib.Omega.{arith}
use lib.ListN.{length, set, replicate, length-replicate, length-set}
use Rattle.cycle.specs.Notation.{iterate}
use Rattle.cycle.proofs.Iterate.{MapsBelow, iterate-below}
use Rattle.tsc.specs.Constants.{most_words}
use Rattle.completions.specs.Finding.{cycle_length}
use Rattle.diagnosis.specs.Marks.{marked, marks_along}
use Rattle.diagnosis.proofs.Marking.{none-marked, one_more, along_marked}

module _ (N : ℕ) (fits : N ≤ 2 ^ most_words) (none : List Bool) (clear : none ≡ replicate (2 ^ most_words) false) where
  long : length none ≡ 2 ^ most_words
  long = ap length clear ∙ length-replicate {A = Bool} (2 ^ most_words) false

  nothing : (v : ℕ) → marked none v ≡ true → ⊥
  nothing v h = true≢false (sym h ∙ ap (λ (l : List Bool). marked l v) clear ∙ none-marked (2 ^ most_words) v)

  -- one mark
  pub alone : (x : ℕ) → x < N → (v : ℕ) → v < N → (marked (set none x true) v ≡ true) ↔ (v ≡ x)
  alone x xN v lv = (λ h. forth (more.0 h), λ e. more.1 (inr (sym e)))
    where
      more : (marked (set none x true) v ≡ true) ↔ ((marked none v ≡ true) ⊎ (x ≡ v))
      more = one_more none x v (omega (arith, long))

      forth : (marked none v ≡ true) ⊎ (x ≡ v) → v ≡ x
      forth (inl h) = absurd (nothing v h)
      forth (inr e) = sym e

  -- two
  pub both : (i j : ℕ) → i < N → j < N → (v : ℕ) → v < N → (marked (set (set none i true) j true) v ≡ true) ↔ ((v ≡ i) ⊎ (v ≡ j))
  both i j iN jN v lv = (λ h. forth (more.0 h), λ r. more.1 (back r))
    where
      more : (marked (set (set none i true) j true) v ≡ true) ↔ ((marked (set none i true) v ≡ true) ⊎ (j ≡ v))
      more = one_more (set none i true) j v (omega (arith, long, length-set none i true))

      forth : (marked (set none i true) v ≡ true) ⊎ (j ≡ v) → (v ≡ i) ⊎ (v ≡ j)
      forth (inl h) = inl ((alone i iN v lv).0 h)
      forth (inr e) = inr (sym e)

      back : (v ≡ i) ⊎ (v ≡ j) → (marked (set none i true) v ≡ true) ⊎ (j ≡ v)
      back (inl e) = inl ((alone i iN v lv).1 e)
      back (inr e) = inr (sym e)

  -- those of a cycle
  pub way : (f : ℕ → ℕ) → MapsBelow N f → (x : ℕ) → x < N → (n : ℕ) (after : List Bool) → n ≡ cycle_length N f x → after ≡ marks_along f x n none
      → (v : ℕ) → v < N → (marked after v ≡ true) ↔ ((k : ℕ) × (k < cycle_length N f x) × (iterate f k x ≡ v))
  way f below x xN n after e m v lv = rw (m, sym e) (λ h. forth (more.0 h), λ r. more.1 (inr r))
    where
      more : (marked (marks_along f x n none) v ≡ true) ↔ ((marked none v ≡ true) ⊎ ((k : ℕ) × (k < n) × (iterate f k x ≡ v)))
      more = along_marked f x n none (λ k. omega (arith, iterate-below N f below k x xN, long)) v

      forth : (marked none v ≡ true) ⊎ ((k : ℕ) × (k < n) × (iterate f k x ≡ v)) → (k : ℕ) × (k < n) × (iterate f k x ≡ v)
      forth (inl h) = absurd (nothing v h)
      forth (inr r) = r
