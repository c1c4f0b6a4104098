-- How many words are tried and taken, and which of them decides.
use mathlib.Core.Path.{◌≡◌, refl, sym, ap, ◌∙◌}
use mathlib.Core.Logic.{◌↔◌, ◌≢◌}
use mathlib.Core.Bool.{Bool, true, false, ◌||◌}
use mathlib.Core.List.{List}
use Prim.Native.Nat.{ℕ, suc, ◌+◌, ◌-◌, ◌%◌, ◌≤◌, ◌<◌}
use native.Mathlib.Nat.{mod-one}
use native.Mathlib.Numerals.{add-one}
use native.Mathlib.Decide.{ℕ_discrete}
use native.Mathlib.Omega.{arith}
use borrow.Author.Tests.{eq-eqb, ne_eqb, eqb-false, ltb-true, ltb-false}
use lib.Dec.{eqb, ltb}
use Rattle.cycle.specs.Notation.{iterate, first}
use Rattle.cycle.proofs.Count.{neither}
use Rattle.cycle.proofs.Every.{extend}
use Rattle.cycle.proofs.First.{first_le, first_at, before-first, first_is, first-none}
use Rattle.tsc.specs.declared.Card.{Card}
use Rattle.tsc.specs.Step.{orbit}
use Rattle.tsc.specs.Word.{word, word_at}
use Rattle.samples.specs.Samples.{most_taken, limit, tried, taken, drawn_rank, drawn_state}

-- as words are tried, p saying of each whether it is below L: the first t are passed over
pub record Over (p : ℕ → Bool) (t : ℕ) : Type 0 where
  pub few : t < most_taken
  pub each : (j : ℕ) → j < t → p j ≡ false

module _ (p : ℕ → Bool) where
  pub over_none : Over p 0
  over_none = record { few = omega arith; each = λ j l. absurd (omega arith) }

  module _ (t : ℕ) (h : Over p t) where
    -- the next does not decide, or it does
    pub over_next : (eqb (t + 1) most_taken || p t) ≡ false → Over p (t + 1)
    over_next d =
        let b = neither _ _ d in
        record { few = let n = eqb-false (t + 1) most_taken b.0 in omega (arith, h.few); each = extend (λ (j : ℕ). p j ≡ false) t h.each b.1 }

    pub over_all : (eqb (t + 1) most_taken || p t) ≡ true → first (most_taken - 1) p ≡ t
    over_all d = go (ℕ_discrete (t + 1) most_taken)
      where
        go : Dec (t + 1 ≡ most_taken) → first (most_taken - 1) p ≡ t
        go (yes e) = first-none (most_taken - 1) p (λ j l. h.each j (omega arith)) ∙ omega arith
        go (no n) = first_is (most_taken - 1) p t (omega (arith, h.few)) h.each (rw (ne_eqb (t + 1) most_taken n) at d)

module _ (card : Card) (xs : List ℕ) (k : ℕ) where
  -- whether word number t + 1 is below L
  abbrev pub kept : ℕ → Bool
  kept t = ltb (word_at card xs t) (limit card k)

  -- 1 to 16 words are tried
  tried-some : 1 ≤ tried card xs k
  unfolding tried
  tried-some = omega arith

  tried-few : tried card xs k ≤ most_taken
  unfolding tried
  tried-few = omega (arith, first_le (most_taken - 1) kept)

  -- all but the last of them are passed over
  passed_over : (t : ℕ) → suc t < tried card xs k → limit card k ≤ word_at card xs t
  unfolding tried
  passed_over t l = ltb-false (word_at card xs t) (limit card k) (before-first (most_taken - 1) kept t (omega arith))

  -- and that one is below L, or the sixteenth
  decided : tried card xs k < most_taken → word card (orbit card xs (tried card xs k)) < limit card k
  unfolding tried
  decided l = ltb-true (word card (orbit card xs (tried card xs k))) (limit card k) (first_at (most_taken - 1) kept (omega arith))

  -- ---- taken

  pub taken_none : k ≡ 1 → taken card xs k ≡ 0
  unfolding taken
  taken_none e = rw (eq-eqb k 1 e) refl

  pub taken-tried : k ≢ 1 → taken card xs k ≡ tried card xs k
  unfolding taken
  taken-tried n = rw (ne_eqb k 1 n) refl

  -- as they are tried: t are passed over, and the next decides
  pub taken_next : k ≢ 1 → (t : ℕ) → Over kept t → (eqb (t + 1) most_taken || kept t) ≡ true → taken card xs k ≡ t + 1
  unfolding tried
  taken_next n t h d = taken-tried n ∙ ap suc (over_all kept t h d) ∙ sym (add-one t)

  -- one tie alone has rank 0, and the state stays as it is
  pub alone : k ≡ 1 → (drawn_rank card xs k ≡ 0) × (drawn_state card xs k ≡ xs)
  unfolding iterate
  alone e = (ap (λ (k : ℕ). word card (drawn_state card xs k) % k) e ∙ mod-one _, ap (orbit card xs) (taken_none e))

  -- no word is taken for one tie alone, and only then
  pub taken-none_iff : (taken card xs k ≡ 0) ↔ (k ≡ 1)
  taken-none_iff = (λ z. go z (ℕ_discrete k 1), taken_none)
    where
      go : taken card xs k ≡ 0 → Dec (k ≡ 1) → k ≡ 1
      go z (yes e) = e
      go z (no n) = absurd (omega (arith, z, taken-tried n, tried-some))

  pub taken-few : taken card xs k ≤ most_taken
  taken-few = go (ℕ_discrete k 1)
    where
      go : Dec (k ≡ 1) → taken card xs k ≤ most_taken
      go (yes e) = omega (arith, taken_none e)
      go (no n) = omega (arith, taken-tried n, tried-few)

  -- which words they are
  pub taken-over : (t : ℕ) → suc t < taken card xs k → limit card k ≤ word_at card xs t
  taken-over t l = go (ℕ_discrete k 1)
    where
      go : Dec (k ≡ 1) → limit card k ≤ word_at card xs t
      go (yes e) = absurd (omega (arith, taken_none e))
      go (no n) = passed_over t (omega (arith, taken-tried n))

  pub taken-kept : k ≢ 1 → taken card xs k < most_taken → word card (orbit card xs (taken card xs k)) < limit card k
  taken-kept n l = rw (taken-tried n) (decided (omega (arith, taken-tried n)))

  -- and the last of them serves
  pub taken-serves : drawn_rank card xs k ≡ word card (orbit card xs (taken card xs k)) % k
  taken-serves = refl
