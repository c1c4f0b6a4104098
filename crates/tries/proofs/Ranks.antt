-- The rank by a row: as it is found, and as it is drawn from the state whose next words stand in the row.
use mathlib.Core.Path.{◌≡◌, refl, sym, ap, ◌∙◌}
use mathlib.Core.Logic.{◌≢◌}
use mathlib.Core.Bool.{Bool, true, ◌||◌}
use mathlib.Core.List.{List}
use Prim.Native.Nat.{ℕ, suc, ◌+◌, ◌-◌, ◌%◌, ◌^◌}
use native.Mathlib.Numerals.{add-one}
use native.Mathlib.Decide.{ℕ_discrete}
use native.Mathlib.Omega.{arith}
use borrow.Author.Tests.{eq-eqb, ne_eqb}
use lib.Dec.{eqb, ltb}
use lib.ListN.{get_or}
use Rattle.cycle.specs.Notation.{first, tabulate}
use Rattle.cycle.specs.Fair.{largest_multiple}
use Rattle.cycle.proofs.First.{first_le}
use Rattle.tsc.specs.declared.Card.{Card}
use Rattle.tsc.specs.Step.{orbit}
use Rattle.tsc.specs.Word.{word, word_at, orbit_words}
use Rattle.tsc.proofs.Word.{orbit_words_at}
use Rattle.samples.specs.Samples.{most_taken, tried, taken, drawn_rank}
use Rattle.samples.proofs.Tried.{Over, over_all, taken_none, taken-tried, alone}
use Rattle.tries.specs.declared.row.Ranked.{Ranked}
use Rattle.tries.specs.Tries.{over, ranked}

module _ (n : ℕ) (row : List ℕ) (k : ℕ) where
  -- whether word t of the row is below L
  abbrev pub kept_at : ℕ → Bool
  kept_at t = ltb (get_or row t 0) (largest_multiple (2 ^ n) k)

  -- what is drawn, t words being passed over
  abbrev ranked_by : ℕ → Ranked
  ranked_by t = record { rank = get_or row t 0 % k; taken = suc t }

  pub ranked-alone : k ≡ 1 → record { rank = 0; taken = 0 } ≡ ranked n row k
  unfolding ranked
  ranked-alone e = simp (eq-eqb k 1 e)

  ranked_several : k ≢ 1 → ranked_by (over n row k) ≡ ranked n row k
  unfolding ranked
  ranked_several ne = simp (ne_eqb k 1 ne)

  -- as it is found: t words are passed over, and the next decides
  pub ranked_next : k ≢ 1 → (t : ℕ) → Over kept_at t → (eqb (t + 1) most_taken || kept_at t) ≡ true → record { rank = get_or row t 0 % k; taken = t + 1 } ≡ ranked n row k
  unfolding over
  ranked_next ne t h d =
      let made : ℕ → Ranked = λ taken. record { rank = get_or row t 0 % k; taken = taken } in
      ap made (add-one t) ∙ ap ranked_by (sym (over_all kept_at t h d)) ∙ ranked_several ne

-- ---- the words of the next states as a row

module _ (card : Card) (xs : List ℕ) (k : ℕ) where
  abbrev row : List ℕ
  row = orbit_words card xs most_taken

  abbrev passed : ℕ
  passed = over card.width row k

  -- as many are tried, and the same
  row-tried : suc passed ≡ tried card xs k
  unfolding over tried first tabulate orbit_words
  row-tried = refl

  row_word : get_or row passed 0 ≡ word_at card xs passed
  unfolding over
  row_word = orbit_words_at card xs most_taken passed (omega (arith, first_le (most_taken - 1) (kept_at card.width row k)))

  pub ranked-row : ranked card.width (orbit_words card xs most_taken) k ≡ record { rank = drawn_rank card xs k; taken = taken card xs k }
  ranked-row = go (ℕ_discrete k 1)
    where
      drawn : ℕ → Ranked
      drawn t = record { rank = word card (orbit card xs t) % k; taken = t }

      go : Dec (k ≡ 1) → ranked card.width row k ≡ drawn (taken card xs k)
      go (yes e) =
          let rank = sym (alone card xs k e).0 in
          let none = sym (taken_none card xs k e) in
          sym (ranked-alone card.width row k e) ∙ λ i. record { rank = rank i; taken = none i }
      go (no ne) =
          sym (ranked_several card.width row k ne) ∙ ap (λ (w : ℕ). record { rank = w % k; taken = suc passed }) row_word
          ∙ ap drawn (row-tried ∙ sym (taken-tried card xs k ne))
