-- A least time: there is one, and the ties are the shovels that have it.
use mathlib.Core.Path.{◌≡◌, refl, sym, ◌∙◌}
use mathlib.Core.Bool.{true, cond}
use mathlib.Core.List.{List, [], ◌∷◌}
use Prim.Native.Nat.{ℕ, zero, suc, ◌+◌, ◌≤◌, ◌<◌, min}
use Rattle.std.proofs.Common.{Some, rules}
use Rattle.std.specs.List.{fold, reduce}
use native.Mathlib.Nat.{le_refl}
use native.Mathlib.Decide.{dec_lt}
use native.Mathlib.Numerals.{add-one}
use native.Mathlib.Omega.{arith}
use borrow.Author.Tests.{eqb-true, eq-eqb, le-leb, leb-true, lt-ltb, le-ltb}
use lib.Dec.{eqb, leb, ltb}
use lib.ListN.{length, get_or}
use Rattle.cycle.specs.Notation.{count}
use Rattle.cycle.proofs.Every.{every_at, every_of, extend}
use Rattle.cycle.proofs.Count.{same_test, count_ext, count_le, count_pos}
use Rattle.ties.specs.Ties.{is_tie, ties}
use Rattle.ties.specs.Least.{LeastOf}

module _ (times : List ℕ) where
  -- ---- one place after the other

  pub least_first : LeastOf times 1 (get_or times 0 0)
  least_first = record { stands = (0, le_refl 1, refl); least = λ j l. extend (λ (j : ℕ). get_or times 0 0 ≤ get_or times j 0) 0 (λ j l. absurd (omega arith)) (le_refl _) j (omega arith) }

  -- the least of the first i and of one more
  pub least_next : (i x : ℕ) → LeastOf times i x → LeastOf times (i + 1) (cond (ltb (get_or times i 0) x) (get_or times i 0) x)
  least_next i x h = go (dec_lt (get_or times i 0) x)
    where
      go : Dec (get_or times i 0 < x) → LeastOf times (i + 1) (cond (ltb (get_or times i 0) x) (get_or times i 0) x)
      go (yes l) =
          rw (lt-ltb (get_or times i 0) x l)
          (record {
            stands = (i, omega arith, refl);
            least = extend (λ (j : ℕ). get_or times i 0 ≤ get_or times j 0) i (λ j lj. omega (arith, h.least j lj)) (le_refl _);
          })
      go (no n) =
          let s = h.stands in
          let l : x ≤ get_or times i 0 = omega arith in
          rw (le-ltb (get_or times i 0) x l) (record { stands = (s.0, omega (arith, s.1), s.2); least = extend (λ (j : ℕ). x ≤ get_or times j 0) i h.least l })

  pub least_exists : (n : ℕ) → 0 < n → (x : ℕ) × LeastOf times n x
  least_exists zero l = absurd (omega arith)
  least_exists (suc zero) l = (get_or times 0 0, least_first)
  least_exists (suc (suc n)) l =
      let r = least_exists (suc n) (omega arith) in
      (cond (ltb (get_or times (suc n) 0) r.0) (get_or times (suc n) 0) r.0, rw (sym (add-one (suc n))) (least_next (suc n) r.0 r.1))

  -- ---- ties

  pub tie_of : (i : ℕ) → ((j : ℕ) → j < length times → get_or times i 0 ≤ get_or times j 0) → is_tie times i ≡ true
  unfolding is_tie
  tie_of i h = every_of (length times) _ (λ j l. le-leb (get_or times i 0) (get_or times j 0) (h j l))

  pub tie_le : (i : ℕ) → is_tie times i ≡ true → (j : ℕ) → j < length times → get_or times i 0 ≤ get_or times j 0
  unfolding is_tie
  tie_le i h j l = leb-true (get_or times i 0) (get_or times j 0) (every_at (length times) (λ j. leb (get_or times i 0) (get_or times j 0)) h j l)

  module _ (x : ℕ) (h : LeastOf times (length times) x) where
    pub tie_least : (i : ℕ) → i < length times → is_tie times i ≡ eqb (get_or times i 0) x
    tie_least i l =
        let s = h.stands in
        same_test (is_tie times i) (eqb (get_or times i 0) x)
        (λ t. eq-eqb (get_or times i 0) x (omega (arith, tie_le i t s.0 s.1, s.2, h.least i l)))
        (λ e. tie_of i (λ j lj. omega (arith, eqb-true (get_or times i 0) x e, h.least j lj)))

    pub ties_counted : count (length times) (λ i. eqb (get_or times i 0) x) ≡ ties times
    unfolding ties
    ties_counted = sym (count_ext (length times) (is_tie times) (λ i. eqb (get_or times i 0) x) tie_least)

  pub ties-some : 0 < length times → 0 < ties times
  unfolding ties
  ties-some l =
      let r = least_exists (length times) l in
      let s = r.1.stands in
      count_pos (length times) (is_tie times) s.0 s.1 (tie_least r.0 r.1 s.0 s.1 ∙ eq-eqb (get_or times s.0 0) r.0 s.2)

  pub ties_le : ties times ≤ length times
  unfolding ties
  ties_le = count_le (length times) (is_tie times)

-- ---- the least of a list, as it is folded

folded : (x : ℕ) (xs : List ℕ) → LeastOf (x ∷ xs) (length (x ∷ xs)) (fold min x xs)
folded x [] = record { stands = (0, omega arith, refl); least = go }
  where
    go : (j : ℕ) → j < 1 → x ≤ get_or (x ∷ []) j 0
    go zero l = le_refl x
    go (suc j) l = absurd (omega arith)
folded x (y ∷ ys) =
    let h = folded (min x y) ys in
    record { stands = place h.stands.0 h.stands.1 h.stands.2 (dec_lt y x); least = below h.least }
  where
    place : (i : ℕ) → i < suc (length ys) → get_or (min x y ∷ ys) i 0 ≡ fold min (min x y) ys → Dec (y < x)
        → (i : ℕ) × (i < suc (suc (length ys))) × (get_or (x ∷ y ∷ ys) i 0 ≡ fold min (min x y) ys)
    place zero l e (yes b) = (1, omega arith, omega (arith, e))
    place zero l e (no b) = (0, omega arith, omega (arith, e))
    place (suc i) l e d = (suc (suc i), omega arith, e)

    below : ((j : ℕ) → j < suc (length ys) → fold min (min x y) ys ≤ get_or (min x y ∷ ys) j 0) → (j : ℕ) → j < suc (suc (length ys)) → fold min (min x y) ys ≤ get_or (x ∷ y ∷ ys) j 0
    below h zero l = omega (arith, h 0 (omega arith))
    below h (suc zero) l = omega (arith, h 0 (omega arith))
    below h (suc (suc j)) l = h (suc j) (omega arith)

pub least-reduced : (times : List ℕ) (x : ℕ) → Some x ≡ reduce min times → LeastOf times (length times) x
least-reduced [] x e = absurd (search (rules, e))
least-reduced (y ∷ ys) x e = let s : x ≡ fold min y ys = grind (arith, e) in rw s (folded y ys)
