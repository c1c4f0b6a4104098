-- The other shovels one after the other: what holds of none, after one more, and of all.
use mathlib.Core.Path.{◌≡◌, refl, sym, ap, ◌∙◌}
use mathlib.Core.Logic.{◌≢◌}
use mathlib.Core.Bool.{Bool, true, false, not, ◌&&◌, and-true, and-eq-true_iff}
use mathlib.Core.List.{List}
use Prim.Native.Nat.{ℕ, suc, ◌+◌, ◌≤◌, ◌<◌}
use native.Mathlib.Nat.{le_refl}
use native.Mathlib.Decide.{ℕ_discrete, dec_lt}
use native.Mathlib.Omega.{arith}
use borrow.Author.Tests.{lt-ltb, le-ltb, eq-eqb, ne_eqb, eqb-true, eqb-false, not-true}
use lib.Dec.{eqb, ltb}
use lib.ListN.{length, get_or}
use Rattle.cycle.specs.Notation.{one, count}
use Rattle.cycle.proofs.Count.{count_none, count_next, count_ext, count_never, count-some, count_le}
use Rattle.changes.specs.Change.{most_time}
use Rattle.changes.specs.Others.{other_at}
use Rattle.changes.proofs.After.{LeastOther}
use Rattle.tie_others.specs.declared.others.Others.{Others}
use Rattle.tie_others.specs.Others.{joined_by, IsOthers}

module _ (times : List ℕ) (i : ℕ) where
  -- of the first n shovels but the one at place i that have time x, those that meet p
  abbrev pub having : ℕ → ℕ → (ℕ → Bool) → ℕ
  having n x p = count n (λ j. other_at times i x j && p j)

  pub having_all : (n x : ℕ) → having n x (λ j. true) ≡ count n (other_at times i x)
  having_all n x = count_ext n _ _ (λ j l. and-true (other_at times i x j))

  module _ (n : ℕ) (p : ℕ → Bool) where
    abbrev t : ℕ
    t = get_or times n 0

    -- the next shovel is of an earlier time than all; of the same; of another, or left out
    first : (x : ℕ) → n ≢ i → t < x → ((j : ℕ) → j < n → j ≢ i → x ≤ get_or times j 0) → one (p n) ≡ having (suc n) t p
    first x m l h =
        sym (count_next n _ ∙ rw (count_never n (λ j. other_at times i t j && p j) (λ j lj. none j lj (ℕ_discrete j i)), ne_eqb n i m, eq-eqb t t refl) (omega arith))
      where
        none : (j : ℕ) → j < n → Dec (j ≡ i) → (other_at times i t j && p j) ≡ false
        none j lj (yes e) = rw (eq-eqb j i e) refl
        none j lj (no k) = rw (ne_eqb j i k, ne_eqb (get_or times j 0) t (λ e. absurd (omega (arith, h j lj k)))) refl

    further : (x : ℕ) → n ≢ i → t ≡ x → having n x p + one (p n) ≡ having (suc n) x p
    further x m e = sym (count_next n _ ∙ rw (ne_eqb n i m, eq-eqb t x e) refl)

    without : (x : ℕ) → (n ≢ i → t ≢ x) → having n x p ≡ having (suc n) x p
    without x h = sym (count_next n _ ∙ go (ℕ_discrete n i))
      where
        go : Dec (n ≡ i) → having n x p + one (other_at times i x n && p n) ≡ having n x p
        go (yes e) = rw (eq-eqb n i e) (omega arith)
        go (no m) = rw (ne_eqb n i m, ne_eqb t x (h m)) (omega arith)

module _ (shovels times : List ℕ) (i y : ℕ) where
  abbrev lower : ℕ → Bool
  lower j = ltb (get_or shovels j 0) y

  -- of n shovels there are no more than n
  pub others-few : (n : ℕ) (o : Others) → IsOthers shovels times i y n o → (o.ties ≤ n) × (o.lower ≤ n)
  others-few n o h = (rw h.ties (count_le n _), rw h.lower (count_le n _))

  pub others-none : IsOthers shovels times i y 0 (record { time = most_time; ties = 0; lower = 0 })
  others-none =
      record {
        least = λ j l n. absurd (omega arith);
        ties = sym (count_none _);
        lower = sym (count_none _);
        some = λ j l n. absurd (omega arith);
        none = λ z. refl;
      }

  module _ (n : ℕ) (o : Others) (h : IsOthers shovels times i y n o) (fits : get_or times n 0 ≤ most_time) where
    abbrev now : ℕ
    now = get_or times n 0

    -- the least time stays, or is the next shovel's
    below : (x : ℕ) → x ≤ o.time → (n ≢ i → x ≤ now) → (j : ℕ) → j < suc n → j ≢ i → x ≤ get_or times j 0
    below x l k j lj m = go (ℕ_discrete j n)
      where
        go : Dec (j ≡ n) → x ≤ get_or times j 0
        go (yes e) = rw e (k (λ q. m (e ∙ q)))
        go (no d) = omega (arith, h.least j (omega arith) m)

    kept : (n ≢ i → o.time < now) → IsOthers shovels times i y (suc n) o
    kept later =
        record {
          least = below o.time (le_refl _) (λ m. omega (arith, later m));
          ties = h.ties ∙ sym (having_all times i n o.time) ∙ without times i n (λ j. true) o.time other ∙ having_all times i (suc n) o.time;
          lower = h.lower ∙ without times i n lower o.time other;
          some = λ j l m. some j l m (ℕ_discrete j n);
          none = h.none;
        }
      where
        other : n ≢ i → now ≢ o.time
        other m e = absurd (omega (arith, later m))

        some : (j : ℕ) → j < suc n → j ≢ i → Dec (j ≡ n) → 0 < o.ties
        some j l m (no d) = h.some j (omega arith) m
        some j l m (yes e) = go (ℕ_discrete o.ties 0)
          where
            go : Dec (o.ties ≡ 0) → 0 < o.ties
            go (yes z) = absurd (omega (arith, h.none z, later (λ q. m (e ∙ q))))
            go (no z) = omega arith

    pub others_next : IsOthers shovels times i y (suc n) (joined_by o (not (eqb n i)) now (lower n))
    unfolding joined_by
    others_next = go (ℕ_discrete n i) (dec_lt now o.time) (ℕ_discrete now o.time)
      where
        go : Dec (n ≡ i) → Dec (now < o.time) → Dec (now ≡ o.time) → IsOthers shovels times i y (suc n) (joined_by o (not (eqb n i)) now (lower n))
        go (yes e) d f = rw (eq-eqb n i e) (kept (λ m. absurd (m e)))
        go (no m) (yes l) f =
            rw (ne_eqb n i m, lt-ltb now o.time l)
            (record {
              least = below now (omega arith) (λ k. le_refl _);
              ties = first times i n (λ j. true) o.time m l h.least ∙ having_all times i (suc n) now;
              lower = first times i n lower o.time m l h.least;
              some = λ j lj k. omega arith;
              none = λ z. absurd (omega arith);
            })
        go (no m) (no d) (yes e) =
            rw (ne_eqb n i m, le-ltb now o.time (omega arith), eq-eqb now o.time e)
            (record {
              least = below now (omega arith) (λ k. le_refl _);
              ties = ap (λ (k : ℕ). k + 1) (h.ties ∙ sym (having_all times i n o.time)) ∙ further times i n (λ j. true) o.time m e
                  ∙ having_all times i (suc n) o.time ∙ ap (λ (x : ℕ). count (suc n) (other_at times i x)) (sym e);
              lower = ap (λ (k : ℕ). k + one (lower n)) h.lower ∙ further times i n lower o.time m e ∙ ap (λ (x : ℕ). having times i (suc n) x lower) (sym e);
              some = λ j lj k. omega arith;
              none = λ z. absurd (omega arith);
            })
        go (no m) (no d) (no e) = rw (ne_eqb n i m, le-ltb now o.time (omega arith), ne_eqb now o.time e) (kept (λ k. omega arith))

  -- of two shovels or more one is another
  pub others-least : (o : Others) → IsOthers shovels times i y (length times) o → 1 < length times → LeastOther times i o.time
  others-least o h l = record { stands = go (ℕ_discrete 0 i); least = h.least }
    where
      found : 0 < o.ties → (j : ℕ) × (j < length times) × (j ≢ i) × (get_or times j 0 ≡ o.time)
      found z =
          let r = count-some (length times) (other_at times i o.time) (omega (arith, h.ties)) in
          let b = (and-eq-true_iff (not (eqb r.0 i)) (eqb (get_or times r.0 0) o.time)).0 r.2 in
          (r.0, r.1, eqb-false r.0 i (not-true _ b.0), eqb-true (get_or times r.0 0) o.time b.1)

      go : Dec (0 ≡ i) → (j : ℕ) × (j < length times) × (j ≢ i) × (get_or times j 0 ≡ o.time)
      go (yes e) = found (h.some 1 l (λ q. absurd (omega arith)))
      go (no m) = found (h.some 0 (omega arith) m)
