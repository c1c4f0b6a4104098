-- The first place that clashes with another and the first that it clashes with are the first pair; where none clashes, no entry stands twice.
use mathlib.Core.Path.{◌≡◌, refl, sym, ap, ◌∙◌}
use mathlib.Core.Logic.{◌↔◌, ◌⊎◌, ◌≢◌, inl, inr}
use mathlib.Core.Bool.{Bool, true, false, ◌||◌, ◌&&◌, true≢false, and-eq-true_iff}
use Prim.Native.Nat.{ℕ, ◌≤◌, ◌<◌}
use native.Mathlib.Omega.{arith}
use borrow.Author.Tests.{eq-eqb, ne_eqb, eqb-true, lt-ltb, le-ltb, ltb-true}
use lib.Dec.{eqb, ltb}
use Rattle.cycle.specs.Notation.{first}
use Rattle.cycle.proofs.Count.{count-some, count_two, two_met}
use Rattle.cycle.proofs.First.{first_at, first-before, first_meets}
use Rattle.cycle.proofs.Iterate.{MapsBelow}
use Rattle.completions.specs.Completion.{Injective}
use Rattle.completions.proofs.Completion.{once_of_none}
use Rattle.completions.proofs.Fewest.{Clash, FirstPair}
use Rattle.completions.specs.Finding.{uses, clashes, clash, clashes_with}

pub either : (a b : Bool) → ((a || b) ≡ true) ↔ ((a ≡ true) ⊎ (b ≡ true))
either true b = (λ h. inl refl, λ h. refl)
either false b = (λ h. inr h, back)
  where
    back : (◌≡◌ {A = Bool} false true) ⊎ (b ≡ true) → b ≡ true
    back (inl e) = absurd (true≢false (sym e))
    back (inr e) = e

clash_of : (f : ℕ → ℕ) (x y : ℕ) → clash x (f x) y (f y) ≡ true → Clash f x y
clash_of f x y h = go ((either (eqb (f x) (f y)) (eqb (f x) y && eqb (f y) x)).0 h)
  where
    go : (eqb (f x) (f y) ≡ true) ⊎ ((eqb (f x) y && eqb (f y) x) ≡ true) → Clash f x y
    go (inl e) = inl (eqb-true (f x) (f y) e)
    go (inr e) = let (a, b) = (and-eq-true_iff (eqb (f x) y) (eqb (f y) x)).0 e in inr (eqb-true (f x) y a, eqb-true (f y) x b)

of_clash : (f : ℕ → ℕ) (x y : ℕ) → Clash f x y → clash x (f x) y (f y) ≡ true
of_clash f x y (inl e) = simp (eq-eqb (f x) (f y) e)
of_clash f x y (inr (a, b)) = (either (eqb (f x) (f y)) (eqb (f x) y && eqb (f y) x)).1 (inr (simp (eq-eqb (f x) y a, eq-eqb (f y) x b)))

-- past x it is enough to look at the entries
pub with_past : (f : ℕ → ℕ) (x y : ℕ) (b : Bool) → x < y → clash x (f x) y (f y) ≡ b → clashes_with f x y ≡ b
with_past f x y b l e = simp (lt-ltb x y l) e

module _ (N : ℕ) (f : ℕ → ℕ) where
  pub clashing : (x : ℕ) → (1 < uses N f (f x)) ⊎ (f (f x) ≡ x) → clashes N f x ≡ true
  clashing x (inl l) = (either (ltb 1 (uses N f (f x))) (eqb (f (f x)) x)).1 (inl (lt-ltb 1 (uses N f (f x)) l))
  clashing x (inr e) = (either (ltb 1 (uses N f (f x))) (eqb (f (f x)) x)).1 (inr (eq-eqb (f (f x)) x e))

  pub not_clashing : (x : ℕ) → uses N f (f x) ≤ 1 → f (f x) ≢ x → clashes N f x ≡ false
  not_clashing x l ne = simp (le-ltb 1 (uses N f (f x)) l, ne_eqb (f (f x)) x ne)

  -- both places of an entry that stands twice clash
  twice : (x y : ℕ) → x < y → y < N → f x ≡ f y → 1 < uses N f (f x)
  twice x y l yN e = two_met N (λ z. eqb (f z) (f x)) x y l yN (eq-eqb (f x) (f x) refl) (eq-eqb (f y) (f x) (sym e))

  clashes_of : (x y : ℕ) → x < y → y < N → Clash f x y → clashes N f x ≡ true
  clashes_of x y l yN (inl e) = clashing x (inl (twice x y l yN e))
  clashes_of x y l yN (inr (a, b)) = clashing x (inr (ap f a ∙ b))

  -- where no place clashes, no entry stands twice
  pub injective : first N (clashes N f) ≡ N → Injective N f
  injective none x y xN yN e =
      once_of_none N f (λ v. true)
      (λ r. omega (arith, r.apart, r.below, first-before N (clashes N f) r.one (clashes_of r.one r.other r.apart r.below (inl r.same))))
      x y xN yN refl refl e

  module _ (below : MapsBelow N f) (moves : (z : ℕ) → z < N → f z ≢ z) (iN : first N (clashes N f) < N) where
    abbrev i : ℕ
    i = first N (clashes N f)

    with_later : (1 < uses N f (f i)) ⊎ (f (f i) ≡ i) → (y : ℕ) × (y < N) × (clashes_with f i y ≡ true)
    with_later (inl l) =
        let (y, yN, ey, c) = count_two N (λ z. eqb (f z) (f i)) l in
        let (x, xy, ex) = count-some y (λ z. eqb (f z) (f i)) c in
        let fx : f x ≡ f i = eqb-true (f x) (f i) ex in
        let fy : f y ≡ f i = eqb-true (f y) (f i) ey in
        let ix : i ≤ x = first-before N (clashes N f) x (clashing x (inl (rw fx l))) in
        (y, yN, (and-eq-true_iff (ltb i y) (clash i (f i) y (f y))).1 (lt-ltb i y (omega arith), of_clash f i y (inl (sym fy))))
    with_later (inr e) =
        let yN : f i < N = below i iN in
        let iy : i ≤ f i = first-before N (clashes N f) (f i) (clashing (f i) (inr (ap f e))) in
        let ne : f i ≢ i = moves i iN in
        (f i, yN, (and-eq-true_iff (ltb i (f i)) (clash i (f i) (f i) (f (f i)))).1 (lt-ltb i (f i) (omega arith), of_clash f i (f i) (inr (refl, e))))

    pub first_pair : let j = first N (clashes_with f i) in FirstPair N f i j
    first_pair = go (with_later (by ((either (ltb 1 (uses N f (f i))) (eqb (f (f i)) i)).0 (first_at N (clashes N f) iN))))
      where
        by : (ltb 1 (uses N f (f i)) ≡ true) ⊎ (eqb (f (f i)) i ≡ true) → (1 < uses N f (f i)) ⊎ (f (f i) ≡ i)
        by (inl h) = inl (ltb-true 1 (uses N f (f i)) h)
        by (inr h) = inr (eqb-true (f (f i)) i h)

        go : (y : ℕ) × (y < N) × (clashes_with f i y ≡ true) → FirstPair N f i (first N (clashes_with f i))
        go (y, yN, h) =
            let j = first N (clashes_with f i) in
            let (jN, at) = first_meets N (clashes_with f i) y yN h in
            let (l, c) = (and-eq-true_iff (ltb i j) (clash i (f i) j (f j))).0 at in
            record {
              apart = ltb-true i j l;
              below = jN;
              clash = clash_of f i j c;
              least = λ a b ab bN c. first-before N (clashes N f) a (clashes_of a b ab bN c);
              next = λ b ib bN c. first-before N (clashes_with f i) b ((and-eq-true_iff (ltb i b) (clash i (f i) b (f b))).1 (lt-ltb i b ib, of_clash f i b c));
            }
