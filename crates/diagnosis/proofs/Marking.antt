-- Marks, one more and along the way of a place; and how often each entry stands, counted in an array.
use mathlib.Core.Path.{◌≡◌, refl, sym, ap, ap₂, ◌∙◌, subst}
use mathlib.Core.Logic.{◌↔◌, ◌⊎◌, inl, inr}
use mathlib.Core.Bool.{Bool, true, false}
use mathlib.Core.List.{List}
use Prim.Native.Nat.{ℕ, zero, suc, ◌+◌, ◌<◌}
use native.Mathlib.Nat.{le_refl}
use native.Mathlib.Decide.{ℕ_discrete}
use native.Mathlib.Numerals.{add-one}
use native.Mathlib.Omega.{arith}
use borrow.Author.Tests.{eq-eqb, ne_eqb}
use lib.Dec.{eqb}
use lib.ListN.{length, get_or, set, length-set, replicate}
use lib.Seq.{get_or-set_same, get_or-set_other}
use Rattle.cycle.specs.Notation.{one, iterate}
use Rattle.cycle.proofs.Count.{count_none, counted_next}
use Rattle.completions.specs.Finding.{uses}
use Rattle.diagnosis.specs.Marks.{marked, marks_along}

-- ---- marks

pub none-marked : (n v : ℕ) → marked (replicate n false) v ≡ false
none-marked zero v = refl
none-marked (suc n) zero = refl
none-marked (suc n) (suc v) = none-marked n v

pub one_more : (marks : List Bool) (x v : ℕ) → x < length marks → (marked (set marks x true) v ≡ true) ↔ ((marked marks v ≡ true) ⊎ (x ≡ v))
one_more marks x v l = (λ h. forth h (ℕ_discrete v x), back)
  where
    forth : marked (set marks x true) v ≡ true → Dec (v ≡ x) → (marked marks v ≡ true) ⊎ (x ≡ v)
    forth h (yes e) = inr (sym e)
    forth h (no ne) = inl (sym (get_or-set_other marks x v true false ne) ∙ h)

    back : (marked marks v ≡ true) ⊎ (x ≡ v) → marked (set marks x true) v ≡ true
    back r = go r (ℕ_discrete v x)
      where
        go : (marked marks v ≡ true) ⊎ (x ≡ v) → Dec (v ≡ x) → marked (set marks x true) v ≡ true
        go r (yes e) = rw e (get_or-set_same marks x true false l)
        go (inl h) (no ne) = get_or-set_other marks x v true false ne ∙ h
        go (inr e) (no ne) = absurd (ne (sym e))

pub along_length : (f : ℕ → ℕ) (x n : ℕ) (marks : List Bool) → length (marks_along f x n marks) ≡ length marks
unfolding marks_along
along_length f x zero marks = refl
along_length f x (suc n) marks = length-set (marks_along f x n marks) (iterate f n x) true ∙ along_length f x n marks

pub along_next : (f : ℕ → ℕ) (x n : ℕ) (marks : List Bool) {now : List Bool} {y : ℕ} → now ≡ marks_along f x n marks → y ≡ iterate f n x → set now y true ≡ marks_along f x (n + 1) marks
unfolding marks_along
along_next f x n marks e q = ap₂ (λ (l : List Bool) (y : ℕ). set l y true) e q ∙ ap (λ (k : ℕ). marks_along f x k marks) (sym (add-one n))

-- v is at one of the first n places of the way from x
abbrev OnWay : (ℕ → ℕ) → ℕ → ℕ → ℕ → Type 0
OnWay f x n v = (k : ℕ) × (k < n) × (iterate f k x ≡ v)

pub along_marked : (f : ℕ → ℕ) (x n : ℕ) (marks : List Bool) → ((k : ℕ) → iterate f k x < length marks) → (v : ℕ)
    → (marked (marks_along f x n marks) v ≡ true) ↔ ((marked marks v ≡ true) ⊎ ((k : ℕ) × (k < n) × (iterate f k x ≡ v)))
unfolding marks_along
along_marked f x zero marks b v = (inl, back)
  where
    back : (marked marks v ≡ true) ⊎ OnWay f x 0 v → marked marks v ≡ true
    back (inl h) = h
    back (inr (k, lk, e)) = absurd (omega arith)
along_marked f x (suc n) marks b v =
    let ih = along_marked f x n marks b v in
    let more = one_more (marks_along f x n marks) (iterate f n x) v (subst (λ (m : ℕ). iterate f n x < m) (sym (along_length f x n marks)) (b n)) in
    (λ h. forth ih.0 (more.0 h), λ r. more.1 (back ih.1 r))
  where
    forth : (marked (marks_along f x n marks) v ≡ true → (marked marks v ≡ true) ⊎ OnWay f x n v)
        → (marked (marks_along f x n marks) v ≡ true) ⊎ (iterate f n x ≡ v) → (marked marks v ≡ true) ⊎ OnWay f x (suc n) v
    forth ih (inr e) = inr (n, le_refl (suc n), e)
    forth ih (inl h) = wider (ih h)
      where
        wider : (marked marks v ≡ true) ⊎ OnWay f x n v → (marked marks v ≡ true) ⊎ OnWay f x (suc n) v
        wider (inl h) = inl h
        wider (inr (k, lk, e)) = inr (k, omega arith, e)

    back : ((marked marks v ≡ true) ⊎ OnWay f x n v → marked (marks_along f x n marks) v ≡ true)
        → (marked marks v ≡ true) ⊎ OnWay f x (suc n) v → (marked (marks_along f x n marks) v ≡ true) ⊎ (iterate f n x ≡ v)
    back ih (inl h) = inl (ih (inl h))
    back ih (inr (k, lk, e)) = at (ℕ_discrete k n)
      where
        at : Dec (k ≡ n) → (marked (marks_along f x n marks) v ≡ true) ⊎ (iterate f n x ≡ v)
        at (yes q) = inr (ap (λ (j : ℕ). iterate f j x) (sym q) ∙ e)
        at (no q) = inl (ih (inr (k, omega arith, e)))

-- ---- counting the places of each entry

pub uses-none : (f : ℕ → ℕ) (v : ℕ) → uses 0 f v ≡ 0
uses-none f v = count_none (λ x. eqb (f x) v)

pub uses_next : (f : ℕ → ℕ) (x : ℕ) (counts : List ℕ) → f x < length counts → ((v : ℕ) → get_or counts v 0 ≡ uses x f v)
    → (v : ℕ) → get_or (set counts (f x) (get_or counts (f x) 0 + 1)) v 0 ≡ uses (x + 1) f v
uses_next f x counts l h v = go (ℕ_discrete v (f x))
  where
    go : Dec (v ≡ f x) → get_or (set counts (f x) (get_or counts (f x) 0 + 1)) v 0 ≡ uses (x + 1) f v
    go (yes e) = rw e (get_or-set_same counts (f x) _ 0 l ∙ counted_next x (λ y. eqb (f y) (f x)) (h (f x)) (sym (ap one (eq-eqb (f x) (f x) refl))))
    go (no ne) =
        let z : get_or counts v 0 + 0 ≡ uses (x + 1) f v = counted_next x (λ y. eqb (f y) v) (h v) (sym (ap one (ne_eqb (f x) v (λ e. ne (sym e))))) in
        get_or-set_other counts (f x) v _ 0 ne ∙ (omega arith)
