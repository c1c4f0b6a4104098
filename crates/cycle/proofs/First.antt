-- The first number that meets a test.
use mathlib.Core.Path.{◌≡◌, refl, sym, ap, ap₂, ◌∙◌}
use mathlib.Core.Bool.{Bool, true, false, cond, true≢false}
use Prim.Native.Nat.{ℕ, zero, suc, ◌≤◌, ◌<◌}
use native.Mathlib.Nat.{le_refl, le_of_eq}
use native.Mathlib.Decide.{ℕ_discrete, dec_lt}
use native.Mathlib.Omega.{arith}
use Rattle.cycle.specs.Notation.{first}

-- it meets the test, and none before it does; or it is n
pub first_le : (n : ℕ) (p : ℕ → Bool) → first n p ≤ n
unfolding first
first_le zero p = omega arith
first_le (suc n) p = go (p 0) (first_le n (λ i. p (suc i)))
  where
    go : (b : Bool) {t : ℕ} → t ≤ n → cond b zero (suc t) ≤ suc n
    go true l = omega arith
    go false l = omega arith

pub first_at : (n : ℕ) (p : ℕ → Bool) → first n p < n → p (first n p) ≡ true
unfolding first
first_at zero p l = absurd (omega arith)
first_at (suc n) p l = go (p 0) refl (first_at n (λ i. p (suc i))) l
  where
    go : (b : Bool) → p 0 ≡ b → {t : ℕ} → (t < n → p (suc t) ≡ true) → cond b zero (suc t) < suc n → p (cond b zero (suc t)) ≡ true
    go true e h l = e
    go false e h l = h (omega arith)

pub before-first : (n : ℕ) (p : ℕ → Bool) (i : ℕ) → i < first n p → p i ≡ false
unfolding first
before-first zero p i l = absurd (omega arith)
before-first (suc n) p i l = go (p 0) refl (before-first n (λ i. p (suc i))) i l
  where
    go : (b : Bool) → p 0 ≡ b → {t : ℕ} → ((i : ℕ) → i < t → p (suc i) ≡ false) → (i : ℕ) → i < cond b zero (suc t) → p i ≡ false
    go true e h i l = absurd (omega arith)
    go false e h zero l = e
    go false e h (suc i) l = h i (omega arith)

-- so no later than any that does
pub first-before : (n : ℕ) (p : ℕ → Bool) (i : ℕ) → p i ≡ true → first n p ≤ i
first-before n p i h = go (dec_lt i (first n p))
  where
    go : Dec (i < first n p) → first n p ≤ i
    go (yes l) = absurd (true≢false (sym h ∙ before-first n p i l))
    go (no l) = omega arith

-- where some number meets it
pub first_meets : (n : ℕ) (p : ℕ → Bool) (i : ℕ) → i < n → p i ≡ true → (first n p < n) × (p (first n p) ≡ true)
first_meets n p i l h = go (dec_lt (first n p) n)
  where
    go : Dec (first n p < n) → (first n p < n) × (p (first n p) ≡ true)
    go (yes f) = (f, first_at n p f)
    go (no f) = absurd (true≢false (sym h ∙ before-first n p i (omega arith)))

-- ---- found

pub first_is : (n : ℕ) (p : ℕ → Bool) (i : ℕ) → i < n → ((j : ℕ) → j < i → p j ≡ false) → p i ≡ true → first n p ≡ i
unfolding first
first_is zero p i l none h = absurd (omega arith)
first_is (suc n) p zero l none h = rw h refl
first_is (suc n) p (suc i) l none h = rw (none 0 (omega arith)) (ap suc (first_is n (λ i. p (suc i)) i (omega arith) (λ j lj. none (suc j) (omega arith)) h))

pub first-none : (n : ℕ) (p : ℕ → Bool) → ((i : ℕ) → i < n → p i ≡ false) → first n p ≡ n
unfolding first
first-none zero p h = refl
first-none (suc n) p h = rw (h 0 (omega arith)) (ap suc (first-none n (λ i. p (suc i)) (λ i l. h (suc i) (omega arith))))

-- tests that agree have the same first number
pub first_ext : (n : ℕ) (p q : ℕ → Bool) → ((i : ℕ) → i < n → p i ≡ q i) → first n p ≡ first n q
unfolding first
first_ext zero p q h = refl
first_ext (suc n) p q h =
    ap₂ (λ (b : Bool) (t : ℕ). cond b zero (suc t)) (h 0 (omega arith)) (first_ext n (λ i. p (suc i)) (λ i. q (suc i)) (λ i l. h (suc i) (omega arith)))

-- ---- the first of the numbers below n at which g is least

pub first-least : (n : ℕ) (g : ℕ → ℕ) → 0 < n → (x : ℕ) × (x < n) × ((z : ℕ) → z < n → g x ≤ g z) × ((z : ℕ) → z < x → g x < g z)
first-least zero g l = absurd (omega arith)
first-least (suc zero) g l = (0, l, λ z lz. le_of_eq (ap g (omega arith)), λ z lz. absurd (omega arith))
first-least (suc (suc n)) g l = let (x, xn, least, first) = first-least (suc n) g (omega arith) in go x xn least first (dec_lt (g (suc n)) (g x))
  where
    go : (x : ℕ) → x < suc n → ((z : ℕ) → z < suc n → g x ≤ g z) → ((z : ℕ) → z < x → g x < g z) → Dec (g (suc n) < g x)
        → (x : ℕ) × (x < suc (suc n)) × ((z : ℕ) → z < suc (suc n) → g x ≤ g z) × ((z : ℕ) → z < x → g x < g z)
    go x xn least first (yes lt) = (suc n, le_refl _, λ z lz. go₂ z lz (ℕ_discrete z (suc n)), λ z lz. omega (arith, least z lz))
      where
        go₂ : (z : ℕ) → z < suc (suc n) → Dec (z ≡ suc n) → g (suc n) ≤ g z
        go₂ z lz (yes e) = le_of_eq (ap g (sym e))
        go₂ z lz (no ne) = omega (arith, least z (omega arith))
    go x xn least first (no ge) = (x, omega arith, λ z lz. go₂ z lz (ℕ_discrete z (suc n)), first)
      where
        go₂ : (z : ℕ) → z < suc (suc n) → Dec (z ≡ suc n) → g x ≤ g z
        go₂ z lz (yes e) = rw e (omega arith)
        go₂ z lz (no ne) = least z (omega arith)
