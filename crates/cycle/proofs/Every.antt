-- A test of all numbers below n, which antt computes where it is closed, and the rule that it gives at each of them; and back.
use mathlib.Core.Path.{◌≡◌, refl, sym, ◌∙◌, subst}
use mathlib.Core.Bool.{Bool, true, false, and-eq-true_iff, true≢false}
use Prim.Native.Nat.{ℕ, zero, suc, ◌+◌, ◌<◌}
use native.Mathlib.Decide.{ℕ_discrete}
use native.Mathlib.Omega.{arith}
use Rattle.cycle.specs.Notation.{every}

pub every_at : (n : ℕ) (p : ℕ → Bool) → every n p ≡ true → (k : ℕ) → k < n → p k ≡ true
unfolding every
every_at zero p h k l = absurd (omega arith)
every_at (suc n) p h k l =
    let b = (and-eq-true_iff (every n p) (p n)).0 h in
    go b.1 (ℕ_discrete k n) (λ j. every_at n p b.0 k j)
  where
    go : p n ≡ true → Dec (k ≡ n) → (k < n → p k ≡ true) → p k ≡ true
    go t (yes e) ih = rw e t
    go t (no ne) ih = ih (omega arith)

pub every_of : (n : ℕ) (p : ℕ → Bool) → ((k : ℕ) → k < n → p k ≡ true) → every n p ≡ true
unfolding every
every_of zero p h = refl
every_of (suc n) p h = (and-eq-true_iff (every n p) (p n)).1 (every_of n p (λ k l. h k (omega arith)), h n (omega arith))

pub every_not : (n : ℕ) (p : ℕ → Bool) (k : ℕ) → k < n → p k ≡ false → every n p ≡ false
every_not n p k l h = go (every n p) refl
  where
    go : (b : Bool) → every n p ≡ b → b ≡ false
    go true e = absurd (true≢false (sym (every_at n p e k l) ∙ h))
    go false e = refl

-- what holds below i and at i, holds below i + 1
pub extend : (P : ℕ → Type 0) (i : ℕ) → ((j : ℕ) → j < i → P j) → P i → (j : ℕ) → j < i + 1 → P j
extend P i h t j l = go (ℕ_discrete j i)
  where
    go : Dec (j ≡ i) → P j
    go (yes e) = subst P (sym e) t
    go (no ne) = h j (omega arith)
