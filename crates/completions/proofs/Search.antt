-- A search among the numbers below n.
use mathlib.Core.Path.{◌≡◌}
use mathlib.Core.Logic.Dec
use mathlib.Core.Logic.{◌⊎◌, inl, inr}
use Prim.Native.Nat.{ℕ, zero, suc, ◌<◌}
use native.Mathlib.Nat.{le_refl}
use native.Mathlib.Decide.{ℕ_discrete}
use native.Mathlib.Omega.{arith}

-- a number below n has A, and none before it has
abbrev pub First : (ℕ → Type 0) → ℕ → Type 0
First A n = (k : ℕ) × (k < n) × A k × ((j : ℕ) → j < k → A j → ⊥)

-- no number below n has A
abbrev pub None : (ℕ → Type 0) → ℕ → Type 0
None A n = (j : ℕ) → j < n → A j → ⊥

module _ (A : ℕ → Type 0) (dec : (k : ℕ) → Dec (A k)) where
  pub search_first : (n : ℕ) → First A n ⊎ None A n
  search_first zero = inr (λ j l. absurd (omega arith))
  search_first (suc n) = go (search_first n) (dec n)
    where
      go : First A n ⊎ None A n → Dec (A n) → First A (suc n) ⊎ None A (suc n)
      go (inl (k, l, a, b)) d = inl (k, omega arith, a, b)
      go (inr none) (yes a) = inl (n, le_refl (suc n), a, none)
      go (inr none) (no q) = inr (λ j l. at j l (ℕ_discrete j n))
        where
          at : (j : ℕ) → j < suc n → Dec (j ≡ n) → A j → ⊥
          at j l (yes e) a = q (rw e at a)
          at j l (no ne) a = none j (omega arith) a

  pub some_dec : (n : ℕ) → Dec ((k : ℕ) × (k < n) × A k)
  some_dec n = go (search_first n)
    where
      go : First A n ⊎ None A n → Dec ((k : ℕ) × (k < n) × A k)
      go (inl (k, l, a, b)) = yes (k, l, a)
      go (inr none) = no (λ r. none r.0 r.1 r.2)

pub all_dec : (A : ℕ → Type 0) → ((k : ℕ) → Dec (A k)) → (n : ℕ) → Dec ((k : ℕ) → k < n → A k)
all_dec A dec n = go (search_first (λ k. A k → ⊥) (λ k. Dec.not (dec k)) n)
  where
    go : First (λ k. A k → ⊥) n ⊎ None (λ k. A k → ⊥) n → Dec ((k : ℕ) → k < n → A k)
    go (inl (k, l, q, b)) = no (λ h. q (h k l))
    go (inr none) = yes (λ k l. at k l (dec k))
      where
        at : (k : ℕ) → k < n → Dec (A k) → A k
        at k l (yes a) = a
        at k l (no q) = absurd (none k l q)
