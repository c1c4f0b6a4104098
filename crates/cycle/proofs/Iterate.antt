-- A function applied repeatedly.
use mathlib.Core.Path.{◌≡◌, refl, sym, ap, ◌∙◌}
use Prim.Native.Nat.{ℕ, zero, suc, ◌+◌, ◌*◌, ◌/◌, ◌%◌, ◌≤◌, ◌<◌}
use native.Mathlib.Nat.{zero-add, suc-add, zero-mul, suc-mul, mod-add-div'}
use native.Mathlib.Numerals.{add-one}
use native.Mathlib.Omega.{arith}
use Rattle.cycle.specs.Notation.{iterate}

module _ {A : Type 0} (f : A → A) where
  pub iterate_add : (j k : ℕ) (x : A) → iterate f (j + k) x ≡ iterate f j (iterate f k x)
  unfolding iterate
  iterate_add zero k x = rw zero-add
  iterate_add (suc j) k x = rw suc-add (ap f (iterate_add j k x))

  -- what f leaves as it is stays so
  pub iterate_fixed : (x : A) → f x ≡ x → (t : ℕ) → iterate f t x ≡ x
  unfolding iterate
  iterate_fixed x e zero = refl
  iterate_fixed x e (suc t) = ap f (iterate_fixed x e t) ∙ e

  -- what returns after p applications returns after each multiple of p, so only the remainder by p counts
  module _ (p : ℕ) (z : A) (back : iterate f p z ≡ z) where
    pub iterate_rounds : (j : ℕ) → iterate f (j * p) z ≡ z
    unfolding iterate
    iterate_rounds zero = rw zero-mul
    iterate_rounds (suc j) = rw (suc-mul, iterate_add, back) (iterate_rounds j)

    pub iterate_mod : (k : ℕ) → iterate f (k % p) z ≡ iterate f k z
    iterate_mod k =
        ap (iterate f (k % p)) (sym (iterate_rounds (k / p))) ∙ sym (iterate_add (k % p) (k / p * p) z)
        ∙ ap (λ (x : ℕ). iterate f x z) (mod-add-div' k p)

-- where g undoes each application of f, as many of g undo as many of f
pub iterate-undone : {A : Type 0} (f g : A → A) (x : A) → ((t : ℕ) → g (f (iterate f t x)) ≡ iterate f t x) → (t : ℕ) → iterate g t (iterate f t x) ≡ x
unfolding iterate
iterate-undone f g x h zero = refl
iterate-undone f g x h (suc t) =
    let y = f (iterate f t x) in
    ap (λ (n : ℕ). iterate g n y) (sym (add-one t)) ∙ iterate_add g t 1 y ∙ ap (iterate g t) (h t) ∙ iterate-undone f g x h t

-- f maps the numbers below N to numbers below N
abbrev pub MapsBelow : ℕ → (ℕ → ℕ) → Type 0
MapsBelow N f = (x : ℕ) → x < N → f x < N

pub iterate-below : (N : ℕ) (f : ℕ → ℕ) → MapsBelow N f → (k : ℕ) → MapsBelow N (iterate f k)
unfolding iterate
iterate-below N f h zero x l = l
iterate-below N f h (suc k) x l = h (iterate f k x) (iterate-below N f h k x l)

-- maps that agree on the way from x go the same way
pub iterate_agree : (f g : ℕ → ℕ) (n x : ℕ) → ((k : ℕ) → k < n → g (iterate f k x) ≡ f (iterate f k x)) → (k : ℕ) → k ≤ n → iterate g k x ≡ iterate f k x
unfolding iterate
iterate_agree f g n x h zero l = refl
iterate_agree f g n x h (suc k) l = ap g (iterate_agree f g n x h k (omega arith)) ∙ h k l
