-- Finite sums.
use mathlib.Core.Path.{◌≡◌, refl, sym, ap, ap₂, ◌∙◌}
use Prim.Native.Nat.{ℕ, zero, suc, ◌+◌, ◌*◌, ◌%◌, ◌≤◌, ◌<◌}
use native.Mathlib.Nat.{add-zero, add-suc, zero-mul, suc-mul, mul-zero, le_refl, add-le-add, add-mul, mul-one}
use native.Mathlib.Decide.{ℕ_discrete}
use native.Mathlib.Omega.{arith}
use Rattle.cycle.specs.Notation.{sum}

pub sum_ext : (n : ℕ) (f g : ℕ → ℕ) → ((i : ℕ) → i < n → f i ≡ g i) → sum n f ≡ sum n g
unfolding sum
sum_ext zero f g h = refl
sum_ext (suc n) f g h = ap₂ (λ (x y : ℕ). x + y) (sum_ext n f g (λ i l. h i (omega arith))) (h n (le_refl (suc n)))

pub sum_mono : (n : ℕ) (f g : ℕ → ℕ) → ((i : ℕ) → i < n → f i ≤ g i) → sum n f ≤ sum n g
unfolding sum
sum_mono zero f g h = le_refl 0
sum_mono (suc n) f g h = add-le-add (sum_mono n f g (λ i l. h i (omega arith))) (h n (le_refl (suc n)))

pub sum_const : (n c : ℕ) → sum n (λ i. c) ≡ n * c
unfolding sum
sum_const zero c = sym (zero-mul c)
sum_const (suc n) c = rw suc-mul (ap (λ (x : ℕ). x + c) (sum_const n c))

pub sum_zero : (n : ℕ) → sum n (λ i. 0) ≡ 0
sum_zero n = sum_const n 0 ∙ mul-zero n

pub sum_one : (n : ℕ) → sum n (λ i. 1) ≡ n
sum_one n = sum_const n 1 ∙ mul-one n

pub sum_add : (n : ℕ) (f g : ℕ → ℕ) → sum n (λ i. f i + g i) ≡ sum n f + sum n g
unfolding sum
sum_add zero f g = refl
sum_add (suc n) f g = omega (arith, sum_add n f g)

pub sum_scale : (n c : ℕ) (f : ℕ → ℕ) → sum n (λ i. f i * c) ≡ sum n f * c
unfolding sum
sum_scale zero c f = sym (zero-mul c)
sum_scale (suc n) c f = omega (arith, sum_scale n c f, add-mul (sum n f) (f n) c)

pub sum_swap : (m n : ℕ) (f : ℕ → ℕ → ℕ) → sum m (λ i. sum n (f i)) ≡ sum n (λ j. sum m (λ i. f i j))
unfolding sum
sum_swap zero n f = sym (sum_zero n)
sum_swap (suc m) n f = ap (λ (x : ℕ). x + sum n (f m)) (sum_swap m n f) ∙ sym (sum_add n (λ j. sum m (λ i. f i j)) (f m))

pub sum_split : (m n : ℕ) (f : ℕ → ℕ) → sum (m + n) f ≡ sum m f + sum n (λ i. f (m + i))
unfolding sum
sum_split m zero f = rw (add-zero, add-zero)
sum_split m (suc n) f = rw add-suc (omega (arith, sum_split m n f))

-- a sum over q blocks of k terms
pub sum_blocks : (q k : ℕ) (f : ℕ → ℕ) → sum (q * k) f ≡ sum q (λ y. sum k (λ x. f (y * k + x)))
unfolding sum
sum_blocks zero k f = rw zero-mul
sum_blocks (suc q) k f = rw suc-mul (sum_split (q * k) k f ∙ ap (λ (x : ℕ). x + sum k (λ x. f (q * k + x))) (sum_blocks q k f))

-- terms of the same parity give sums of the same parity
pub sum-parity : (n : ℕ) (f g : ℕ → ℕ) → ((i : ℕ) → i < n → f i % 2 ≡ g i % 2) → sum n f % 2 ≡ sum n g % 2
unfolding sum
sum-parity zero f g h = refl
sum-parity (suc n) f g h = omega (arith, sum-parity n f g (λ i l. h i (omega arith)), h n (le_refl (suc n)))

pub term_le_sum : (n : ℕ) (f : ℕ → ℕ) (k : ℕ) → k < n → f k ≤ sum n f
unfolding sum
term_le_sum zero f k l = absurd (omega arith)
term_le_sum (suc n) f k l = go (ℕ_discrete k n) (λ j. term_le_sum n f k j)
  where
    go : Dec (k ≡ n) → (k < n → f k ≤ sum n f) → f k ≤ sum n f + f n
    go (yes e) ih = rw e (omega arith)
    go (no ne) ih = let t = ih (omega arith) in omega arith

pub le_sum : (n : ℕ) (f : ℕ → ℕ) → ((x : ℕ) → x < n → 1 ≤ f x) → n ≤ sum n f
le_sum n f h = rw sum_one at (sum_mono n (λ x. 1) f h)

pub sum_le : (n : ℕ) (f : ℕ → ℕ) → ((x : ℕ) → x < n → f x ≤ 1) → sum n f ≤ n
sum_le n f h = rw sum_one at (sum_mono n f (λ x. 1) h)
