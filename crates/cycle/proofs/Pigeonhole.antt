-- How often a function on 0 .. n - 1 takes a value: the pigeonhole principle, and sums along a permutation.
use mathlib.Core.Path.{◌≡◌, refl, sym, ap, ◌∙◌}
use mathlib.Core.Bool.{Bool, true, false}
use mathlib.Core.Logic.{◌≢◌}
use Prim.Native.Nat.{ℕ, zero, suc, ◌+◌, ◌*◌, ◌≤◌, ◌<◌}
use native.Mathlib.Nat.{zero-add, add-zero, zero-mul, one-mul, mul-one, le_refl, le_trans, le_of_eq}
use native.Mathlib.Decide.{ℕ_discrete, dec_lt, dec_le}
use native.Mathlib.Omega.{arith}
use borrow.Author.Tests.{eq-eqb, ne_eqb, eqb-true, lt-ltb, ltb-true}
use lib.Dec.{eqb, ltb}
use Rattle.cycle.specs.Notation.{sum, one, count}
use Rattle.cycle.proofs.Count.{count_pos, count-some, count_two, same_of_count}
use Rattle.cycle.proofs.Sum.{sum_ext, sum_one, sum_scale, sum_swap, sum_mono, le_sum, sum_le}

-- ---- Kronecker's delta: 1 where the numbers are equal, else 0

abbrev delta : ℕ → ℕ → ℕ
delta x y = one (eqb x y)

delta_same : (x y : ℕ) → x ≡ y → delta x y ≡ 1
delta_same x y e = ap one (eq-eqb x y e)

delta_other : (x y : ℕ) → x ≢ y → delta x y ≡ 0
delta_other x y ne = ap one (ne_eqb x y ne)

-- a sum that delta picks one term from, or none
sum_pick_none : (n v : ℕ) (h : ℕ → ℕ) → n ≤ v → sum n (λ x. delta v x * h x) ≡ 0
unfolding sum
sum_pick_none zero v h l = refl
sum_pick_none (suc n) v h l =
    let d : delta v n ≡ 0 = delta_other v n (omega arith) in
    rw (d, zero-mul, add-zero) (sum_pick_none n v h (omega arith))

sum_pick : (n v : ℕ) (h : ℕ → ℕ) → v < n → sum n (λ x. delta v x * h x) ≡ h v
unfolding sum
sum_pick zero v h l = absurd (omega arith)
sum_pick (suc n) v h l = go (ℕ_discrete v n) (λ k. sum_pick n v h k)
  where
    go : Dec (v ≡ n) → (v < n → sum n (λ x. delta v x * h x) ≡ h v) → sum n (λ x. delta v x * h x) + delta v n * h n ≡ h v
    go (yes e) ih = rw (sum_pick_none n v h (omega arith), zero-add, delta_same v n e, one-mul, e)
    go (no ne) ih = rw (delta_other v n ne, zero-mul, add-zero) (ih (omega arith))

sum_delta_le : (q v : ℕ) → sum q (λ x. delta v x) ≤ 1
sum_delta_le q v = rw (sum_ext q (λ x. delta v x) (λ x. delta v x * 1) (λ x l. sym (mul-one (delta v x)))) (go (dec_lt v q))
  where
    go : Dec (v < q) → sum q (λ x. delta v x * 1) ≤ 1
    go (yes l) = le_of_eq (sum_pick q v (λ x. 1) l)
    go (no g) = omega (arith, sum_pick_none q v (λ x. 1) (omega arith))

-- ---- how often f is x on 0 .. n - 1

taken : ℕ → (ℕ → ℕ) → ℕ → ℕ
taken n f x = count n (λ k. eqb (f k) x)

taken_pos : (n : ℕ) (f : ℕ → ℕ) (k x : ℕ) → k < n → f k ≡ x → 1 ≤ taken n f x
unfolding taken
taken_pos n f k x l e = count_pos n (λ k. eqb (f k) x) k l (eq-eqb (f k) x e)

-- a sum along f is a sum over the values of f, each as often as f takes it
sum_by_value : (n q : ℕ) (f h : ℕ → ℕ) → ((k : ℕ) → k < n → f k < q) → sum n (λ k. h (f k)) ≡ sum q (λ x. taken n f x * h x)
unfolding taken count
sum_by_value n q f h b =
    sum_ext n (λ k. h (f k)) (λ k. sum q (λ x. delta (f k) x * h x)) (λ k l. sym (sum_pick q (f k) h (b k l)))
    ∙ sum_swap n q (λ k x. delta (f k) x * h x)
    ∙ sum_ext q (λ x. sum n (λ k. delta (f k) x * h x)) (λ x. sum n (λ k. delta (f k) x) * h x) (λ x l.
    sum_scale n (h x) (λ k. delta (f k) x))

sum-taken : (n q : ℕ) (f : ℕ → ℕ) → ((k : ℕ) → k < n → f k < q) → sum q (taken n f) ≡ n
sum-taken n q f b =
    sum_ext q (taken n f) (λ x. taken n f x * 1) (λ x l. sym (mul-one (taken n f x))) ∙ sym (sum_by_value n q f (λ x. 1) b)
    ∙ sum_one n

-- f on 0 .. n - 1 that takes every value below q: then q is at most n
pub le_of_surjective : (n q : ℕ) (f : ℕ → ℕ) → ((x : ℕ) → x < q → (k : ℕ) × (k < n) × (f k ≡ x)) → q ≤ n
unfolding taken count
le_of_surjective n q f h =
    le_trans (le_sum q (taken n f) (λ x l. taken_pos n f (h x l).0 x (h x l).1 (h x l).2))
    (rw (sum_swap q n (λ x k. delta (f k) x)) (sum_le n (λ k. sum q (λ x. delta (f k) x)) (λ k l. sum_delta_le q (f k))))

-- every term at least 1 and n in all: every term is 1
all_one : (n : ℕ) (c : ℕ → ℕ) → ((x : ℕ) → x < n → 1 ≤ c x) → sum n c ≤ n → (x : ℕ) → x < n → c x ≡ 1
unfolding sum
all_one zero c h s x l = absurd (omega arith)
all_one (suc n) c h s x l =
    let g : n ≤ sum n c = le_sum n c (λ y k. h y (omega arith)) in
    let t : 1 ≤ c n = h n (le_refl (suc n)) in
    go t g (ℕ_discrete x n) (λ k. all_one n c (λ y j. h y (omega arith)) (omega arith) x k)
  where
    go : 1 ≤ c n → n ≤ sum n c → Dec (x ≡ n) → (x < n → c x ≡ 1) → c x ≡ 1
    go t g (yes e) ih = rw e (omega arith)
    go t g (no ne) ih = ih (omega arith)

-- a sum along an f that takes every value below n is the sum over 0 .. n - 1
pub sum_permute : (n : ℕ) (f h : ℕ → ℕ) → ((k : ℕ) → k < n → f k < n) → ((x : ℕ) → x < n → (k : ℕ) × (k < n) × (f k ≡ x))
    → sum n (λ k. h (f k)) ≡ sum n h
sum_permute n f h b s =
    let all : sum n (taken n f) ≤ n = le_of_eq (sum-taken n n f b) in
    sum_by_value n n f h b
    ∙ sum_ext n (λ x. taken n f x * h x) h (λ x l.
    rw (all_one n (taken n f) (λ y j. taken_pos n f (s y j).0 y (s y j).1 (s y j).2) all x l, one-mul))

-- one of the numbers below n is v
pub count_equal : (n v : ℕ) → v < n → count n (λ k. eqb k v) ≡ 1
unfolding taken
count_equal n v l =
    all_one n (taken n (λ k. k)) (λ x j. taken_pos n (λ k. k) x x j refl) (le_of_eq (sum-taken n n (λ k. k) (λ k j. j))) v l

-- ---- the pigeonhole principle

one_of : (n : ℕ) (f : ℕ → ℕ) (x : ℕ) → 1 ≤ taken n f x → (k : ℕ) × (k < n) × (f k ≡ x)
unfolding taken
one_of n f x h = let r = count-some n (λ k. eqb (f k) x) h in (r.0, r.1, eqb-true (f r.0) x r.2)

-- f takes one value at two places below n
abbrev pub Repeats : ℕ → (ℕ → ℕ) → Type 0
Repeats n f = (i : ℕ) × (j : ℕ) × (i < j) × (j < n) × (f i ≡ f j)

two_of : (n : ℕ) (f : ℕ → ℕ) (x : ℕ) → 2 ≤ taken n f x → Repeats n f
unfolding taken
two_of n f x h =
    let j = count_two n (λ k. eqb (f k) x) h in
    let i = one_of j.0 f x j.3 in
    (i.0, j.0, i.1, j.1, i.2 ∙ sym (eqb-true (f j.0) x j.2))

some_two : (q : ℕ) (g : ℕ → ℕ) → q < sum q g → (x : ℕ) × (2 ≤ g x)
unfolding sum
some_two zero g h = absurd (omega arith)
some_two (suc q) g h = go (dec_le 2 (g q)) (λ j. some_two q g j)
  where
    go : Dec (2 ≤ g q) → (q < sum q g → (x : ℕ) × (2 ≤ g x)) → (x : ℕ) × (2 ≤ g x)
    go (yes p) ih = (q, p)
    go (no p) ih = ih (omega arith)

pub pigeonhole : (q : ℕ) (f : ℕ → ℕ) → ((k : ℕ) → k < suc q → f k < q) → Repeats (suc q) f
pigeonhole q f b =
    let r = some_two q (taken (suc q) f) (le_of_eq (sym (sum-taken (suc q) q f b))) in
    two_of (suc q) f r.0 r.1

-- every term at most 1 and n in all: every term is at least 1
none_zero : (n : ℕ) (c : ℕ → ℕ) → ((x : ℕ) → c x ≤ 1) → n ≤ sum n c → (x : ℕ) → x < n → 1 ≤ c x
unfolding sum
none_zero zero c h s x l = absurd (omega arith)
none_zero (suc n) c h s x l =
    let g : sum n c ≤ n = sum_le n c (λ y k. h y) in
    let t : c n ≤ 1 = h n in
    go t g (ℕ_discrete x n) (λ k. none_zero n c h (omega arith) x k)
  where
    go : c n ≤ 1 → sum n c ≤ n → Dec (x ≡ n) → (x < n → 1 ≤ c x) → 1 ≤ c x
    go t g (yes e) ih = rw e (omega arith)
    go t g (no ne) ih = ih (omega arith)

taken-once : (n : ℕ) (f : ℕ → ℕ) → (Repeats n f → ⊥) → (y : ℕ) → taken n f y ≤ 1
taken-once n f d y = go (dec_le 2 (taken n f y))
  where
    go : Dec (2 ≤ taken n f y) → taken n f y ≤ 1
    go (yes p) = absurd (d (two_of n f y p))
    go (no p) = omega arith

-- an f of 0 .. n - 1 to itself that repeats no value takes every value
pub surjective_of_injective : (n : ℕ) (f : ℕ → ℕ) → ((k : ℕ) → k < n → f k < n) → (Repeats n f → ⊥)
    → (x : ℕ) → x < n → (k : ℕ) × (k < n) × (f k ≡ x)
surjective_of_injective n f b d x l = one_of n f x (none_zero n (taken n f) (taken-once n f d) (le_of_eq (sym (sum-taken n n f b))) x l)

-- so a sum along such an f is the sum over 0 .. n - 1
pub sum_injective : (n : ℕ) (f h : ℕ → ℕ) → ((k : ℕ) → k < n → f k < n) → ((i j : ℕ) → i < n → j < n → f i ≡ f j → i ≡ j)
    → sum n (λ k. h (f k)) ≡ sum n h
sum_injective n f h b inj = sum_permute n f h b (surjective_of_injective n f b repeats)
  where
    repeats : Repeats n f → ⊥
    repeats (i, j, lt, l, e) = let same = inj i j (omega arith) l e in omega arith

-- ---- how many meet a test, by a list of them

-- n different ones: at least n
pub le_count : (n q : ℕ) (f : ℕ → ℕ) (p : ℕ → Bool) → ((k : ℕ) → k < n → f k < q) → ((k : ℕ) → k < n → p (f k) ≡ true) → (Repeats n f → ⊥) → n ≤ count q p
unfolding count
le_count n q f p b h d =
    le_trans
    (le_of_eq (sym (sum_one n) ∙ sum_ext n (λ k. 1) (λ k. one (p (f k))) (λ k l. sym (ap one (h k l))) ∙ sum_by_value n q f (λ v. one (p v)) b))
    (sum_mono q (λ x. taken n f x * one (p x)) (λ x. one (p x)) (λ x l. at_most (taken n f x) (one (p x)) (taken-once n f d x)))
  where
    at_most : (t c : ℕ) → t ≤ 1 → t * c ≤ c
    at_most zero c l = rw zero-mul (omega arith)
    at_most (suc t) c l = let z : t ≡ 0 = omega arith in rw (z, one-mul) (le_refl c)

-- n that are all of them: at most n
pub count_le_of_all : (n q : ℕ) (f : ℕ → ℕ) (p : ℕ → Bool) → ((k : ℕ) → k < n → f k < q) → ((x : ℕ) → x < q → p x ≡ true → (k : ℕ) × (k < n) × (f k ≡ x)) → count q p ≤ n
unfolding count
count_le_of_all n q f p b h =
    le_trans (sum_mono q (λ x. one (p x)) (taken n f) (λ x l. go x l (p x) refl)) (le_of_eq (sum-taken n q f b))
  where
    go : (x : ℕ) → x < q → (t : Bool) → p x ≡ t → one t ≤ taken n f x
    go x l true e = let (k, lk, r) = h x l e in taken_pos n f k x lk r
    go x l false e = omega arith

-- n different ones, where there are no more: they are all of them
pub all_of_count : (n q : ℕ) (f : ℕ → ℕ) (p : ℕ → Bool) → ((k : ℕ) → k < n → f k < q) → ((k : ℕ) → k < n → p (f k) ≡ true) → (Repeats n f → ⊥) → count q p ≤ n
    → (x : ℕ) → x < q → p x ≡ true → (k : ℕ) × (k < n) × (f k ≡ x)
all_of_count n q f p b h d c x l t =
    let least : n ≤ count q met = le_count n q f met b (λ k lk. lt-ltb 0 (taken n f (f k)) (taken_pos n f k (f k) lk refl)) d in
    one_of n f x (ltb-true 0 (taken n f x) (same_of_count q met p meets (omega arith) x l t))
  where
    met : ℕ → Bool
    met x = ltb 0 (taken n f x)

    meets : (y : ℕ) → y < q → met y ≡ true → p y ≡ true
    meets y ly m = let (k, lk, e) = one_of n f y (ltb-true 0 (taken n f y) m) in rw e at (h k lk)
