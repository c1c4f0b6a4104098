-- Counting the numbers below n that meet a test.
use mathlib.Core.Path.{◌≡◌, refl, sym, ap, ◌∙◌}
use mathlib.Core.Bool.{Bool, true, false, not, ◌||◌, true≢false}
use Prim.Native.Nat.{ℕ, zero, suc, ◌+◌, ◌≤◌, ◌<◌}
use native.Mathlib.Nat.{le_refl}
use native.Mathlib.Decide.{ℕ_discrete, dec_lt, le_ind}
use native.Mathlib.Numerals.{add-one}
use native.Mathlib.Omega.{arith}
use mir.Val.{bool_byte}
use Rattle.cycle.specs.Notation.{sum, one, count}
use Rattle.cycle.proofs.Sum.{sum_ext, sum_add, sum_zero, sum_one, sum_mono, sum_le, term_le_sum}

-- ---- a test's value

-- as the code adds it
pub byte-one : (b : Bool) → bool_byte b ≡ one b
byte-one true = refl
byte-one false = refl

pub one_le : (b : Bool) → one b ≤ 1
one_le true = le_refl 1
one_le false = omega arith

one_mono : (a b : Bool) → (a ≡ true → b ≡ true) → one a ≤ one b
one_mono false b h = omega arith
one_mono true b h = rw (h refl) (le_refl 1)

-- tests that hold together are the same
pub same_test : (a b : Bool) → (a ≡ true → b ≡ true) → (b ≡ true → a ≡ true) → a ≡ b
same_test true b f g = sym (f refl)
same_test false true f g = g refl
same_test false false f g = refl

pub neither : (a b : Bool) → (a || b) ≡ false → (a ≡ false) × (b ≡ false)
neither true b h = absurd (true≢false h)
neither false b h = (refl, h)

-- ---- counts

pub count_none : (p : ℕ → Bool) → count 0 p ≡ 0
unfolding count sum
count_none p = refl

pub count_next : (n : ℕ) (p : ℕ → Bool) → count (suc n) p ≡ count n p + one (p n)
unfolding count sum
count_next n p = refl

-- the same from the front
pub count-first : (n : ℕ) (p : ℕ → Bool) → count (suc n) p ≡ one (p 0) + count n (λ i. p (suc i))
count-first zero p = omega (arith, count_next 0 p, count_none p, count_none (λ i. p (suc i)))
count-first (suc n) p = omega (arith, count_next (suc n) p, count_next n (λ i. p (suc i)), count-first n p)

pub count_ext : (n : ℕ) (p q : ℕ → Bool) → ((i : ℕ) → i < n → p i ≡ q i) → count n p ≡ count n q
unfolding count
count_ext n p q h = sum_ext n (λ i. one (p i)) (λ i. one (q i)) (λ i l. ap one (h i l))

pub count_mono : (n : ℕ) (p q : ℕ → Bool) → ((i : ℕ) → i < n → p i ≡ true → q i ≡ true) → count n p ≤ count n q
unfolding count
count_mono n p q h = sum_mono n (λ i. one (p i)) (λ i. one (q i)) (λ i l. one_mono (p i) (q i) (h i l))

-- what one test counts, two others count between them
pub count_add : (n : ℕ) (p q r : ℕ → Bool) → ((i : ℕ) → i < n → one (p i) ≡ one (q i) + one (r i)) → count n p ≡ count n q + count n r
unfolding count
count_add n p q r h = sum_ext n (λ i. one (p i)) (λ i. one (q i) + one (r i)) h ∙ sum_add n (λ i. one (q i)) (λ i. one (r i))

-- a number meets a test or its opposite
pub count_not : (n : ℕ) (p : ℕ → Bool) → count n p + count n (λ i. not (p i)) ≡ n
unfolding count
count_not n p = sym (sum_add n (λ i. one (p i)) (λ i. one (not (p i)))) ∙ sum_ext n _ (λ i. 1) (λ i l. both (p i)) ∙ sum_one n
  where
    both : (b : Bool) → ◌≡◌ {A = ℕ} (one b + one (not b)) 1
    both true = refl
    both false = refl

pub count_le : (n : ℕ) (p : ℕ → Bool) → count n p ≤ n
unfolding count
count_le n p = sum_le n (λ i. one (p i)) (λ i l. one_le (p i))

-- a count kept in a loop, and what the next number adds to it
pub counted_next : (i : ℕ) (p : ℕ → Bool) {k o : ℕ} → k ≡ count i p → o ≡ one (p i) → k + o ≡ count (i + 1) p
counted_next i p e f = rw (e, f, add-one i) (sym (count_next i p))

pub counted_fits : (i : ℕ) (p : ℕ → Bool) {k o : ℕ} → k ≡ count i p → o ≡ one (p i) → k + o ≤ i + 1
counted_fits i p e f = rw (counted_next i p e f) (count_le (i + 1) p)

pub count_pos : (n : ℕ) (p : ℕ → Bool) (i : ℕ) → i < n → p i ≡ true → 0 < count n p
unfolding count
count_pos n p i l h = omega (arith, term_le_sum n (λ i. one (p i)) i l, ap one h)

pub count_never : (n : ℕ) (p : ℕ → Bool) → ((i : ℕ) → i < n → p i ≡ false) → count n p ≡ 0
unfolding count
count_never n p h = sum_ext n (λ i. one (p i)) (λ i. 0) (λ i l. ap one (h i l)) ∙ sum_zero n

-- one of them, where there are any
pub count-some : (n : ℕ) (p : ℕ → Bool) → 0 < count n p → (i : ℕ) × (i < n) × (p i ≡ true)
count-some zero p h = absurd (omega (arith, count_none p))
count-some (suc n) p h = go (p n) refl (λ l. count-some n p l)
  where
    go : (b : Bool) → p n ≡ b → (0 < count n p → (i : ℕ) × (i < n) × (p i ≡ true)) → (i : ℕ) × (i < suc n) × (p i ≡ true)
    go true e ih = (n, le_refl (suc n), e)
    go false e ih = let r = ih (omega (arith, count_next n p, ap one e)) in (r.0, omega (arith, r.1), r.2)

-- fewer, where q holds with p and once without it
pub count_less : (n : ℕ) (p q : ℕ → Bool) → ((i : ℕ) → i < n → p i ≡ true → q i ≡ true) → (i : ℕ) → i < n → p i ≡ false → q i ≡ true → count n p < count n q
count_less zero p q h i l e f = absurd (omega arith)
count_less (suc n) p q h i l e f = go (ℕ_discrete i n) (λ k. count_less n p q (λ j lj. h j (omega arith)) i k e f)
  where
    go : Dec (i ≡ n) → (i < n → count n p < count n q) → count (suc n) p < count (suc n) q
    go (yes k) ih =
        omega (
          arith,
          count_next n p,
          count_next n q,
          count_mono n p q (λ j lj. h j (omega arith)),
          ap (λ (j : ℕ). one (p j)) (sym k) ∙ ap one e,
          ap (λ (j : ℕ). one (q j)) (sym k) ∙ ap one f,
        )
    go (no ne) ih = omega (arith, count_next n p, count_next n q, ih (omega arith), one_mono (p n) (q n) (h n (le_refl (suc n))))

-- so where all that meet p meet q, and q is met no more often, all that meet q meet p
pub same_of_count : (n : ℕ) (p q : ℕ → Bool) → ((i : ℕ) → i < n → p i ≡ true → q i ≡ true) → count n q ≤ count n p → (i : ℕ) → i < n → q i ≡ true → p i ≡ true
same_of_count n p q h c i l f = go (p i) refl
  where
    go : (b : Bool) → p i ≡ b → b ≡ true
    go true e = refl
    go false e = absurd (omega (arith, count_less n p q h i l e f))

pub count_prefix : (m n : ℕ) (p : ℕ → Bool) → m ≤ n → count m p ≤ count n p
count_prefix m n p l = le_ind (λ (n : ℕ). count m p ≤ count n p) (le_refl (count m p)) (λ k g h. omega (arith, h, count_next k p)) n l

-- two of them: the later one and one before it
pub count_two : (n : ℕ) (p : ℕ → Bool) → 1 < count n p → (j : ℕ) × (j < n) × (p j ≡ true) × (0 < count j p)
count_two zero p h = absurd (omega (arith, count_none p))
count_two (suc n) p h = go (p n) refl (λ l. count_two n p l)
  where
    go : (b : Bool) → p n ≡ b → (1 < count n p → (j : ℕ) × (j < n) × (p j ≡ true) × (0 < count j p)) → (j : ℕ) × (j < suc n) × (p j ≡ true) × (0 < count j p)
    go true e ih = (n, le_refl (suc n), e, omega (arith, count_next n p, ap one e))
    go false e ih = let r = ih (omega (arith, count_next n p, ap one e)) in (r.0, omega (arith, r.1), r.2, r.3)

pub two_counted : (n : ℕ) (p : ℕ → Bool) (j : ℕ) → j < n → p j ≡ true → 0 < count j p → 1 < count n p
two_counted n p j l h c = omega (arith, count_prefix (suc j) n p l, count_next j p, ap one h)

pub two_met : (n : ℕ) (p : ℕ → Bool) (i j : ℕ) → i < j → j < n → p i ≡ true → p j ≡ true → 1 < count n p
two_met n p i j ij l hi hj = two_counted n p j l hj (count_pos j p i ij hi)

-- one of them at most, exactly where any two are the same
pub one_place : (n : ℕ) (p : ℕ → Bool) → count n p ≤ 1 → (i j : ℕ) → i < n → j < n → p i ≡ true → p j ≡ true → i ≡ j
one_place n p h i j li lj s t = go (dec_lt i j) (dec_lt j i)
  where
    go : Dec (i < j) → Dec (j < i) → i ≡ j
    go (yes l) d = absurd (omega (arith, two_met n p i j l lj s t))
    go (no l) (yes m) = absurd (omega (arith, two_met n p j i m li t s))
    go (no l) (no m) = omega arith

pub count-one : (n : ℕ) (p : ℕ → Bool) → ((i j : ℕ) → i < n → j < n → p i ≡ true → p j ≡ true → i ≡ j) → count n p ≤ 1
count-one n p h = go (dec_lt 1 (count n p))
  where
    go : Dec (1 < count n p) → count n p ≤ 1
    go (yes l) =
        let b = count_two n p l in
        let a = count-some b.0 p b.3 in
        absurd (omega (arith, a.1, h a.0 b.0 (omega (arith, a.1, b.1)) b.1 a.2 b.2))
    go (no l) = omega arith
