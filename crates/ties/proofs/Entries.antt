-- Tests of the entries of a list: as iterators tell them, and by their places.
use Rattle.std.proofs.Common.{Option, Some, None, ◌<◌, ◌≡◌, refl, sym, ap, ◌∙◌, Bool, true, false, ◌&&◌, ◌||◌, cond, List, [], ◌∷◌, ℕ, zero, suc, ◌+◌, ltb, ◌≤◌, length, get_or, take, arith}
use native.Mathlib.Nat.{zero-add}
use borrow.Author.Tests.{lt-ltb, le-ltb}
use Rattle.std.specs.List.{count_by, list_any, list_all, position_or_len, range_with_len}
use Rattle.std.specs.Option.{unwrap_or}
use native.Mathlib.Decide.{dec_lt}
use Rattle.std.proofs.lemmas.List.FromFn.{length-range_with_len, get_or-range_with_len}
use Rattle.std.proofs.lemmas.List.{length-take-le, get_or-take}
use Rattle.std.proofs.lemmas.List.Sums.{sum_by-cons, position_or_len_is}
use Rattle.cycle.specs.Notation.{every, count, one, first}
use Rattle.cycle.proofs.First.{first_le, first_at, before-first}
use Rattle.cycle.proofs.Count.{count_none, count-first, count_ext}

-- a test of all, from the front
every-first : (n : ℕ) (q : ℕ → Bool) → every (suc n) q ≡ (q 0 && every n (λ i. q (suc i)))
unfolding every
every-first zero q = both (q 0)
  where
    both : (b : Bool) → (true && b) ≡ (b && true)
    both true = refl
    both false = refl
every-first (suc n) q = ap (λ (b : Bool). b && q (suc n)) (every-first n q) ∙ three (q 0) _ _
  where
    three : (a b c : Bool) → ((a && b) && c) ≡ (a && (b && c))
    three true b c = refl
    three false b c = refl

module _ {A : Type 0} (p : A → Bool) (d : A) where
  abbrev at : List A → ℕ → Bool
  at xs i = p (get_or xs i d)

  -- how many meet it
  pub count-entries : (xs : List A) → count_by p xs ≡ count (length xs) (at xs)
  count-entries [] = sym (count_none (at []))
  count-entries (x ∷ xs) = sum_by-cons (λ x. cond (p x) 1 0) x xs ∙ ap (λ (k : ℕ). one (p x) + k) (count-entries xs) ∙ sym (count-first (length xs) (at (x ∷ xs)))

  -- whether all do
  pub every-entry : (xs : List A) → list_all p xs ≡ every (length xs) (at xs)
  unfolding every
  every-entry [] = refl
  every-entry (x ∷ xs) = ap (λ (b : Bool). p x && b) (every-entry xs) ∙ sym (every-first (length xs) (at (x ∷ xs)))

  some-entries : (xs : List A) → list_any p xs ≡ ltb 0 (count_by p xs)
  some-entries [] = refl
  some-entries (x ∷ xs) = go (p x) (count_by p xs) (some-entries xs) ∙ ap (ltb 0) (sym (sum_by-cons (λ x. cond (p x) 1 0) x xs))
    where
      go : (b : Bool) {t : Bool} (k : ℕ) → t ≡ ltb 0 k → (b || t) ≡ ltb 0 (one b + k)
      go true k h = sym (lt-ltb 0 (1 + k) (omega arith))
      go false k h = h ∙ ap (ltb 0) (omega arith)

  -- whether one does
  pub any-entry : (xs : List A) → list_any p xs ≡ ltb 0 (count (length xs) (at xs))
  any-entry xs = some-entries xs ∙ ap (ltb 0) (count-entries xs)

  -- the same of the first n entries
  pub count-front : (xs : List A) (n : ℕ) → n ≤ length xs → count (length (take n xs)) (at (take n xs)) ≡ count n (at xs)
  count-front xs n h = rw (length-take-le n xs h) (count_ext n (at (take n xs)) (at xs) (λ i l. ap p (get_or-take n xs i d l)))

-- whether one of 0, 1, .., n - 1 meets a test
pub any-number : (n : ℕ) (p : ℕ → Bool) → list_any p (range_with_len 0 n) ≡ ltb 0 (count n p)
any-number n p =
    any-entry p 0 (range_with_len 0 n)
    ∙ ap (ltb 0) (rw (length-range_with_len 0 n) (count_ext n (at p 0 (range_with_len 0 n)) p (λ i l. ap p (get_or-range_with_len 0 n i 0 l ∙ zero-add i))))

-- the first of them that meets it
pub first-number : (n : ℕ) (p : ℕ → Bool) → position_or_len p (range_with_len 0 n) ≡ first n p
first-number n p =
    position_or_len_is p (range_with_len 0 n) (first n p) 0 (omega (arith, first_le n p, length-range_with_len 0 n))
    (λ k l. ap p (same k (omega (arith, first_le n p))) ∙ before-first n p k l)
    (λ l. let f : first n p < n = omega (arith, length-range_with_len 0 n) in ap p (same (first n p) f) ∙ first_at n p f)
  where
    same : (k : ℕ) → k < n → get_or (range_with_len 0 n) k 0 ≡ k
    same k l = get_or-range_with_len 0 n k 0 l ∙ zero-add k

-- the same as it is searched for
pub first-found : (n : ℕ) (p : ℕ → Bool) {r : Option ℕ}
    → r ≡ cond (ltb (position_or_len p (range_with_len 0 n)) (length (range_with_len 0 n))) (Some (position_or_len p (range_with_len 0 n))) None → unwrap_or r n ≡ first n p
first-found n p {r = r} e = ap (λ (o : Option ℕ). unwrap_or o n) (rw (first-number n p, length-range_with_len 0 n) at e) ∙ go (dec_lt (first n p) n)
  where
    go : Dec (first n p < n) → unwrap_or (cond (ltb (first n p) n) (Some (first n p)) None) n ≡ first n p
    go (yes l) = rw (lt-ltb (first n p) n l) refl
    go (no m) = rw (le-ltb (first n p) n (omega arith)) (omega (arith, first_le n p))
