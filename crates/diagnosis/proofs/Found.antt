-- The first place that meets a test, as the searches answer it.
use mathlib.Core.Path.{◌≡◌, refl, sym, ap, ◌∙◌}
use mathlib.Core.Bool.{Bool, true, false, not, cond}
use mathlib.Core.List.{List, [], ◌∷◌}
use Prim.Native.Nat.{ℕ, suc, ◌+◌, ◌≤◌, ◌<◌}
use native.Mathlib.Decide.{dec_lt}
use native.Mathlib.Omega.{arith}
use borrow.Author.Tests.{lt-ltb, le-ltb, ltb-true}
use native.Mathlib.Nat.{le_refl, add-zero}
use Rattle.std.proofs.lemmas.Option.{cond_some, none-some}
use lib.Dec.{ltb}
use lib.ListN.{length, get_or}
use Rattle.std.specs.Prelude.{Option, Some, None, MatchOption}
use Rattle.std.specs.List.{position_or_len, enumerate_from}
use Rattle.cycle.specs.Notation.{first}
use Rattle.cycle.proofs.First.{first_le, first_is, first-none, first_ext}
use Rattle.completions.specs.Finding.{clashes, clashes_with}
use Rattle.diagnosis.specs.Marks.{first_below, first_pair}

pub found_first : (n : ℕ) (p : ℕ → Bool) (i : ℕ) → i < n → ((k : ℕ) → k < i → p k ≡ false) → p i ≡ true → Some i ≡ first_below n p
found_first n p i l before h = simp (first_is n p i l before h, lt-ltb i n l)

pub found_none : (n : ℕ) (p : ℕ → Bool) → ((k : ℕ) → k < n → p k ≡ false) → None ≡ first_below n p
found_none n p h = simp (first-none n p h, le-ltb n n (le_refl n))

-- a search from a on, where none before a meets it
pub found_from : (p : ℕ → Bool) (a n : ℕ) (r : Option ℕ) → ((k : ℕ) → k < a → p k ≡ false)
    → MatchOption r ((k : ℕ) → a ≤ k → k < n → p k ≡ false) (λ i. (a ≤ i) × (i < n) × (p i ≡ true) × ((k : ℕ) → a ≤ k → k < i → p k ≡ false))
    → r ≡ first_below n p
found_from p a n None before none = found_none n p whole
  where
    whole : (k : ℕ) → k < n → p k ≡ false
    whole k l = go (dec_lt k a)
      where
        go : Dec (k < a) → p k ≡ false
        go (yes m) = before k m
        go (no m) = none k (omega arith) l
found_from p a n (Some i) before (l, m, at, none) = found_first n p i m earlier at
  where
    earlier : (k : ℕ) → k < i → p k ≡ false
    earlier k b = go (dec_lt k a)
      where
        go : Dec (k < a) → p k ≡ false
        go (yes m) = before k m
        go (no m) = none k (omega arith) b

-- a search past x, where none up to x meets it, and past x what is told of a place is the test's answer
pub found_after : (p : ℕ → Bool) (x n : ℕ) (r : Option ℕ) (Told : Bool → ℕ → Type 0) → ((b : Bool) (y : ℕ) → x < y → Told b y → p y ≡ b) → ((k : ℕ) → k ≤ x → p k ≡ false)
    → MatchOption r ((k : ℕ) → x + 1 ≤ k → k < n → Told false k) (λ i. (x + 1 ≤ i) × (i < n) × Told true i × ((k : ℕ) → x + 1 ≤ k → k < i → Told false k))
    → r ≡ first_below n p
found_after p x n None Told known before none = found_from p (x + 1) n None (λ k l. before k (omega arith)) (λ k m l. known false k (omega arith) (none k m l))
found_after p x n (Some i) Told known before (l, m, at, none) = found_from p (x + 1) n (Some i) (λ k b. before k (omega arith)) (l, m, known true i (omega arith) at, λ k a b. known false k (omega arith) (none k a b))

pub of_some : (n : ℕ) (p : ℕ → Bool) (x : ℕ) → first_below n p ≡ Some x → (x ≡ first n p) × (x < n)
of_some n p x e = let h = cond_some (ltb (first n p) n) (first n p) x e in (sym h.1, omega (arith, ltb-true (first n p) n h.0, h.1))

pub of_none : (n : ℕ) (p : ℕ → Bool) → first_below n p ≡ None → first n p ≡ n
of_none n p e = go (dec_lt (first n p) n)
  where
    go : Dec (first n p < n) → first n p ≡ n
    go (yes l) = absurd (none-some (first n p) (sym e ∙ simp (lt-ltb (first n p) n l)))
    go (no l) = omega (arith, first_le n p)

-- the first pair is found where some place clashes, and both of it are below n
pub pair_found : (n : ℕ) (f : ℕ → ℕ) (x y : ℕ) → first_pair n f ≡ Some (x, y) → (x ≡ first n (clashes n f)) × (x < n) × (y ≡ first n (clashes_with f x))
pair_found n f x y e =
    let i = first n (clashes n f) in
    let h = cond_some (ltb i n) (i, first n (clashes_with f i)) (x, y) e in
    let xi : x ≡ i = sym (ap (λ (p : ℕ × ℕ). p.0) h.1) in
    (xi, omega (arith, ltb-true i n h.0), sym (ap (λ (p : ℕ × ℕ). p.1) h.1) ∙ ap (λ (i : ℕ). first n (clashes_with f i)) (sym xi))

pub no_pair : (n : ℕ) (f : ℕ → ℕ) → first_pair n f ≡ None → first n (clashes n f) ≡ n
no_pair n f e = go (dec_lt (first n (clashes n f)) n)
  where
    go : Dec (first n (clashes n f) < n) → first n (clashes n f) ≡ n
    go (yes l) = let i = first n (clashes n f) in absurd (none-some (i, first n (clashes_with f i)) (sym e ∙ simp (lt-ltb i n l)))
    go (no l) = omega (arith, first_le n (clashes n f))

-- a list searched with its indices
place_of_enumerated : (q : ℕ → ℕ → Bool) (a : ℕ) (xs : List ℕ) → position_or_len (λ (e : ℕ × ℕ). q e.0 e.1) (enumerate_from a xs) ≡ first (length xs) (λ k. q (a + k) (get_or xs k 0))
unfolding first
place_of_enumerated q a [] = refl
place_of_enumerated q a (x ∷ xs) =
    go (q a x) refl
    (place_of_enumerated q (a + 1) xs ∙ first_ext (length xs) (λ k. q (a + 1 + k) (get_or xs k 0)) (λ k. q (a + suc k) (get_or xs k 0)) (λ k l. ap (λ (n : ℕ). q n (get_or xs k 0)) (omega arith)))
  where
    go : (b : Bool) → q a x ≡ b → {m n : ℕ} → m ≡ n → cond (not (q a x)) (1 + m) 0 ≡ cond (q (a + 0) x) 0 (suc n)
    go true e r = simp (add-zero a, e)
    go false e r = simp (add-zero a, e) (omega (arith, r))

pub placed : (q : ℕ → ℕ → Bool) (xs : List ℕ) → position_or_len (λ (e : ℕ × ℕ). q e.0 e.1) (enumerate_from 0 xs) ≡ first (length xs) (λ k. q k (get_or xs k 0))
placed q xs = place_of_enumerated q 0 xs ∙ first_ext (length xs) (λ k. q (0 + k) (get_or xs k 0)) (λ k. q k (get_or xs k 0)) (λ k l. ap (λ (n : ℕ). q n (get_or xs k 0)) (omega arith))
