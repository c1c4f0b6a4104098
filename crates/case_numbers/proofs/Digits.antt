-- A digit as std reads it, and the digits that are still to come.
use Rattle.std.proofs.Common.{◌≡◌, ℕ, ◌+◌, ◌*◌, ◌<◌, ◌≤◌, Option, Some, None, List, [], ◌∷◌, length, get_or, take, drop, eqb, false, refl, sym, ap, ◌∙◌, arith, add-one, drop-cons}
use Rattle.std.specs.Char.{digit_value}
use Rattle.std.specs.Option.{SomeIff}
use Rattle.std.proofs.lemmas.Bool.Decides.{nat_tests}
use Rattle.std.proofs.Math.ListN.{drop_of_length-le}
use Rattle.case_numbers.specs.Numbers.{fold, digit_of, with_digit, numeral, is_hex}
use lib.Pointwise.{pointwise}

pub same_digit : (base b : ℕ) → base ≤ 16 → digit_value b < base → digit_of b ≡ digit_value b
unfolding digit_of
same_digit base b few h = grind (arith, nat_tests)

pub no_digit : (base b : ℕ) → base ≤ 16 → base ≤ digit_value b → base ≤ digit_of b
unfolding digit_of
no_digit base b few h = grind (arith, nat_tests)

-- a digit that is put to a number
pub put : (base x d : ℕ) → d < base → x * base + d < 4294967296 → with_digit base (Some x) d ≡ Some (x * base + d)
unfolding with_digit
put base x d h s = grind (arith, nat_tests)

pub put_other : (base x d : ℕ) → base ≤ d → with_digit base (Some x) d ≡ None
unfolding with_digit
put_other base x d h = grind (arith, nat_tests)

pub put_large : (base x d : ℕ) → 4294967296 ≤ x * base + d → with_digit base (Some x) d ≡ None
unfolding with_digit
put_large base x d h = grind (arith, nat_tests)

-- the sum of two numbers that may be too large
pub put_if : (base x d m : ℕ) (r : Option ℕ) → d < base → m ≡ x * base → SomeIff r (m + d < 4294967296) (m + d) → r ≡ with_digit base (Some x) d
put_if base x d m None h e s = sym (put_large base x d (omega (arith, e, s)))
put_if base x d m (Some y) h e s = ap Some (s.1 ∙ ap (λ k. k + d) e) ∙ sym (put base x d h (omega (arith, e, s.0)))

-- what is none stays none
fold_none : (base : ℕ) (xs : List ℕ) → fold (λ x c. with_digit base x (digit_of c)) None xs ≡ None
unfolding fold with_digit
fold_none base [] = refl
fold_none base (x ∷ xs) = fold_none base xs

-- the digits from a place on, put to a number
abbrev pub number_from : ℕ → Option ℕ → List ℕ → ℕ → Option ℕ
number_from base x xs i = fold (λ x c. with_digit base x (digit_of c)) x (drop i xs)

-- the digit at a place is the first of them
pub from_next : (base : ℕ) (x : Option ℕ) (xs : List ℕ) (i : ℕ) → i < length xs → number_from base (with_digit base x (digit_of (get_or xs i 0))) xs (i + 1) ≡ number_from base x xs i
unfolding fold
from_next base x xs i h = rw add-one (sym (ap (fold (λ x c. with_digit base x (digit_of c)) x) (drop-cons xs i 0 h)))

-- a digit that makes it none
pub from_stop : (base : ℕ) (x y : Option ℕ) (xs : List ℕ) (i : ℕ) → i < length xs → y ≡ None → y ≡ with_digit base x (digit_of (get_or xs i 0)) → number_from base x xs i ≡ None
from_stop base x y xs i h n e =
    sym (from_next base x xs i h) ∙ ap (λ z. number_from base z xs (i + 1)) (sym e ∙ n) ∙ fold_none base (drop (i + 1) xs)

pub from_end : (base : ℕ) (x : Option ℕ) (xs : List ℕ) (i : ℕ) → length xs ≤ i → number_from base x xs i ≡ x
unfolding fold
from_end base x xs i h = ap (fold (λ x c. with_digit base x (digit_of c)) x) (drop_of_length-le xs h)

pub from_start : (base : ℕ) (xs : List ℕ) → eqb (length xs) 0 ≡ false → numeral base xs ≡ number_from base (Some 0) xs 0
unfolding numeral
from_start base xs h = grind (arith, nat_tests)

-- std's test for what stands in front is the definition's
pub same_prefix : (xs : List ℕ) → is_hex xs ≡ pointwise eqb (take 2 xs) (48 ∷ 120 ∷ [])
unfolding is_hex
same_prefix [] = refl
same_prefix (x ∷ []) = grind (arith, nat_tests)
same_prefix (x ∷ y ∷ zs) = grind (arith, nat_tests)
