-- Notation: a finite sum, a test of all numbers below n, how many of them meet one and which is the first, a list by its entries or filled up with zeros, a statement on each entry, a function applied repeatedly, a bit.
use Rattle.std.specs.Prelude.{Bool, true, cond, ◌&&◌, List, [], ◌∷◌, ◌++◌, ℕ, zero, suc, ◌+◌, ◌-◌, ◌/◌, ◌%◌, ◌^◌, length, replicate}

-- f 0 + f 1 + .. + f (n - 1)
unfoldable pub sum : ℕ → (ℕ → ℕ) → ℕ
sum zero f = 0
sum (suc n) f = sum n f + f n

-- whether p holds of 0, 1, .., n - 1
unfoldable pub every : ℕ → (ℕ → Bool) → Bool
every zero p = true
every (suc n) p = every n p && p n

-- 1 where b holds, else 0
abbrev pub one : Bool → ℕ
one b = cond b 1 0

-- how many of 0, 1, .., n - 1 meet p
unfoldable pub count : ℕ → (ℕ → Bool) → ℕ
count n p = sum n (λ i. one (p i))

-- the first of 0, 1, .. that meets p, or n where none below n does
unfoldable pub first : ℕ → (ℕ → Bool) → ℕ
first zero p = zero
first (suc n) p = cond (p zero) zero (suc (first n (λ i. p (suc i))))

-- the list f 0, f 1, .., f (n - 1)
unfoldable pub tabulate : ℕ → (ℕ → ℕ) → List ℕ
tabulate zero f = []
tabulate (suc n) f = f 0 ∷ tabulate n (λ i. f (suc i))

-- xs, and past it zeros up to n entries
abbrev pub zero_filled : ℕ → List ℕ → List ℕ
zero_filled n xs = xs ++ replicate (n - length xs) 0

-- P of each entry
abbrev pub All : {A : Type 0} → (A → Type 0) → List A → Type 0
All P [] = Unit {0}
All P (x ∷ xs) = P x × All P xs

-- f applied k times
unfoldable pub iterate : {A : Type 0} → (A → A) → ℕ → A → A
iterate f zero x = x
iterate f (suc k) x = f (iterate f k x)

-- bit i of x, counted from 0
abbrev pub bit : ℕ → ℕ → ℕ
bit i x = x / 2 ^ i % 2
