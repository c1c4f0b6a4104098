-- Sets of the numbers below N, in ascending order, and the least of the wanted ones (document 02, Eleven). A set is a test P: the numbers below N that meet it.
use Rattle.std.specs.Prelude.{◌≡◌, Bool, true, false, cond, ◌&&◌, ◌||◌, List, [], ◌∷◌, ℕ, zero, suc, ◌≤◌, eqb, ltb}
use Rattle.cycle.specs.Notation.{count}

-- those of the d numbers a, a + 1, .. that are in P, ascending
unfoldable pub members_from : ℕ → ℕ → (ℕ → Bool) → List ℕ
members_from zero a P = []
members_from (suc d) a P = cond (P a) (a ∷ members_from d (suc a) P) (members_from d (suc a) P)

-- those below N, ascending
abbrev pub members : ℕ → (ℕ → Bool) → List ℕ
members N P = members_from N 0 P

-- whether xs comes before ys, compared number by number
unfoldable pub precedes : List ℕ → List ℕ → Bool
precedes xs [] = false
precedes [] (y ∷ ys) = true
precedes (x ∷ xs) (y ∷ ys) = ltb x y || (eqb x y && precedes xs ys)

-- P is wanted, no wanted set has fewer numbers, and none of as many comes before it
pub record LeastSet (N : ℕ) (Wanted : (ℕ → Bool) → Type 0) (P : ℕ → Bool) : Type 0 where
  pub wanted : Wanted P
  pub fewest : (Q : ℕ → Bool) → Wanted Q → count N P ≤ count N Q
  pub first : (Q : ℕ → Bool) → Wanted Q → count N Q ≡ count N P → precedes (members N Q) (members N P) ≡ false
