-- The parts of a text from separator to separator: those from a place on are the one up to the next separator, and those behind it.
use mathlib.Core.Path.{◌≡◌, refl, ap, ap₂, ◌∙◌}
use mathlib.Core.Bool.{Bool, true, false, cond}
use mathlib.Core.List.{List, [], ◌∷◌}
use Prim.Native.Nat.{ℕ, zero, suc, ◌+◌, ◌-◌, ◌<◌, ◌≤◌}
use native.Mathlib.Nat.{zero-add, suc-add}
use native.Mathlib.Omega.{arith}
use borrow.Author.Tests.{le-leb}
use lib.Dec.{eqb, leb, leb-zero, leb-suc-suc}
use lib.ListN.{length, take, drop}
use lib.Seq.{take-length}
use Rattle.case_fields.specs.Text.{index_of, before, parts}

-- the bytes from one place up to another
unfoldable pub slice : ℕ → ℕ → List ℕ → List ℕ
slice from to xs = drop from (take to xs)

-- the parts from a place on, of which there are none past the end
unfoldable pub parts_from : ℕ → List ℕ → ℕ → List (List ℕ)
parts_from separator xs at = cond (leb at (length xs)) (parts separator (drop at xs)) []

first_by : (t : Bool) (separator x e : ℕ) (xs : List ℕ) → let ps = parts separator xs in ps ≡ take e xs ∷ parts_from separator xs (suc e)
    → cond t ([] ∷ ps) (before x ps) ≡ take (cond t 0 (suc e)) (x ∷ xs) ∷ parts_from separator (x ∷ xs) (suc (cond t 0 (suc e)))
unfolding parts_from before
first_by true separator x e xs h = simp (leb-suc-suc 0 (length xs), leb-zero (length xs))
first_by false separator x e xs h = simp (leb-suc-suc (suc e) (length xs)) (ap (before x) h)

first_part : (separator : ℕ) (xs : List ℕ) → let e = index_of separator xs in parts separator xs ≡ take e xs ∷ parts_from separator xs (suc e)
unfolding parts index_of parts_from
first_part separator [] = refl
first_part separator (x ∷ xs) = first_by (eqb x separator) separator x (index_of separator xs) xs (first_part separator xs)

-- places of the rest are places of the whole
from_rest : (separator : ℕ) (xs : List ℕ) (at k : ℕ) → at ≤ length xs → parts_from separator (drop at xs) k ≡ parts_from separator xs (at + k)
unfolding parts_from
from_rest separator xs zero k h = simp (zero-add k)
from_rest separator [] (suc at) k h = absurd (omega arith)
from_rest separator (x ∷ xs) (suc at) k h = simp (suc-add at k, leb-suc-suc (at + k) (length xs)) (from_rest separator xs at k (omega arith))

-- from a place on, with the place of the next separator
pub parts_find : (separator : ℕ) (xs : List ℕ) (at end : ℕ) → at ≤ length xs → end ≡ at + index_of separator (slice at (length xs) xs)
    → parts_from separator xs at ≡ take (end - at) (drop at xs) ∷ parts_from separator xs (end + 1)
unfolding parts_from slice
parts_find separator xs at end h q =
    let rest = drop at xs in
    let e = index_of separator rest in
    let all : index_of separator (drop at (take (length xs) xs)) ≡ e = ap (λ (ys : List ℕ). index_of separator (drop at ys)) (take-length xs) in
    let n : e ≡ end - at = omega (arith, q, all) in
    let next : at + suc e ≡ end + 1 = omega (arith, q, all) in
    simp (le-leb _ _ h) (first_part separator rest ∙ ap₂ (λ (k : ℕ) (ps : List (List ℕ)). take k rest ∷ ps) n
    (from_rest separator xs at (suc e) h ∙ ap (parts_from separator xs) next))
