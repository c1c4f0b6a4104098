-- For the readers of lists: numbers put to a list, and what is still to come.
use Rattle.std.proofs.Common.{inl, inr, ◌≡◌, ℕ, ◌+◌, ◌<◌, ◌≤◌, List, [], ◌∷◌, Option, Some, None, length, set, map, get_or, suc, refl, sym, ap, ap₂, ◌∙◌, arith, eqb}
use lib.Pointwise.{pointwise}
use Rattle.std.proofs.lemmas.Bool.{cases_eq}
use Rattle.std.proofs.lemmas.List.{get_or-set_same, get_or-set_other}
use Rattle.std.proofs.lemmas.Bool.Decides.{nat_tests}
use Rattle.std.specs.List as std
use Rattle.case_numbers.specs.Numbers.{fold}
use Rattle.case_fields.specs.Lists.{Held, held, empty, with_number, is_nothing}

pub with_above : (most x : ℕ) (h : Held) → most < x → with_number most (Some h) (Some x) ≡ None
unfolding with_number
with_above most x h a = grind (arith, nat_tests)

pub with_full : (most x : ℕ) (h : Held) → length h.words ≤ h.count → with_number most (Some h) (Some x) ≡ None
unfolding with_number
with_full most x h f = grind (arith, nat_tests)

pub with_one : (most x : ℕ) (h : Held) → x ≤ most → h.count < length h.words → with_number most (Some h) (Some x) ≡ Some (held (set h.words h.count x) (h.count + 1))
unfolding with_number
with_one most x h a f = grind (arith, nat_tests)

-- std's test for the sign of an empty list is the definition's
pub same_nothing : (xs : List ℕ) → pointwise eqb xs (45 ∷ []) ≡ is_nothing xs
unfolding is_nothing
same_nothing [] = refl
same_nothing (x ∷ []) = grind (arith, nat_tests)
same_nothing (x ∷ y ∷ zs) = grind (arith, nat_tests)

-- std's fold over the parts is the definition's over their values
fold_values : (most : ℕ) (value : List ℕ → Option ℕ) (a : Option Held) (ps : List (List ℕ)) → std.fold (λ b p. with_number most b (value p)) a ps ≡ fold (with_number most) a (map value ps)
unfolding fold
fold_values most value a [] = refl
fold_values most value a (p ∷ ps) = fold_values most value (with_number most a (value p)) ps

-- what a fold over parts of a field answers, from the empty list on
pub gathered : (most n : ℕ) (value : List ℕ → Option ℕ) (h : Held) (ps qs : List (List ℕ)) (r : Option Held) → h ≡ empty n → qs ≡ ps
    → r ≡ std.fold (λ b p. with_number most b (value p)) (Some h) ps → r ≡ fold (with_number most) (Some (empty n)) (map value qs)
gathered most n value h ps qs r e q f =
    f ∙ fold_values most value (Some h) ps ∙ ap (λ k. fold (with_number most) (Some k) (map value ps)) e ∙ ap (λ rs. fold (with_number most) (Some (empty n)) (map value rs)) (sym q)

-- a list made element by element
each : (f : ℕ → ℕ) (xs ys : List ℕ) → length ys ≡ length xs → ((i : ℕ) → i < length xs → get_or ys i 0 ≡ f (get_or xs i 0)) → ys ≡ map f xs
each f [] [] l e = refl
each f [] (y ∷ ys) l e = absurd (omega (arith, l))
each f (x ∷ xs) [] l e = absurd (omega (arith, l))
each f (x ∷ xs) (y ∷ ys) l e = ap₂ (λ a bs. a ∷ bs) (e 0 (omega arith)) (each f xs ys (omega (arith, l)) (λ i h. e (suc i) (omega (arith, h))))

pub mapped : (f : ℕ → ℕ) (xs ys : List ℕ) (n : ℕ) → length xs ≡ n → length ys ≡ n → ((i : ℕ) → i < n → get_or ys i 0 ≡ f (get_or xs i 0)) → ys ≡ map f xs
mapped f xs ys n l m e = each f xs ys (m ∙ sym l) (λ i h. e i (omega (arith, h, l)))

-- the next element of a list that is being made so, written over what stands there
pub mapped_next : (f : ℕ → ℕ) (xs ys : List ℕ) (k v : ℕ) → k < length ys → v ≡ f (get_or xs k 0) → ((i : ℕ) → i < k → get_or ys i 0 ≡ f (get_or xs i 0))
    → (i : ℕ) → i < k + 1 → get_or (set ys k v) i 0 ≡ f (get_or xs i 0)
mapped_next f xs ys k v l e h i j =
    elim (cases_eq i k) [
      | inl same ↦ ap (λ n. get_or (set ys k v) n 0) same ∙ get_or-set_same ys k v 0 l ∙ e ∙ ap (λ n. f (get_or xs n 0)) (sym same)
      | inr other ↦ get_or-set_other ys k i v 0 other ∙ h i (omega (arith, j, other))
    ]
