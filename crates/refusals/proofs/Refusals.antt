-- Which refusal is told: 0 exactly where no condition holds, and the first list's before the second's.
use mathlib.Core.Path.{◌≡◌, refl, ap, ◌∙◌}
use mathlib.Core.Logic.{◌≢◌}
use mathlib.Core.Bool.{Bool, true, false, cond}
use mathlib.Core.List.{List, [], ◌∷◌, ◌++◌}
use native.Mathlib.Omega.{arith}
use Rattle.refusals.specs.Refusals.{Check, number, first_of, NoneApplies}
use Rattle.refusals.proofs.Numbers.{number_positive}

pub first-none : (cs : List Check) → NoneApplies cs → first_of cs ≡ 0
unfolding first_of NoneApplies
first-none [] h = refl
first-none (c ∷ cs) h = simp h.0 (first-none cs h.1)

pub none_first : (cs : List Check) → first_of cs ≡ 0 → NoneApplies cs
unfolding first_of NoneApplies
none_first [] e = tt
none_first (c ∷ cs) e = go c.applies e (λ q. none_first cs q)
  where
    go : (b : Bool) → cond b (number c.refusal) (first_of cs) ≡ 0 → (first_of cs ≡ 0 → NoneApplies cs) → (b ≡ false) × NoneApplies cs
    go true q ih = absurd (omega (arith, number_positive c.refusal))
    go false q ih = (refl, ih q)

-- where none of the first list applies, the second list tells
pub first-append : (cs ds : List Check) → NoneApplies cs → first_of (cs ++ ds) ≡ first_of ds
unfolding first_of NoneApplies
first-append [] ds h = refl
first-append (c ∷ cs) ds h = simp h.0 (first-append cs ds h.1)

-- where the first list tells, the second doesn't matter
pub first-left : (cs ds : List Check) → first_of cs ≢ 0 → first_of (cs ++ ds) ≡ first_of cs
unfolding first_of
first-left [] ds ne = absurd (ne refl)
first-left (c ∷ cs) ds ne = go c.applies ne (first-left cs ds)
  where
    go : (b : Bool) → cond b (number c.refusal) (first_of cs) ≢ 0 → (first_of cs ≢ 0 → first_of (cs ++ ds) ≡ first_of cs)
        → cond b (number c.refusal) (first_of (cs ++ ds)) ≡ cond b (number c.refusal) (first_of cs)
    go true q ih = refl
    go false q ih = ih q

-- what is told of the second list is all of it that tells
pub first_ext : (cs ds es : List Check) → first_of ds ≡ first_of es → first_of (cs ++ ds) ≡ first_of (cs ++ es)
unfolding first_of
first_ext [] ds es e = e
first_ext (c ∷ cs) ds es e = ap (cond c.applies (number c.refusal)) (first_ext cs ds es e)

pub none_left : (cs ds : List Check) → NoneApplies (cs ++ ds) → NoneApplies cs
unfolding NoneApplies
none_left [] ds h = tt
none_left (c ∷ cs) ds h = (h.0, none_left cs ds h.1)

pub none_right : (cs ds : List Check) → NoneApplies (cs ++ ds) → NoneApplies ds
unfolding NoneApplies
none_right [] ds h = h
none_right (c ∷ cs) ds h = none_right cs ds h.1

-- the same by the numbers told: where the first list tells nothing, the second tells; where both together tell nothing, neither does
pub first_right : (cs ds : List Check) → first_of cs ≡ 0 → first_of (cs ++ ds) ≡ first_of ds
first_right cs ds z = first-append cs ds (none_first cs z)

pub first_both : (cs ds : List Check) → first_of (cs ++ ds) ≡ 0 → (first_of cs ≡ 0) × (first_of ds ≡ 0)
first_both cs ds z = let n = none_first (cs ++ ds) z in (first-none cs (none_left cs ds n), first-none ds (none_right cs ds n))

pub none-append : (cs ds : List Check) → NoneApplies cs → NoneApplies ds → NoneApplies (cs ++ ds)
none-append cs ds h t = none_first (cs ++ ds) (first-append cs ds h ∙ first-none ds t)
