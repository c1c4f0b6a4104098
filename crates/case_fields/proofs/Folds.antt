-- For the loop that puts one number after the other to what it has: what is still to come, from a part on.
use Rattle.std.proofs.Common.{◌≡◌, ℕ, ◌+◌, ◌<◌, ◌≤◌, List, [], ◌∷◌, Option, Some, None, length, map, get_or, drop, refl, sym, ap, ◌∙◌}
use Rattle.std.proofs.lemmas.List.{at_drop_more, at_drop_all}
use Rattle.case_numbers.specs.Numbers.{fold}
use Rattle.case_fields.specs.Lists.{Held, with_number}

-- a list with the values of these parts put to it
abbrev pub gathered : ℕ → (List ℕ → Option ℕ) → Option Held → List (List ℕ) → Option Held
gathered most value list ps = fold (with_number most) list (map value ps)

pub gather_next : (most : ℕ) (value : List ℕ → Option ℕ) (list next : Option Held) (x : Option ℕ) (p : List ℕ) (ps qs : List (List ℕ)) → next ≡ with_number most list x
    → x ≡ value p → qs ≡ p ∷ ps → gathered most value next ps ≡ gathered most value list qs
unfolding fold
gather_next most value list next x p ps qs n v q =
    ap (λ (l : Option Held). gathered most value l ps) (n ∙ ap (with_number most list) v) ∙ sym (ap (gathered most value list) q)

-- what is none stays none
pub gather_none : (most : ℕ) (value : List ℕ → Option ℕ) (ps : List (List ℕ)) → gathered most value None ps ≡ None
unfolding fold with_number
gather_none most value [] = refl
gather_none most value (p ∷ ps) = gather_none most value ps

-- the part at a place is the first of those from there on
pub part_next : (most : ℕ) (value : List ℕ → Option ℕ) (list : Option Held) (ps : List (List ℕ)) (i : ℕ) (d : List ℕ) → i < length ps
    → gathered most value (with_number most list (value (get_or ps i d))) (drop (i + 1) ps) ≡ gathered most value list (drop i ps)
part_next most value list ps i d h =
    gather_next most value list _ _ (get_or ps i d) (drop (i + 1) ps) (drop i ps) refl refl (at_drop_more (λ (qs : List (List ℕ)). qs) ps i d h)

-- one that makes it none
pub part_stop : (most : ℕ) (value : List ℕ → Option ℕ) (list : Option Held) (ps : List (List ℕ)) (i : ℕ) (d : List ℕ) → i < length ps
    → with_number most list (value (get_or ps i d)) ≡ None → gathered most value list (drop i ps) ≡ None
part_stop most value list ps i d h n =
    sym (part_next most value list ps i d h) ∙ ap (λ l. gathered most value l (drop (i + 1) ps)) n ∙ gather_none most value (drop (i + 1) ps)

pub part_end : (most : ℕ) (value : List ℕ → Option ℕ) (list : Option Held) (ps : List (List ℕ)) (i : ℕ) → length ps ≤ i → gathered most value list (drop i ps) ≡ list
unfolding fold
part_end most value list ps i h = at_drop_all (gathered most value list) ps i h
