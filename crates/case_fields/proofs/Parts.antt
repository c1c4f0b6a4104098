-- The parts of a text are those that std's split gives.
use Rattle.std.proofs.Common.{◌≡◌, ℕ, ◌<◌, List, [], ◌∷◌, cond, eqb, length, get_or, Option, Some, None, Bor, refl, ap, ◌∙◌, arith}
use Rattle.std.specs.List.{slice_split, onto_first, slice_get}
use Rattle.std.specs.Option.{option_map, unwrap_or}
use Rattle.std.proofs.lemmas.Option.{unwrap_or-slice_get}
use Rattle.std.proofs.lemmas.List.Splits.{length-slice_split}
use Rattle.case_fields.specs.Text.{before, parts}

same_front : (x : ℕ) (ps : List (List ℕ)) → 0 < length ps → before x ps ≡ onto_first x ps
unfolding before
same_front x [] h = absurd (omega arith)
same_front x (p ∷ ps) h = refl

pub parts_split : (c : ℕ) (xs : List ℕ) → parts c xs ≡ slice_split (λ b. eqb b c) xs
unfolding parts
parts_split c [] = refl
parts_split c (x ∷ xs) =
    let ss = slice_split (λ b. eqb b c) xs in
    ap (λ ps. cond (eqb x c) ([] ∷ ps) (before x ps)) (parts_split c xs)
    ∙ ap (cond (eqb x c) ([] ∷ ss)) (same_front x ss (omega (arith, length-slice_split (λ b. eqb b c) xs)))

-- one of them, behind a reference; nothing where there are not so many
pub part_at : (ps : List (List ℕ)) (k : ℕ) (r : Option (Bor (List ℕ))) (d : Bor (List ℕ)) → option_map (λ x. x.now) r ≡ slice_get ps k → (unwrap_or r d).now ≡ get_or ps k d.now
part_at ps k None d e = ap (λ o. unwrap_or o d.now) e ∙ unwrap_or-slice_get ps k d.now
part_at ps k (Some x) d e = ap (λ o. unwrap_or o d.now) e ∙ unwrap_or-slice_get ps k d.now
