use Rattle.std.proofs.Common.{◌≡◌, ℕ, List, [], ◌∷◌, ◌&&◌, eqb, refl, ap, ◌∙◌}
use lib.Pointwise.{pointwise}
use Rattle.card_format.specs.Fields.{same}
use Rattle.case_answers.proofs.answer.same_words.Goals as goal

-- std's comparison is the definition's
each : (xs ys : List ℕ) → pointwise eqb xs ys ≡ same xs ys
unfolding same
each [] [] = refl
each [] (y ∷ ys) = refl
each (x ∷ xs) [] = refl
each (x ∷ xs) (y ∷ ys) = ap (λ b. eqb x y && b) (each xs ys)

pub returns : goal.returns
returns c = c.eq.ensures ∙ each c.args.a.now c.args.b.now
