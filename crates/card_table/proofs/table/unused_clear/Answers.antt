use Rattle.std.proofs.Common.{rules, ◌≡◌, ℕ, ◌^◌, List, [], ◌∷◌, Bool, ◌&&◌, length, drop, refl, ap, ◌-◌, arith, length-drop, ◌∙◌}
use borrow.Author.Tests.{tests}
use lib.Dec.{eqb}
use lib.ListN.{replicate}
use lib.Seq.{take_all}
use Rattle.tsc.specs.Constants.{most_words}
use Rattle.std.specs.List.{list_all}
use Rattle.std.proofs.lemmas.Iterator.{YieldsList-from_slice}
use Rattle.std.proofs.lemmas.Iterator.Search.{all_from_yields_List}
use Rattle.card_format.specs.Fields.{same}
use Rattle.card_table.proofs.table.unused_clear.Goals as goal

all_clear : (xs : List ℕ) → list_all (λ x. eqb x 0) xs ≡ same xs (replicate (length xs) 0)
unfolding same
all_clear [] = refl
all_clear (x ∷ xs) = ap (λ (b : Bool). eqb x 0 && b) (all_clear xs)

pub returns : goal.returns
returns c =
    let t = c.args.table.now in
    let unused = drop (2 ^ c.args.m) t in
    let rest = c.iter.ensures.rest ∙ take_all (2 ^ most_words - c.entries.result) (drop c.entries.result t) (omega (arith, length-drop c.entries.result t)) ∙ ap (λ (k : ℕ). drop k t) c.entries.ensures in
    all_from_yields_List (λ x. eqb x 0) _ _ c.all.result c.all.ensures.ran (YieldsList-from_slice unused rest) (λ x b q k. search (rules, tests))
    ∙ all_clear unused
