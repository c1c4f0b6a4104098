use Rattle.std.proofs.Common.{rules, tests, refl, ◌∙◌, length, arith}
use Rattle.std.proofs.lemmas.Iterator.{YieldsList-from_range}
use Rattle.std.proofs.lemmas.Iterator.Search.{any_from_yields_List}
use Rattle.tie_list.specs.Repeats.{repeats_at}
use Rattle.tie_list.proofs.Twice.{twice-any}
use Rattle.tie_list.proofs.check.repeated.Goals as goal

pub returns : goal.returns
returns c = let xs = c.args.shovels.now in
    any_from_yields_List (repeats_at xs) _ _ _ c.any.ensures.ran (YieldsList-from_range 0 (length xs) (length xs) refl (omega arith)) (λ x b q k. search (rules, tests)) ∙ twice-any xs
