use Rattle.std.proofs.Common.{rules, ℕ, Some, None, eqb, ltb, cond, ap₂, ◌∙◌}
use borrow.Author.Tests.{tests}
use Rattle.std.proofs.lemmas.List.FromFn.{length-enumerate_from}
use Rattle.std.proofs.lemmas.Iterator.{YieldsList-from_slice}
use Rattle.std.proofs.lemmas.Iterator.Consumers.{YieldsList-from_enumerate}
use Rattle.std.proofs.lemmas.Iterator.Search.{position_from_yields_List}
use Rattle.diagnosis.proofs.Found.{placed}
use Rattle.diagnosis.proofs.pair.fixed_point.Goals as goal

pub returns : goal.returns
returns c =
    let t = c.args.table.now in
    position_from_yields_List (λ (e : ℕ × ℕ). eqb e.1 e.0) _ _ c.position.result c.position.ensures.ran (YieldsList-from_enumerate (YieldsList-from_slice t cc) cc) (λ x b q k. search (rules, tests))
    ∙ ap₂ (λ (i n : ℕ). cond (ltb i n) (Some i) None) (placed (λ x v. eqb v x) t) (length-enumerate_from 0 t)
