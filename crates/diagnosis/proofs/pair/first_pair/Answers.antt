use Rattle.std.proofs.Common.{refl, sym, ◌∙◌, arith}
use Rattle.cycle.specs.Notation.{first}
use Rattle.completions.specs.Finding.{clashes, clashes_with}
use Rattle.completions.proofs.Least.{pair_of}
use Rattle.diagnosis.specs.Marks.{entry_of}
use Rattle.diagnosis.proofs.Found.{of_some, of_none}
use Rattle.diagnosis.proofs.pair.first_pair.Goals as goal

-- the first place that clashes has another that it clashes with
pub returns-in_err-y : goal.returns-in_err-y
returns-in_err-y c =
    let t = c.requires.0 in
    let x = c.in_ok-x.x in
    let (e, l) = of_some _ (clashes _ (entry_of c.args.table.now)) x (sym c.first_clash.ensures ∙ c.in_ok-x.was) in
    let p = pair_of _ (entry_of c.args.table.now) t.large t.below (omega (arith, c.requires.1)) x (first _ (clashes_with (entry_of c.args.table.now) x)) e l refl in
    absurd (omega (arith, p.below, of_none _ _ (sym c.partner.ensures ∙ c.in_err-y.was)))
