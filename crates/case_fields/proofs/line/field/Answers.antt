use Rattle.std.proofs.Common.{[], get_or, eqb, sym, ap, ◌∙◌, rules, tests}
use Rattle.std.proofs.lemmas.Iterator.Splits.{YieldsList-from_slice_split}
use Rattle.std.proofs.lemmas.Iterator.Consumers.{nth_from_yields_List}
use Rattle.case_fields.proofs.Parts.{parts_split, part_at}
use Rattle.case_fields.proofs.line.field.Goals as goal

pub returns : goal.returns
returns c = let line = c.args.line.now in
    let s = c.split in
    ap (λ r. r.now) c.unwrap_or.ensures
    ∙ part_at _ c.args.k _ _ (nth_from_yields_List c.nth.result _ c.args.k c.nth.ensures.ran
    (YieldsList-from_slice_split _ (λ b. eqb b 32) line s.ensures.rest s.ensures.done s.ensures.closure (λ x b q k. search (rules, tests))))
    ∙ ap (λ ps. get_or ps c.args.k []) (sym (parts_split 32 line))
