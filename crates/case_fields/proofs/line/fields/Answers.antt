use Rattle.std.proofs.Common.{length, eqb, sym, ap, ◌∙◌, rules, tests}
use Rattle.std.proofs.lemmas.Iterator.Splits.{YieldsList-from_slice_split}
use Rattle.std.proofs.lemmas.Iterator.Consumers.{count_from_yields_List}
use Rattle.case_fields.proofs.Parts.{parts_split}
use Rattle.case_fields.proofs.line.fields.Goals as goal

pub returns : goal.returns
returns c = let line = c.args.line.now in
    let s = c.split in
    count_from_yields_List s.result _ c.count.ensures.ran
    (YieldsList-from_slice_split _ (λ b. eqb b 32) line s.ensures.rest s.ensures.done s.ensures.closure (λ x b q k. search (rules, tests)))
    ∙ sym (ap length (parts_split 32 line))
