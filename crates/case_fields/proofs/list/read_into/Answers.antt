use Rattle.std.proofs.Common.{◌≡◌, ℕ, ◌+◌, ◌<◌, List, Option, Some, None, length, get_or, drop, eqb, option_map, sym, ap, ap₂, ◌∙◌, rules, tests, arith}
use Rattle.std.specs.List.{slice_split}
use Rattle.std.proofs.lemmas.List.{length_push}
use Rattle.std.proofs.lemmas.Iterator.Splits.{YieldsList-from_slice_split}
use Rattle.std.proofs.lemmas.Iterator.Consumers.{YieldsList-turn, YieldsList-end}
use Rattle.case_numbers.specs.Numbers.{base_of, numeral}
use Rattle.case_fields.specs.Lists.{Held, held, with_number}
use Rattle.case_fields.proofs.Parts.{parts_split}
use Rattle.case_fields.proofs.Folds.{gathered, part_next, part_stop, part_end}
use Rattle.case_fields.proofs.list.read_into.Goals as goal
use Rattle.case_fields.proofs.list.read_into.Goals.{In-Some}

-- the part of this turn is the next of the field's
turn : (c : In-Some) → let ps = slice_split (λ b. eqb b 44) c.args.field.now in
    (length c.loop-part.yielded < length ps) × (c.in-Some.part.now ≡ get_or ps (length c.loop-part.yielded) c.in-Some.part.now)
turn c = let s = c.split-part-items.ensures in
    YieldsList-turn (YieldsList-from_slice_split _ (λ b. eqb b 44) c.args.field.now (search rules) (search rules) (search rules) (λ x b q k. search (rules, tests)))
    c.loop-part.yielded _ c.loop-part.yielded_by _ _ c.in-Some.part c.in-Some.is c.next.ensures.steps

pub returns-in_err-number_of-clause-value : goal.returns-in_err-number_of-clause-value
unfolding with_number
returns-in_err-number_of-clause-value c = let a = c.args in
    let l = c.loop-part in
    let value = numeral (base_of a.hex) in
    let (h, e) = turn (goal.at.returns-in_err-number_of-clause-value c).In-Some in
    let none : value (get_or (slice_split (λ b. eqb b 44) a.field.now) (length l.yielded) c.in-Some.part.now) ≡ None = ap value (sym e) ∙ sym c.number_of.ensures ∙ c.in_err-number_of.was in
    ap (gathered a.most value (Some (held a.words.now 0))) (parts_split 44 a.field.now)
    ∙ sym l.invariant.left
    ∙ part_stop a.most value (Some (held l.words l.count)) _ (length l.yielded) c.in-Some.part.now h (ap (with_number a.most (Some (held l.words l.count))) none)
    ∙ sym (ap (option_map (held l.words)) c.from_residual.ensures)

pub returns-in_err-count-clause-value : goal.returns-in_err-count-clause-value
returns-in_err-count-clause-value c = let a = c.args in
    let l = c.loop-part in
    let value = numeral (base_of a.hex) in
    let (h, e) = turn (goal.at.returns-in_err-count-clause-value c).In-Some in
    let some = ap value (sym e) ∙ sym c.number_of.ensures ∙ c.in_ok-number_of.was in
    ap (gathered a.most value (Some (held a.words.now 0))) (parts_split 44 a.field.now)
    ∙ sym l.invariant.left
    ∙ part_stop a.most value (Some (held l.words l.count)) _ (length l.yielded) c.in-Some.part.now h
    (ap (with_number a.most (Some (held l.words l.count))) some ∙ c.put.ensures.value ∙ ap (option_map (held c.put.new.words)) c.in_err-count.was)
    ∙ sym (ap (option_map (held c.put.new.words)) c.from_residual-in_err-count.ensures)

pub loop-part-preserved : goal.loop-part-preserved
loop-part-preserved c = let a = c.args in
    let l = c.loop-part in
    let value = numeral (base_of a.hex) in
    let (h, e) = turn (goal.at.loop-part-preserved c).In-Some in
    let some = ap value (sym e) ∙ sym c.number_of.ensures ∙ c.in_ok-number_of.was in
    let put = ap (with_number a.most (Some (held l.words l.count))) some ∙ c.put.ensures.value ∙ ap (option_map (held c.put.new.words)) c.in_ok-count.was in
    record {
      bound = c.put.ensures.bound c.in_ok-count.count c.in_ok-count.was;
      left = ap₂ (λ r n. gathered a.most value r (drop n (slice_split (λ b. eqb b 44) a.field.now))) (sym put) (length_push l.yielded c.in-Some.part)
          ∙ part_next a.most value (Some (held l.words l.count)) _ (length l.yielded) c.in-Some.part.now h ∙ l.invariant.left;
    }

pub returns-clause-value : goal.returns-clause-value
returns-clause-value c = let a = c.args in
    let l = c.loop-part in
    let s = c.split-part-items.ensures in
    let value = numeral (base_of a.hex) in
    let ended = YieldsList-end (YieldsList-from_slice_split _ (λ b. eqb b 44) a.field.now (search rules) (search rules) (search rules) (λ x b q k. search (rules, tests)))
    l.yielded _ l.yielded_by _ _ c.in-None.is c.next.ensures.steps in
    ap (gathered a.most value (Some (held a.words.now 0))) (parts_split 44 a.field.now)
    ∙ sym l.invariant.left ∙ part_end a.most value (Some (held l.words l.count)) _ (length l.yielded) (omega (arith, ended.1))
