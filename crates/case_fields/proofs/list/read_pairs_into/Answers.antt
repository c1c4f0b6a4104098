use Rattle.std.proofs.Common.{◌≡◌, ◌<◌, Some, None, length, get_or, drop, option_map, sym, ap, ap₂, ◌∙◌, rules, arith}
use Rattle.std.proofs.lemmas.List.{length_push}
use Rattle.std.proofs.lemmas.Iterator.Consumers.{YieldsList-turn, YieldsList-end}
use Rattle.case_fields.specs.Lists.{held, with_number, pairs, pair_value}
use Rattle.case_fields.proofs.Pairs.{YieldsList-from_whole}
use Rattle.case_fields.proofs.Folds.{gathered, part_next, part_stop, part_end}
use Rattle.case_fields.proofs.list.read_pairs_into.Goals as goal
use Rattle.case_fields.proofs.list.read_pairs_into.Goals.{In-Some}

-- the pair of this turn is the next of the field's
turn : (c : In-Some) → let ps = pairs c.args.field.now in
    (length c.loop-pair.yielded < length ps) × (c.in-Some.pair.now ≡ get_or ps (length c.loop-pair.yielded) c.in-Some.pair.now)
turn c =
    YieldsList-turn (YieldsList-from_whole c.args.field.now (search rules) (search rules))
    c.loop-pair.yielded _ c.loop-pair.yielded_by _ _ c.in-Some.pair c.in-Some.is c.next.ensures.steps

pub returns-in_err-pair_of-clause-value : goal.returns-in_err-pair_of-clause-value
unfolding with_number
returns-in_err-pair_of-clause-value c =
    let l = c.loop-pair in
    let (h, e) = turn (goal.at.returns-in_err-pair_of-clause-value c).In-Some in
    let none : pair_value (get_or (pairs c.args.field.now) (length l.yielded) c.in-Some.pair.now) ≡ None = ap pair_value (sym e) ∙ sym c.pair_of.ensures ∙ c.in_err-pair_of.was in
    sym l.invariant.left
    ∙ part_stop 255 pair_value (Some (held l.words l.count)) _ (length l.yielded) c.in-Some.pair.now h (ap (with_number 255 (Some (held l.words l.count))) none)
    ∙ sym (ap (option_map (held l.words)) c.from_residual.ensures)

pub returns-in_err-count-clause-value : goal.returns-in_err-count-clause-value
returns-in_err-count-clause-value c =
    let l = c.loop-pair in
    let (h, e) = turn (goal.at.returns-in_err-count-clause-value c).In-Some in
    let some = ap pair_value (sym e) ∙ sym c.pair_of.ensures ∙ c.in_ok-pair_of.was in
    sym l.invariant.left
    ∙ part_stop 255 pair_value (Some (held l.words l.count)) _ (length l.yielded) c.in-Some.pair.now h
    (ap (with_number 255 (Some (held l.words l.count))) some ∙ c.put.ensures.value ∙ ap (option_map (held c.put.new.words)) c.in_err-count.was)
    ∙ sym (ap (option_map (held c.put.new.words)) c.from_residual-in_err-count.ensures)

pub loop-pair-preserved : goal.loop-pair-preserved
loop-pair-preserved c =
    let l = c.loop-pair in
    let (h, e) = turn (goal.at.loop-pair-preserved c).In-Some in
    let some = ap pair_value (sym e) ∙ sym c.pair_of.ensures ∙ c.in_ok-pair_of.was in
    let put = ap (with_number 255 (Some (held l.words l.count))) some ∙ c.put.ensures.value ∙ ap (option_map (held c.put.new.words)) c.in_ok-count.was in
    record {
      bound = c.put.ensures.bound c.in_ok-count.count c.in_ok-count.was;
      left = ap₂ (λ r n. gathered 255 pair_value r (drop n (pairs c.args.field.now))) (sym put) (length_push l.yielded c.in-Some.pair)
          ∙ part_next 255 pair_value (Some (held l.words l.count)) _ (length l.yielded) c.in-Some.pair.now h ∙ l.invariant.left;
    }

pub returns-clause-value : goal.returns-clause-value
returns-clause-value c =
    let l = c.loop-pair in
    let ended = YieldsList-end (YieldsList-from_whole c.args.field.now (search rules) (search rules)) l.yielded _ l.yielded_by _ _ c.in-None.is c.next.ensures.steps in
    sym l.invariant.left ∙ part_end 255 pair_value (Some (held l.words l.count)) _ (length l.yielded) (omega (arith, ended.1))
