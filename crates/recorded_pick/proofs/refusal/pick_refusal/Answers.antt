use Rattle.std.proofs.Common.{refl, sym}
use Rattle.std.proofs.lemmas.Result.{err_from_is_err_and}
use Rattle.draws.proofs.Opening.{Clear}
use Rattle.call_check.proofs.Checked.{look_refused, look_clear}
use Rattle.draws.proofs.Called.{accepted}
use Rattle.refusals.proofs.Answers.{told_of_value}
use Rattle.picks.proofs.Picking.{told_call, told_later}
use Rattle.pick.proofs.Passed.{told_by_list}
use Rattle.recorded_pick.proofs.refusal.pick_refusal.Goals as goal
use Rattle.recorded_pick.proofs.refusal.pick_refusal.Goals.{In_ok-values}

-- past the first test the card and the state are not refused
passing : (c : In_ok-values) → Clear c.args.card.now c.args.state.now c.in_ok-values.values.now
passing c = look_clear c.args.card.now c.args.state.now (c.look.ensures _ c.read-found.ensures) c.in_ok-values.was

pub returns-in_err-values : goal.returns-in_err-values
returns-in_err-values c = let a = c.args in
    let p = err_from_is_err_and c.from_residual.result c.from_residual.ensures.1 in
    rw (p.1, p.2) (sym (told_call _ _ _ _ c.in_err-values.field-0.0 (look_refused a.card.now a.state.now (c.look.ensures _ c.read-found.ensures) c.in_err-values.was)))

pub list_ties-requires : goal.list_ties-requires
list_ties-requires c = (accepted (passing (goal.at.list_ties-requires c).In_ok-values)).narrow

pub returns-in_err-list_ties : goal.returns-in_err-list_ties
returns-in_err-list_ties c =
    let p = err_from_is_err_and c.from_residual-in_err-list_ties.result c.from_residual-in_err-list_ties.ensures.1 in
    rw (p.1, p.2) (sym (told_by_list _ _ _ _ (passing (goal.at.returns-in_err-list_ties c).In_ok-values) c.list_ties.ensures.refusal c.in_err-list_ties.was))

pub returns : goal.returns
returns c = sym (told_of_value (told_later _ _ _ _ (passing (goal.at.returns c).In_ok-values) refl c.list_ties.ensures.refusal) c.in_ok-list_ties.was)
