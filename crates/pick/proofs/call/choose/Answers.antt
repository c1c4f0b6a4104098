use Rattle.std.proofs.Common.{sym, ap, subst, arith}
use Rattle.std.proofs.lemmas.Result.{err_from_is_err_and}
use Rattle.tsc.specs.declared.Card.{Card}
use Rattle.tsc.specs.Coverage.{IsState}
use Rattle.draws.proofs.Opening.{Clear}
use Rattle.call_check.proofs.Checked.{look_refused, look_clear}
use Rattle.draws.proofs.Called.{accepted, in_range}
use Rattle.gates.proofs.GateStep.{only-p1}
use Rattle.sample.specs.declared.draw.Sample.{Sample}
use Rattle.picks.proofs.Picking.{told_call, refused_pick}
use Rattle.pick.proofs.Passed.{Free, told_by_list, free, made, made_alone}
use Rattle.pick.proofs.call.choose.Goals as goal
use Rattle.pick.proofs.call.choose.Goals.{In_ok-values, In_ok-found}

-- past the first test the card and the state are not refused
passing : (c : In_ok-values) → Clear c.args.card.now c.args.state.now c.in_ok-values.values.now
passing c = look_clear c.args.card.now c.args.state.now (c.look.ensures _ c.read-read.ensures) c.in_ok-values.was

-- past the second nothing is
going : (c : In_ok-found) → let a = c.args in Free a.card.now a.state.now a.shovels.now a.times.now c.in_ok-values.values.now c.in_ok-found.found
going c = let a = c.args in
    let k = look_clear a.card.now a.state.now (c.look.ensures _ c.read-read.ensures) c.in_ok-values.was in
    free _ _ _ _ k c.list_ties.ensures.refusal c.in_ok-found.was c.in_ok-found.ensures.found

pub returns-in_err-values : goal.returns-in_err-values
returns-in_err-values c = let a = c.args in
    let p = err_from_is_err_and c.from_residual.result c.from_residual.ensures.1 in
    let e = c.in_err-values.field-0.0 in
    let both = refused_pick _ _ _ _ e (told_call _ _ _ _ e (look_refused a.card.now a.state.now (c.look.ensures _ c.read-read.ensures) c.in_err-values.was)) in
    rw (p.1, p.2) (record { answer = both.0; after = both.1 })

pub list_ties-requires : goal.list_ties-requires
list_ties-requires c = (accepted (passing (goal.at.list_ties-requires c).In_ok-values)).narrow

pub returns-in_err-found : goal.returns-in_err-found
returns-in_err-found c =
    let p = err_from_is_err_and c.from_residual-in_err-found.result c.from_residual-in_err-found.ensures.1 in
    let told = told_by_list _ _ _ _ (passing (goal.at.returns-in_err-found c).In_ok-values) c.list_ties.ensures.refusal c.in_err-found.was in
    let both = refused_pick _ _ _ _ c.in_err-found.field-0.0 told in
    rw (p.1, p.2) (record { answer = both.0; after = both.1 })

pub overflow_cast-ties : goal.overflow_cast-ties
overflow_cast-ties c = omega (arith, (going (goal.at.overflow_cast-ties c).In_ok-found).few)

pub chosen_by-nearest-requires : goal.chosen_by-nearest-requires
chosen_by-nearest-requires c = (going (goal.at.chosen_by-nearest-requires c).In_ok-found).listed

pub returns-then-found-eq1 : goal.returns-then-found-eq1
returns-then-found-eq1 c = let both = made_alone (going (goal.at.returns-then-found-eq1 c).In_ok-found) c.if-found-eq1.true c.chosen_by-nearest.ensures in record { answer = both.0; after = both.1 }

pub overflow_cast-found : goal.overflow_cast-found
overflow_cast-found c = omega (arith, (going (goal.at.overflow_cast-found c).In_ok-found).few)

pub draw_rank-drawn-requires : goal.draw_rank-drawn-requires
draw_rank-drawn-requires c = let f = going (goal.at.draw_rank-drawn-requires c).In_ok-found in
    (accepted f.clear, only-p1 _ _ _ f.clear.card_is c.is_tsc1-is_tsc1.ensures, subst (λ (d : Card). IsState d c.args.state.now) (sym f.clear.card_is) (in_range f.clear), f.some, c.if-found-eq1.false)

pub chosen_by-number-requires : goal.chosen_by-number-requires
chosen_by-number-requires c = (going (goal.at.chosen_by-number-requires c).In_ok-found).listed

pub returns : goal.returns
returns c = let e = c.draw_rank-drawn.ensures in
    let both = made (going (goal.at.returns c).In_ok-found) (ap (λ (d : Sample). d.rank) e.drawn) (ap (λ (d : Sample). d.taken) e.drawn) e.after c.chosen_by-number.ensures in record { answer = both.0; after = both.1 }
