use Rattle.std.proofs.Common.{ap, sym, ◌∙◌}
use Rattle.case_map.specs.Coordinates.{below, above}
use Rattle.case_map.proofs.Places.{lowered, raised, below_none, above_none, with_minus, without}
use Rattle.case_map.proofs.read.biased_of.Goals as goal

pub returns-in_err-number_of-in-Some : goal.returns-in_err-number_of-in-Some
returns-in_err-number_of-in-Some c = let h = c.in-Some.ensures.cases in
    with_minus c.args.field.now _ c.number_of.result _ h.0 h.1 c.number_of.ensures (below_none _ _ c.in_err-number_of-in-Some.was c.from_residual.ensures)

pub returns-in_err-number_of-in-None : goal.returns-in_err-number_of-in-None
returns-in_err-number_of-in-None c =
    without c.args.field.now c.number_of-in-None.result _ c.in-None.ensures.cases c.number_of-in-None.ensures
    (above_none _ _ c.in_err-number_of-in-None.was c.from_residual-in_err-number_of-in-None.ensures)

pub returns-in_ok-number_of-in-Some : goal.returns-in_ok-number_of-in-Some
returns-in_ok-number_of-in-Some c = let h = c.in-Some.ensures.cases in
    let s = c.in_ok-number_of-in-Some in
    with_minus c.args.field.now _ c.number_of.result _ h.0 h.1 c.number_of.ensures (lowered _ _ c.checked_sub.ensures ∙ ap below (sym s.was))

pub returns-in_ok-number_of-in-None : goal.returns-in_ok-number_of-in-None
returns-in_ok-number_of-in-None c = let s = c.in_ok-number_of-in-None in
    without c.args.field.now c.number_of-in-None.result _ c.in-None.ensures.cases c.number_of-in-None.ensures (raised _ _ c.checked_add.ensures ∙ ap above (sym s.was))
