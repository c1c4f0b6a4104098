use Rattle.std.proofs.Common.{◌≡◌, true, List, ℕ, Option, length, sym, ap, subst, ◌∙◌}
use Rattle.std.proofs.lemmas.Result.{err_from_is_err_and}
use Rattle.std.specs.Prelude.{Err}
use Rattle.refusals.specs.declared.Refusal.{Refusal}
use Rattle.refusals.specs.Refusals.{number, numbered}
use Rattle.refusals.proofs.Answers.{number_nonzero}
use Rattle.draws.proofs.Opening.{Clear}
use Rattle.call_check.proofs.Checked.{look_refused, look_clear}
use Rattle.draws.proofs.Called.{few, accepted, ready}
use Rattle.gates.proofs.GateStep.{only-p1}
use Rattle.changes.specs.declared.Change.{Change}
use Rattle.outcomes.specs.Elsewhere.{elsewhere}
use Rattle.candidates.specs.Best.{BestOf}
use Rattle.picks.specs.Picks.{pick_refusal}
use Rattle.picks.proofs.Picking.{told_call}
use Rattle.pick.proofs.Passed.{Free, told_by_list, free}
use Rattle.margins.specs.Margins.{IsMargin}
use Rattle.margins.proofs.Answers.{margin_refused}
use Rattle.margin.proofs.Found.{Draws, listed, found_nothing, found_counts, found_least}
use Rattle.margin.proofs.call.margin.Goals as goal
use Rattle.margin.proofs.call.margin.Goals.{After-known_of-known, After-least_change, In_ok-values, In_ok-found}

-- past the first test the card and the state are not refused
passing : (c : In_ok-values) → Clear c.args.card.now c.args.state.now c.in_ok-values.values.now
passing c = look_clear c.args.card.now c.args.state.now (c.look.ensures _ c.read-read.ensures) c.in_ok-values.was

-- past the second nothing is
going : (c : In_ok-found) → let a = c.args in Free a.card.now a.state.now a.shovels.now a.times.now c.in_ok-values.values.now c.in_ok-found.found
going c = let a = c.args in
    let k = look_clear a.card.now a.state.now (c.look.ensures _ c.read-read.ensures) c.in_ok-values.was in
    free _ _ _ _ k c.list_ties.ensures.refusal c.in_ok-found.was c.in_ok-found.ensures.found

refusal : (bytes xs shovels times : List ℕ) (e : Refusal) → pick_refusal bytes xs shovels times ≡ number e → IsMargin bytes xs shovels times (numbered (Err e))
refusal bytes xs shovels times e q = (margin_refused bytes xs shovels times (λ z. number_nonzero e (sym q ∙ z)) _).1 (ap Err (sym q))

-- what the search is given
draws : (c : After-known_of-known) → let a = c.args in
    Draws a.state.now a.shovels.now a.times.now c.in_ok-values.values.now c.in_ok-found.found c.known_of-known.result
draws c =
    let e = c.known_of-known.ensures in
    record { width = e.width; state = c.load-held.result; lent = c.load-held.ensures; words = e.words; chosen = e.chosen }

-- what it finds
best-is : (c : After-least_change) {r : Option Change} → c.least_change.result ≡ r → let a = c.args in
    BestOf a.shovels.now a.times.now (λ ys. elsewhere c.known_of-known.result a.shovels.now ys ≡ true) (length a.times.now) r
best-is c e =
    let a = c.args in
    subst (BestOf a.shovels.now a.times.now (λ ys. elsewhere c.known_of-known.result a.shovels.now ys ≡ true) (length a.times.now)) e c.least_change.ensures

pub returns-in_err-values : goal.returns-in_err-values
returns-in_err-values c = let a = c.args in
    let p = err_from_is_err_and c.from_residual.result c.from_residual.ensures.1 in
    let e = c.in_err-values.field-0.0 in
    rw (p.1, p.2) (refusal _ _ _ _ e (told_call _ _ _ _ e (look_refused a.card.now a.state.now (c.look.ensures _ c.read-read.ensures) c.in_err-values.was)))

pub list_ties-requires : goal.list_ties-requires
list_ties-requires c = (accepted (passing (goal.at.list_ties-requires c).In_ok-values)).narrow

pub returns-in_err-found : goal.returns-in_err-found
returns-in_err-found c = let a = c.args in
    let p = err_from_is_err_and c.from_residual-in_err-found.result c.from_residual-in_err-found.ensures.1 in
    let told = told_by_list _ _ _ _ (passing (goal.at.returns-in_err-found c).In_ok-values) c.list_ties.ensures.refusal c.in_err-found.was in
    rw (p.1, p.2) (refusal a.card.now a.state.now a.shovels.now a.times.now c.in_err-found.field-0.0 told)

pub load-held-requires : goal.load-held-requires
load-held-requires c = few (going (goal.at.load-held-requires c).In_ok-found).clear

pub known_of-known-requires : goal.known_of-known-requires
known_of-known-requires c = let f = going (goal.at.known_of-known-requires c).In_ok-found in
    (accepted f.clear, only-p1 _ _ _ f.clear.card_is c.is_tsc1-is_tsc1.ensures, ready f.clear c.load-held.ensures, f.some, f.few, f.listed)

pub least_change-requires : goal.least_change-requires
least_change-requires c = listed _ _ _ _ _ _ (going (goal.at.least_change-requires c).In_ok-found) _ (draws (goal.at.least_change-requires c).After-known_of-known)

pub told-requires : goal.told-requires
told-requires c = let f = going (goal.at.told-requires c).In_ok-found in
    let d = draws (goal.at.told-requires c).After-known_of-known in
    let l = listed _ _ _ _ _ _ f _ d in
    let k = found_counts _ _ _ _ _ _ f _ d _ (best-is (goal.at.told-requires c).After-least_change c.in-Some.is) in
    record { width_le_widest_width = (l.width, l.paired, l.few); place_in_bounds = (k.listed, k.within) }

pub returns-in-None : goal.returns-in-None
returns-in-None c = found_nothing _ _ _ _ _ _ (going (goal.at.returns-in-None c).In_ok-found) _ (draws (goal.at.returns-in-None c).After-known_of-known) (best-is (goal.at.returns-in-None c).After-least_change c.in-None.is)

pub returns-in-Some : goal.returns-in-Some
returns-in-Some c = let t = c.told.ensures in
    found_least _ _ _ _ _ _ (going (goal.at.returns-in-Some c).In_ok-found) _ (draws (goal.at.returns-in-Some c).After-known_of-known) _ (best-is (goal.at.returns-in-Some c).After-least_change c.in-Some.is) c.told.result
    t.change t.shovel t.ties t.taken
