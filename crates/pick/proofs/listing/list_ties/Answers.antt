use Rattle.std.proofs.Common.{◌≡◌, ℕ, ◌++◌, sym, ap, ◌∙◌, arith}
use Rattle.std.proofs.lemmas.Result.{err_from_is_err_and}
use Rattle.refusals.specs.Refusals.{first_of}
use Rattle.refusals.proofs.Answers.{number_nonzero}
use Rattle.refusals.proofs.Refusals.{first-left, first_right}
use Rattle.ties.specs.Ties.{ties}
use Rattle.tie_list.specs.Checks.{list_checks}
use Rattle.tie_list.proofs.Allowed.{Allowed, list_allowed}
use Rattle.samples.specs.Samples.{tie_checks}
use Rattle.picks.proofs.Picking.{ties-few}
use Rattle.pick.proofs.listing.list_ties.Goals as goal
use Rattle.pick.proofs.listing.list_ties.Goals.{In_ok-list_refusal, After-ties_refusal}

-- past the first test the list is not refused
allowed : (c : In_ok-list_refusal) → Allowed c.args.shovels.now c.args.times.now
allowed c = list_allowed _ _ (sym c.in_ok-list_refusal.ensures)

-- the second tells of the count of ties, or of nothing
last : (c : After-ties_refusal) → let a = c.args in first_of (tie_checks a.n c.ties_of-k.result) ≡ first_of (list_checks a.shovels.now a.times.now ++ tie_checks a.n (ties a.times.now))
last c = let a = c.args in
    ap (λ (k : ℕ). first_of (tie_checks a.n k)) c.ties_of-k.ensures ∙ sym (first_right (list_checks a.shovels.now a.times.now) _ (sym c.in_ok-list_refusal.ensures))

pub returns-in_err-list_refusal-clause-refusal : goal.returns-in_err-list_refusal-clause-refusal
returns-in_err-list_refusal-clause-refusal c = let p = err_from_is_err_and c.from_residual.result c.from_residual.ensures.1 in
    let e = c.in_err-list_refusal.ensures in
    rw (p.1, p.2) (e ∙ sym (first-left (list_checks c.args.shovels.now c.args.times.now) _ (λ z. number_nonzero c.in_err-list_refusal.field-0.0 (e ∙ z))))

pub least_time-least-requires : goal.least_time-least-requires
least_time-least-requires c = (allowed c).some

pub overflow_cast-k : goal.overflow_cast-k
overflow_cast-k c = omega (arith, c.ties_of-k.ensures, (ties-few (allowed (goal.at.overflow_cast-k c).In_ok-list_refusal)).1)

pub returns-in_err-ties_refusal-clause-refusal : goal.returns-in_err-ties_refusal-clause-refusal
returns-in_err-ties_refusal-clause-refusal c = let p = err_from_is_err_and c.from_residual-in_err-ties_refusal.result c.from_residual-in_err-ties_refusal.ensures.1 in
    rw (p.1, p.2) (c.in_err-ties_refusal.ensures ∙ last (goal.at.returns-in_err-ties_refusal-clause-refusal c).After-ties_refusal)

pub returns-clause-refusal : goal.returns-clause-refusal
returns-clause-refusal c = c.in_ok-ties_refusal.ensures ∙ last (goal.at.returns-clause-refusal c).After-ties_refusal
