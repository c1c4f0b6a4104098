use Rattle.std.proofs.Common.{◌≡◌, List, ◌++◌, ℕ, sym, ◌∙◌}
use Rattle.std.proofs.lemmas.Result.{err_from_is_err_and}
use Rattle.refusals.specs.declared.Refusal.{Refusal}
use Rattle.refusals.specs.Refusals.{Check, number, first_of}
use Rattle.refusals.proofs.Answers.{number_nonzero}
use Rattle.refusals.proofs.Refusals.{first-left, first_right}
use Rattle.draws.specs.Calls.{call_checks, refusal_for}
use Rattle.call_check.proofs.Checked.{look_refused, look_clear}
use Rattle.map_pick.proofs.refusal.first_refusal.Goals as goal

-- a refusal of the card or of the state is told before others
told_first : (bytes xs : List ℕ) (later : List Check) (e : Refusal) → refusal_for bytes xs ≡ number e → number e ≡ first_of (call_checks bytes xs ++ later)
unfolding refusal_for
told_first bytes xs later e q = sym (first-left (call_checks bytes xs) later (λ z. number_nonzero e (sym q ∙ z)) ∙ q)

pub returns-in_err-look : goal.returns-in_err-look
returns-in_err-look c = let a = c.args in
    let p = err_from_is_err_and c.from_residual.result c.from_residual.ensures.1 in
    rw (p.1, p.2) (told_first a.card.now a.state.now _ c.in_err-look.field-0.0 (look_refused a.card.now a.state.now (c.look.ensures _ c.read-found.ensures) c.in_err-look.was))

pub returns : goal.returns
unfolding refusal_for
returns c = let a = c.args in
    let k = look_clear a.card.now a.state.now (c.look.ensures _ c.read-found.ensures) c.in_ok-look.was in
    c.places_refusal.ensures ∙ sym (first_right (call_checks a.card.now a.state.now) _ k.none)
