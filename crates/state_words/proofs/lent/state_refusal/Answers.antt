use mathlib.Core.Path.{sym, ◌∙◌}
use borrow.Author.Tests.{eq-eqb, ne_eqb}
use Rattle.refusals.specs.Refusals.{first_of}
use Rattle.state_words.specs.Checks.{state_checks}
use Rattle.state_words.proofs.lent.state_refusal.Goals as goal

pub returns-then-state-m : goal.returns-then-state-m
unfolding state_checks first_of
returns-then-state-m c = simp (ne_eqb _ _ c.if-state-m.true)

pub returns-then-not-all_fit : goal.returns-then-not-all_fit
unfolding state_checks first_of
returns-then-not-all_fit c = simp (eq-eqb _ _ c.if-state-m.false, sym c.all_fit.ensures ∙ c.if-not-all_fit.true)

pub returns : goal.returns
unfolding state_checks first_of
returns c = simp (eq-eqb _ _ c.if-state-m.false, sym c.all_fit.ensures ∙ c.if-not-all_fit.false)
