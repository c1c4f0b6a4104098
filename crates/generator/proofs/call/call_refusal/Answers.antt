use mathlib.Core.Path.{refl, sym, ap, ◌∙◌}
use borrow.Author.Tests.{eq-eqb, ne_eqb}
use Rattle.refusals.specs.Refusals.{told}
use Rattle.generator.proofs.call.call_refusal.Goals as goal

pub returns-then-refusal-ne0 : goal.returns-then-refusal-ne0
returns-then-refusal-ne0 c = simp (ne_eqb _ _ c.if-refusal-ne0.true) refl

pub returns-in-Ok : goal.returns-in-Ok
returns-in-Ok c = simp (eq-eqb _ _ c.if-refusal-ne0.false) (sym (ap told c.in-Ok.is) ∙ c.state_refusal.ensures)

pub returns-in-Err : goal.returns-in-Err
returns-in-Err c = simp (eq-eqb _ _ c.if-refusal-ne0.false) (c.number.ensures ∙ sym (ap told c.in-Err.is) ∙ c.state_refusal.ensures)
