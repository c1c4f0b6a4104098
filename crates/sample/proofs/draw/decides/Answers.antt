use borrow.Author.Tests.{eq-eqb, ne_eqb}
use Rattle.sample.proofs.draw.decides.Goals as goal

pub returns-then-taken-eq-MOST_TAKEN : goal.returns-then-taken-eq-MOST_TAKEN
returns-then-taken-eq-MOST_TAKEN c = simp (eq-eqb _ _ c.if-taken-eq-MOST_TAKEN.true)

pub below_limit-requires : goal.below_limit-requires
below_limit-requires c = c.requires

pub returns : goal.returns
returns c = rw (ne_eqb _ _ c.if-taken-eq-MOST_TAKEN.false) c.below_limit.ensures
