use mathlib.Core.Path.{◌≡◌, refl, subst}
use mathlib.Core.Bool.{Bool}
use native.Mathlib.Omega.{arith}
use Rattle.changes.specs.Change.{moved, Within}
use Rattle.margin.proofs.changed.moved_by.Goals as goal
use Rattle.margin.proofs.changed.moved_by.Goals.{Start}

-- the new time is a time, for the direction that is taken
within : (s : Start) (b : Bool) → s.args.raised ≡ b → Within b s.args.t s.args.seconds
within s b e = subst (λ (b : Bool). Within b s.args.t s.args.seconds) e s.requires

pub overflow_add-result : goal.overflow_add-result
unfolding Within
overflow_add-result c = let w = within (goal.at.overflow_add-result c).Start _ c.if-raised.true in omega (arith, w)

pub returns-then-raised : goal.returns-then-raised
unfolding moved
returns-then-raised c = rw c.if-raised.true refl

pub overflow_sub-result : goal.overflow_sub-result
unfolding Within
overflow_sub-result c = within (goal.at.overflow_sub-result c).Start _ c.if-raised.false

pub returns : goal.returns
unfolding moved
returns c = rw c.if-raised.false refl
