use mathlib.Core.Path.{ap, ◌∙◌}
use mathlib.Core.Bool.{and-true}
use Prim.Native.Nat.{◌≤◌, ◌<◌}
use native.Mathlib.Omega.{arith}
use borrow.Author.Tests.{lt-leb, le-leb}
use lib.Dec.{leb}
use Rattle.card_format.specs.Fields.{field, fields, allowed}
use Rattle.card_fields.specs.declared.field.Row.{Row}
use Rattle.card_fields.proofs.Arrays.{row_at}
use Rattle.card_fields.proofs.field.number_allowed.Goals as goal

pub returns-then-row-x : goal.returns-then-row-x
unfolding allowed field fields
returns-then-row-x c = let a = c.args in
    let row = row_at a.m a.k c.requires.0 c.requires.1 in
    let high : (field a.m a.k).least ≤ a.x = omega (arith, ap (λ (r : Row). r.least) row, c.if-row-x.true) in
    ap (λ (r : Row). leb a.x r.most) row ∙ simp (le-leb _ _ high, and-true)

pub returns-else-row-x : goal.returns-else-row-x
unfolding allowed field fields
returns-else-row-x c = let a = c.args in
    let row = row_at a.m a.k c.requires.0 c.requires.1 in
    let low : a.x < (field a.m a.k).least = omega (arith, ap (λ (r : Row). r.least) row, c.if-row-x.false) in
    ap (λ (r : Row). leb r.least a.x) row ∙ simp (lt-leb _ _ low)
