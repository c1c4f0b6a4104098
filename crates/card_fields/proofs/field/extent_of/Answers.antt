use mathlib.Core.Path.{sym, ap, ◌∙◌}
use Prim.Native.Nat.{ℕ, ◌*◌, ◌^◌}
use native.Mathlib.Nat.{mul-one, one-mul}
use Rattle.card_format.specs.Fields.{field, fields, extent}
use Rattle.card_format.proofs.Fields.{count-one}
use Rattle.card_fields.specs.declared.field.Row.{Row}
use Rattle.card_fields.proofs.Arrays.{row_at}
use Rattle.card_fields.proofs.field.extent_of.Goals as goal

pub returns-then-k-eq-TABLE : goal.returns-then-k-eq-TABLE
unfolding field fields
returns-then-k-eq-TABLE c = let a = c.args in
    c.entries.ensures ∙ sym (mul-one (2 ^ a.m)) ∙ ap (λ (k : ℕ). extent (field a.m k)) (sym c.if-k-eq-TABLE.true)

pub returns : goal.returns
unfolding field fields
returns c = let a = c.args in
    let l = c.requires.0 in
    let f = field a.m a.k in
    ap (λ (r : Row). r.size) (row_at a.m a.k l c.if-k-eq-TABLE.false)
    ∙ sym (ap (λ (n : ℕ). n * f.size) (count-one a.m a.k l c.if-k-eq-TABLE.false) ∙ one-mul f.size)
