use mathlib.Core.Path.{sym, ap, ◌∙◌}
use Prim.Native.Nat.{ℕ}
use Rattle.card_format.specs.Fields.{field, allowed}
use Rattle.card_format.specs.Writing.{numbers_of}
use Rattle.card_encode.proofs.values.field_allowed.Goals as goal

pub returns-then-k-eq-TABLE : goal.returns-then-k-eq-TABLE
unfolding numbers_of
returns-then-k-eq-TABLE c = let a = c.args in
    c.entries_allowed.ensures ∙ ap (λ (k : ℕ). allowed (field a.card.words k) (numbers_of a.card k)) (sym c.if-k-eq-TABLE.true)
