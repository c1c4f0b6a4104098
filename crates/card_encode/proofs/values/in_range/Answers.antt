use mathlib.Core.Path.{◌≡◌, refl, sym, ap, ◌∙◌}
use Prim.Native.Nat.{ℕ}
use native.Mathlib.Omega.{arith}
use native.Mathlib.Numerals.{add-one}
use borrow.Author.Rules.{rules}
use Rattle.cycle.specs.Notation.{every}
use Rattle.cycle.proofs.Every.{every_at, every_not}
use Rattle.card_format.specs.Fields.{field, field_count, allowed}
use Rattle.card_format.specs.Writing.{numbers_of, in_range}
use Rattle.card_format.proofs.Writing.{words-allowed}
use Rattle.card_encode.proofs.values.in_range.Goals as goal

pub loop-k-init : goal.loop-k-init
unfolding every
loop-k-init c = refl

pub field_allowed-requires : goal.field_allowed-requires
field_allowed-requires c = (omega arith, λ p. words-allowed c.args.card (every_at c.loop-k.k _ c.loop-k.invariant 0 p))

pub returns-then-not-field_allowed : goal.returns-then-not-field_allowed
unfolding in_range
returns-then-not-field_allowed c = rw (every_not field_count _ c.loop-k.k (omega arith) (sym c.field_allowed.ensures ∙ c.if-not-field_allowed.true)) refl

pub loop-k-preserved : goal.loop-k-preserved
unfolding every
loop-k-preserved c = rw add-one (simp (c.loop-k.invariant, sym c.field_allowed.ensures ∙ c.if-not-field_allowed.false))

pub unused_clear-requires : goal.unused_clear-requires
unused_clear-requires c = let l = c.loop-k in
    (words-allowed c.args.card (every_at l.k _ l.invariant 0 (omega arith)), search rules)

pub returns : goal.returns
unfolding in_range
returns c = let card = c.args.card in
    let e : c.loop-k.k ≡ field_count = omega arith in
    rw (sym (ap (λ (n : ℕ). every n (λ j. allowed (field card.words j) (numbers_of card j))) e) ∙ c.loop-k.invariant) c.unused_clear.ensures
