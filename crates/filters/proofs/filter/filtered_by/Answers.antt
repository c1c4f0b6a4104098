use mathlib.Core.Path.{◌≡◌, sym, ap, ◌∙◌}
use borrow.Author.Tests.{eq-eqb, ne_eqb}
use Rattle.tsc.specs.declared.Card.{Card}
use Rattle.tsc.specs.declared.State.{State}
use Rattle.filters.specs.declared.filter.Rotations.{Rotations}
use Rattle.filters.specs.Rotations.{rotations1, rotations2, Filters}
use Rattle.filters.proofs.Rotated.{chosen}
use Rattle.filters.proofs.filter.filtered_by.Goals as goal

-- the rotations are of the card's filter and width
module _ (card : Card) (t : Rotations) (s : State) (f : Filters card t s) where
  number : t.filter ≡ card.filter
  number = ap (λ (a : Rotations). a.filter) f.rotations

  bits : t.width.bits ≡ card.width
  bits = ap (λ (a : Rotations). a.width.bits) f.rotations

pub filter_2-requires : goal.filter_2-requires
filter_2-requires c = let card = c.requires.0 in
    let f = c.requires.1 in let both = chosen card c.args.t c.args.s rotations2 f (rw (eq-eqb card.filter 2 (sym (number card _ _ f) ∙ c.if-t-eq2.true))) in record { has_rotations = both.0; by_index = both.1 }

pub returns-then-t-eq2 : goal.returns-then-t-eq2
returns-then-t-eq2 c card f = rw (eq-eqb card.filter 2 (sym (number card _ _ f) ∙ c.if-t-eq2.true), ← bits card c.args.t c.args.s f) c.filter_2.ensures

pub filter_1-requires : goal.filter_1-requires
filter_1-requires c = let card = c.requires.0 in
    let f = c.requires.1 in let both = chosen card c.args.t c.args.s rotations1 f (rw (ne_eqb card.filter 2 (λ e. c.if-t-eq2.false (number card _ _ f ∙ e)))) in record { has_rotations = both.0; by_index = both.1 }

pub returns : goal.returns
returns c card f = rw (ne_eqb card.filter 2 (λ e. c.if-t-eq2.false (number card _ _ f ∙ e)), ← bits card c.args.t c.args.s f) c.filter_1.ensures
