use mathlib.Core.Path.{◌≡◌}
use mathlib.Core.List.{List}
use Prim.Native.Nat.{ℕ}
use borrow.Author.Tests.{eq-eqb, ne_eqb}
use Rattle.tsc.specs.declared.Card.{Card}
use Rattle.words.specs.declared.arithmetic.Width.{Width}
use Rattle.words.specs.Widths.{width_of}
use Rattle.filters.specs.declared.filter.Rotations.{Rotations}
use Rattle.filters.specs.Rotations.{rotations1, rotations2, places_by, further_by, rotations_by}
use Rattle.filters.proofs.filter.rotations_of.Goals as goal

-- what is made of a width, of places and of those of the further words
made : (card : Card) (rotations : List ℕ) (w : Width) (p f : List ℕ) → w ≡ width_of card.width → p ≡ places_by card.width rotations
    → f ≡ further_by card.width card.words
    → ◌≡◌ {A = Rotations} (record { words = card.words; width = w; filter = card.filter; places = p; further = f }) (rotations_by card rotations)
made card rotations w p f ew ep ef = cc

pub returns-then-card-ne2 : goal.returns-then-card-ne2
returns-then-card-ne2 c = rw (ne_eqb _ _ c.if-card-ne2.true) (made c.args.card rotations1 _ _ _ c.width_of-w.ensures c.places_by-p.ensures c.further_by-f.ensures)

pub returns : goal.returns
returns c = rw (eq-eqb _ _ c.if-card-ne2.false) (made c.args.card rotations2 _ _ _ c.width_of-w.ensures c.places_by-p-2.ensures c.further_by-f.ensures)
