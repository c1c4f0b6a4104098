-- By how many places the rotations of the filters and of the further words go, modulo n.
use Rattle.std.specs.Prelude.{◌≡◌, cond, List, [], ◌∷◌, map, ℕ, ◌+◌, ◌-◌, ◌%◌, ◌^◌, ◌≤◌, ◌<◌, eqb, ltb, get_or, replicate}
use Rattle.cycle.specs.Notation.{tabulate}
use Rattle.tsc.specs.declared.Card.{Card}
use Rattle.tsc.specs.declared.State.{State}
use Rattle.tsc.specs.Constants.{most_words, filter_words, widest_width}
use Rattle.words.specs.Widths.{width_of, IsWidth}
use Rattle.filters.specs.declared.filter.Rotations.{Rotations}

-- document 002 (15), with three rotations
abbrev pub rotations1 : List ℕ
rotations1 = 9 ∷ 15 ∷ 7 ∷ 0 ∷ 0 ∷ []

-- document 002 (20)
abbrev pub rotations2 : List ℕ
rotations2 = 11 ∷ 14 ∷ 13 ∷ 22 ∷ 12 ∷ []

abbrev pub places_by : ℕ → List ℕ → List ℕ
places_by n rotations = map (λ k. k % n) rotations

-- document 02, Five: those of the words past the filters', by their numbers; 0 for m words where there are none
abbrev pub further_places : ℕ → List ℕ
further_places n = tabulate (most_words - filter_words) (λ j. (filter_words + j) % n)

abbrev pub further_by : ℕ → ℕ → List ℕ
further_by n m = cond (ltb filter_words m) (further_places n) (replicate (most_words - filter_words) 0)

abbrev pub rotations_by : Card → List ℕ → Rotations
rotations_by card rotations = record {
  words = card.words;
  width = width_of card.width;
  filter = card.filter;
  places = places_by card.width rotations;
  further = further_by card.width card.words;
}

abbrev pub rotations_of : Card → Rotations
rotations_of card = rotations_by card (cond (eqb card.filter 2) rotations2 rotations1)

-- t holds these rotations
abbrev pub HasRotations : Rotations → List ℕ → Type 0
HasRotations t rotations = IsWidth t.width × (t.places ≡ places_by t.width.bits rotations)

-- and those of the further words
abbrev pub HasFurther : Rotations → Type 0
HasFurther t = IsWidth t.width × (t.further ≡ further_places t.width.bits)

-- what the word of a state asks for: a card's width and rotations, words of n bits, and zeros past m
pub record Filters (card : Card) (t : Rotations) (s : State) : Type 0 where
  pub width : (0 < card.width) × (card.width ≤ widest_width)
  pub rotations : t ≡ rotations_of card
  pub words : (k : ℕ) → k < most_words → get_or s.words k 0 < 2 ^ card.width
  pub past : (k : ℕ) → card.words ≤ k → get_or s.words k 0 ≡ 0
