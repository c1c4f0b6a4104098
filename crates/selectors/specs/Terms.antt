-- What the selector needs of a card, as the code holds it.
use Rattle.std.specs.Prelude.{◌≡◌, ℕ, ◌-◌, ◌^◌, ◌<◌, cond, List, ◌==◌, nat_lt, slice_index}
use Rattle.tsc.specs.declared.Card.{Card}
use Rattle.tsc.specs.Constants.{most_words, widest_width}
use Rattle.words.specs.Widths.{width_of}
use Rattle.selectors.specs.declared.selector.Terms.{Terms}

-- masks for the words of a state: zeros for the first m, ones for the absent ones
abbrev pub Absent : ℕ → List ℕ → Type 0
Absent m t = (k : ℕ) → k < most_words → slice_index t k ≡ cond (nat_lt k m) 0 (2 ^ widest_width - 1)

-- the terms of a card: m, n, its absent words, C, and a mask of n bits for the term 2s
pub record IsTerms (card : Card) (t : Terms) : Type 0 where
  pub words : t.words ≡ card.words
  pub width : t.width ≡ width_of card.width
  pub absent : Absent card.words t.absent
  pub constant : t.constant ≡ card.constant
  pub doubled : t.doubled ≡ cond (card.sum_term == 1) (2 ^ card.width - 1) 0
