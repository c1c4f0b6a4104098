-- The output word of a state: filters 1 and 2 (document 002, 15 and 20), within n bits as document 01 says, and the words past those that they take
-- (document 02, Five).
use Rattle.std.specs.Prelude.{cond, List, ℕ, suc, ◌+◌, ◌-◌, ◌*◌, ◌/◌, ◌%◌, ◌^◌, eqb, length, get_or}
use Rattle.cycle.specs.Notation.{sum, tabulate}
use Rattle.tsc.specs.declared.Card.{Card}
use Rattle.tsc.specs.Constants.{filter_words}
use Rattle.tsc.specs.Step.{orbit}

module _ (n : ℕ) where
  infixl 65 ◌⊞◌
  infixl 70 ◌⋘◌
  -- the sum modulo 2^n
  unfoldable pub ◌⊞◌ : ℕ → ℕ → ℕ
  ◌⊞◌ x y = (x + y) % 2 ^ n

  -- x turned left by k modulo n, within n bits: what leaves at the top comes in at the bottom
  unfoldable pub ◌⋘◌ : ℕ → ℕ → ℕ
  ◌⋘◌ x k = x * 2 ^ (k % n) % 2 ^ n + x / 2 ^ (n - k % n)

  -- document 002 (15)
  unfoldable pub filter1 : (ℕ → ℕ) → ℕ
  filter1 x = ((x 0 ⋘ 9 ⊞ x 1) ⋘ 15) ⊞ (x 2 ⋘ 7 ⊞ x 3)

  -- document 002 (20)
  unfoldable pub filter2 : (ℕ → ℕ) → ℕ
  filter2 x = ((x 0 ⋘ 11 ⊞ x 1) ⋘ 14) ⊞ ((x 0 ⋘ 13 ⊞ x 2) ⋘ 22) ⊞ (x 0 ⋘ 12 ⊞ x 3)

  -- document 02, Five: so many words from x4 up, each turned left by its number modulo n
  unfoldable pub further : (ℕ → ℕ) → ℕ → ℕ
  further x count = sum count (λ j. x (filter_words + j) ⋘ (filter_words + j))

-- what the card's filter makes of x0 to x3
abbrev pub filtered : Card → (ℕ → ℕ) → ℕ
filtered card x = cond (eqb card.filter 2) (filter2 card.width x) (filter1 card.width x)

-- the word of a state; absent words count as 0. The word of a draw is that of the state after the step
unfoldable pub word : Card → List ℕ → ℕ
word card xs =
    let x : ℕ → ℕ = λ k. get_or xs k 0 in
    ◌⊞◌ card.width (filtered card x) (further card.width x (length xs - filter_words))

-- the endless sequence of words from a state (document 02, Six): draw number t, counted from 0, gives the word of state number t + 1 of the orbit
abbrev pub word_at : Card → List ℕ → ℕ → ℕ
word_at card xs t = word card (orbit card xs (suc t))

-- its first words: what so many draws give
unfoldable pub orbit_words : Card → List ℕ → ℕ → List ℕ
orbit_words card xs count = tabulate count (word_at card xs)
