-- How a rank is drawn among k ties (document 02, Two): words of the orbit are tried in turn, and one that is L or more is passed over.
use Rattle.std.specs.Prelude.{cond, List, [], ◌∷◌, ℕ, suc, ◌-◌, ◌%◌, ◌^◌, eqb, ltb}
use Rattle.cycle.specs.Notation.{first}
use Rattle.cycle.specs.Fair.{largest_multiple}
use Rattle.tsc.specs.declared.Card.{Card}
use Rattle.tsc.specs.Step.{orbit}
use Rattle.tsc.specs.Word.{word, word_at}
use Rattle.refusals.specs.Refusals.{Check, check}
use Rattle.refusals.specs.declared.Refusal.TheVariants.{TooManyTies}

-- the most words that are tried, and so taken
abbrev pub most_taken : ℕ
most_taken = 16

-- L, for k ties
abbrev pub limit : Card → ℕ → ℕ
limit card k = largest_multiple (2 ^ card.width) k

-- how many words are tried: up to the first below L, or else all
unfoldable pub tried : Card → List ℕ → ℕ → ℕ
tried card xs k = suc (first (most_taken - 1) (λ t. ltb (word_at card xs t) (limit card k)))

-- how many words are taken: for one tie alone none is tried
unfoldable pub taken : Card → List ℕ → ℕ → ℕ
taken card xs k = cond (eqb k 1) 0 (tried card xs k)

-- the state then
abbrev pub drawn_state : Card → List ℕ → ℕ → List ℕ
drawn_state card xs k = orbit card xs (taken card xs k)

-- the rank: the remainder by k of its word, which is the last word tried; by 1 it is 0
abbrev pub drawn_rank : Card → List ℕ → ℕ → ℕ
drawn_rank card xs k = word card (drawn_state card xs k) % k

-- what is refused of k ties for words of n bits, condition 18: there are more ties than words
unfoldable pub tie_checks : ℕ → ℕ → List Check
tie_checks n k = check TooManyTies (ltb (2 ^ n) k) ∷ []
