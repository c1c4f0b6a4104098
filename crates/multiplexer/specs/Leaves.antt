-- The leaves of the tree, and words picked from others place by place.
use Rattle.std.specs.Prelude.{◌≡◌, List, ℕ, ◌+◌, ◌*◌, ◌/◌, ◌%◌, ◌^◌, ◌<◌, get_or}
use Rattle.cycle.specs.Notation.{bit}
use Rattle.words.specs.Masks.{HasBits}
use Rattle.columns.specs.Few.{few_words}
use Rattle.columns.specs.Replace.{image_of}

-- a word for each bit of both images of each entry
abbrev pub leaf_count : ℕ
leaf_count = 2 * few_words * 2 ^ few_words

-- both images of each entry c: at 2c the one by the even power, at 2c + 1 the one by the odd power
abbrev pub HasImages : List ℕ → List ℕ → List ℕ → Type 0
HasImages odd even t = (e : ℕ) → e < 2 * 2 ^ few_words → get_or t e 0 ≡ image_of odd even (e % 2) (e / 2)

-- A selector bit s and an entry c make the number s + 2c, and t has a row of words for each number: word k of the row has, in every place, bit k of
-- where c goes by the power that s picks.
abbrev pub HasLeaves : List ℕ → List ℕ → List ℕ → Type 0
HasLeaves odd even t =
    (s c k : ℕ) → s < 2 → c < 2 ^ few_words → k < few_words → HasBits (get_or t (k + few_words * (s + 2 * c)) 0) (λ i. bit k (image_of odd even s c))

-- of t in rows of n words: v has in place i the bit of word j of row f i
abbrev pub PickedAt : ℕ → List ℕ → (ℕ → ℕ) → ℕ → ℕ → Type 0
PickedAt n t f j v = HasBits v (λ i. bit i (get_or t (j + n * f i) 0))

-- the first n words of r are such a row
abbrev pub HasPicked : ℕ → List ℕ → (ℕ → ℕ) → List ℕ → Type 0
HasPicked n t f r = (j : ℕ) → j < n → PickedAt n t f j (get_or r j 0)
