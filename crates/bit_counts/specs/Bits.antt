-- The bits of a strip of words as one list, and as text (document 02, Eight).
use Rattle.std.specs.Prelude.{List, [], ◌∷◌, ◌++◌, map, ℕ, zero, suc, ◌+◌, ◌-◌, ◌*◌, ◌^◌, length, take, drop}
use Rattle.cycle.specs.Notation.{bit}

-- the n bits of a word, the top bit, bit n - 1, first
unfoldable pub word_bits : ℕ → ℕ → List ℕ
word_bits zero w = []
word_bits (suc n) w = bit n w ∷ word_bits n w

-- the bits of all words of a strip, n bits a word
unfoldable pub bits_of : ℕ → List ℕ → List ℕ
bits_of n [] = []
bits_of n (w ∷ ws) = word_bits n w ++ bits_of n ws

-- a bit as ASCII 0 or 1
abbrev pub digit : ℕ → ℕ
digit b = 48 + b

abbrev pub text : List ℕ → List ℕ
text bits = map digit bits

-- ---- and back: the word that digits say, the top bit first, and so many words of n digits, one after the other

unfoldable pub word_read : List ℕ → ℕ
word_read [] = 0
word_read (c ∷ cs) = (c - 48) * 2 ^ length cs + word_read cs

unfoldable pub words_read : ℕ → ℕ → List ℕ → List ℕ
words_read n zero cs = []
words_read n (suc k) cs = word_read (take n cs) ∷ words_read n k (drop n cs)
