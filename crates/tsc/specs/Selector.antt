-- The selector, which decides for each column how often the table is applied (document 002, 13 and 18, the parameter alpha).
use Rattle.std.specs.Prelude.{cond, List, [], ◌∷◌, ℕ, ◌+◌, ◌-◌, ◌*◌, ◌%◌, ◌^◌, eqb}
use Rattle.std.specs.Int.Bits.{bit_and, bit_xor}
use Rattle.tsc.specs.declared.Card.{Card}

-- p: the AND of all words, of n bits
unfoldable pub and_words : ℕ → List ℕ → ℕ
and_words n [] = 2 ^ n - 1
and_words n (x ∷ xs) = bit_and x (and_words n xs)

-- s, before it is reduced to n bits: the sum of all words
unfoldable pub sum_words : List ℕ → ℕ
sum_words [] = 0
sum_words (x ∷ xs) = x + sum_words xs

-- document 002 (13), (18): (p + C) XOR p, and XOR 2s when the sum term is 1; every sum and the doubling modulo 2^n
unfoldable pub selector : Card → List ℕ → ℕ
selector card xs =
    let p = and_words card.width xs in
    let s = sum_words xs % 2 ^ card.width in
    bit_xor (bit_xor ((p + card.constant) % 2 ^ card.width) p) (cond (eqb card.sum_term 1) (2 * s % 2 ^ card.width) 0)
