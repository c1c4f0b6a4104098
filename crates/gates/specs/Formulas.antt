-- Formulas of gates: the bits of S(t) and of S(S(t)) for TSC-1's table S, by the bits t0 to t3 of a column t (document 002, 16 and 17).
use Rattle.std.specs.Prelude.{ℕ, ◌+◌, ◌-◌, ◌*◌, ◌%◌, ◌^◌, max, List, [], ◌∷◌, bit_and, bit_or, bit_xor, slice_index, slice_index_or}
use Rattle.cycle.specs.Notation.{bit}

infixl 60 ◌∣◌
infixl 65 ◌⊕◌
infixl 70 ◌&◌
-- a formula of t0, t1, ..; the bar is the complement
pub data Formula : Type 0 where
  t : ℕ → Formula
  bar : Formula → Formula
  ◌&◌ : Formula → Formula → Formula
  ◌∣◌ : Formula → Formula → Formula
  ◌⊕◌ : Formula → Formula → Formula

-- on bits: its value, 0 or 1, where tk is bit k of c
unfoldable pub on_bits : ℕ → Formula → ℕ
on_bits c (t k) = bit k c
on_bits c (bar f) = 1 - on_bits c f
on_bits c (f & g) = on_bits c f * on_bits c g
on_bits c (f ∣ g) = max (on_bits c f) (on_bits c g)
on_bits c (f ⊕ g) = (on_bits c f + on_bits c g) % 2

-- on whole words of n bits, where tk is word k: each gate is the operation on words
unfoldable pub on_words : ℕ → List ℕ → Formula → ℕ
on_words n ws (t k) = slice_index ws k
on_words n ws (bar f) = (2 ^ n - 1) - on_words n ws f
on_words n ws (f & g) = bit_and (on_words n ws f) (on_words n ws g)
on_words n ws (f ∣ g) = bit_or (on_words n ws f) (on_words n ws g)
on_words n ws (f ⊕ g) = bit_xor (on_words n ws f) (on_words n ws g)

-- document 002 (16): u0 to u3, the bits of S(t)
abbrev pub equation16 : List Formula
equation16 =
    (bar (t 3) ⊕ (t 2 & bar (t 1) & t 0))
    ∷ (t 2 ⊕ (t 3 & t 1 & t 0) ⊕ (bar (t 3) & bar (t 1) & bar (t 0)))
    ∷ (t 0 ⊕ (t 3 & bar (t 2) & bar (t 1)))
    ∷ (t 1 ⊕ (t 3 & t 2 & bar (t 0)))
    ∷ []

-- document 002 (17): v0 to v3, the bits of S(S(t))
abbrev pub equation17 : List Formula
equation17 =
    (bar (t 1) ⊕ (t 3 & t 2 & bar (t 0)) ⊕ (bar (t 3) & bar (t 2) & t 0))
    ∷ (t 0 ⊕ (bar (t 3) & t 2 & t 1))
    ∷ (bar (t 3) ⊕ (t 2 & bar (t 1) & t 0) ⊕ (bar (t 2) & t 1 & bar (t 0)))
    ∷ (t 2 ⊕ (bar (t 3) & bar (t 1) & bar (t 0)))
    ∷ []

-- formula k of an equation
abbrev pub line : List Formula → ℕ → Formula
line equation k = slice_index_or equation k (t 0)

-- document 002 (12), with t0 for u, t1 for v and t2 for the selector's bit: u where that is 1, v where it is 0
abbrev pub choice : Formula
choice = (t 2 & t 0) ∣ (bar (t 2) & t 1)
