-- A formula on whole words acts on each bit by itself (`bit-onWords`), and on the sixteen columns equations 16 and 17 are S and S twice (`equation-16`, `equation-17`).
use Rattle.std.proofs.Common.{◌≡◌, ℕ, zero, suc, ◌+◌, ◌-◌, ◌*◌, ◌%◌, ◌^◌, ◌<◌, max, Bool, true, cond, eqb, List, [], ◌∷◌, get_or, sym, refl, ap, ◌∙◌, ap₂, arith, pow_pos, eqb-true}
use lib.Bits.{and_lt, or_lt, xor_lt}
use Rattle.cycle.specs.Notation.{every, iterate, bit}
use Rattle.cycle.proofs.Bits.{bit-bit_and, bit-bit_or, bit-bit_xor, bit_not}
use Rattle.cycle.proofs.Every.{every_at}
use Rattle.tsc.specs.Columns.{column}
use Rattle.tsc.specs.Step.{entry}
use Rattle.tsc.proofs.Columns.{column_lt}
use Rattle.tsc.proofs.LowWords.{bit-column}
use Rattle.gates.specs.Formulas.{Formula, on_bits, on_words, equation16, equation17, line, choice}
use Rattle.gates.specs.Formulas.Formula.{t, bar, ◌&◌, ◌∣◌, ◌⊕◌}
use Rattle.gates.specs.Tsc1.{tsc1_card, GivesPower}

-- ---- on whole words

module _ (n : ℕ) (ws : List ℕ) (fits : (k : ℕ) → get_or ws k 0 < 2 ^ n) where
  pub on_words_lt : (f : Formula) → on_words n ws f < 2 ^ n
  unfolding on_words
  on_words_lt (t k) = fits k
  on_words_lt (bar f) = omega (arith, pow_pos n)
  on_words_lt (f & g) = and_lt n (on_words n ws f) (on_words n ws g) (on_words_lt f) (on_words_lt g)
  on_words_lt (f ∣ g) = or_lt n (on_words n ws f) (on_words n ws g) (on_words_lt f) (on_words_lt g)
  on_words_lt (f ⊕ g) = xor_lt n (on_words n ws f) (on_words n ws g) (on_words_lt f) (on_words_lt g)

  -- each bit by itself: bit i is the formula on column i
  pub bit-on_words : (i : ℕ) → i < n → (f : Formula) → bit i (on_words n ws f) ≡ on_bits (column i ws) f
  unfolding on_words on_bits
  bit-on_words i l (t k) = sym (bit-column i ws k)
  bit-on_words i l (bar f) = bit_not n i (on_words n ws f) (on_words_lt f) l ∙ ap (λ (a : ℕ). 1 - a) (bit-on_words i l f)
  bit-on_words i l (f & g) = bit-bit_and i (on_words n ws f) (on_words n ws g) ∙ ap₂ (λ (a b : ℕ). a * b) (bit-on_words i l f) (bit-on_words i l g)
  bit-on_words i l (f ∣ g) = bit-bit_or i (on_words n ws f) (on_words n ws g) ∙ ap₂ max (bit-on_words i l f) (bit-on_words i l g)
  bit-on_words i l (f ⊕ g) = bit-bit_xor i (on_words n ws f) (on_words n ws g) ∙ ap₂ (λ (a b : ℕ). (a + b) % 2) (bit-on_words i l f) (bit-on_words i l g)

-- ---- on all columns, by computing

-- whether the lines of an equation give the bits of S applied p times on column c
abbrev gives : List Formula → ℕ → ℕ → Bool
gives equation p c = every 4 (λ k. eqb (on_bits c (line equation k)) (bit k (iterate (entry tsc1_card) p c)))

tested : (equation : List Formula) (p : ℕ) → every 16 (gives equation p) ≡ true → GivesPower equation p
tested equation p h k c lk lc =
    eqb-true _ _ (every_at 4 (λ k. eqb (on_bits c (line equation k)) (bit k (iterate (entry tsc1_card) p c))) (every_at 16 (gives equation p) h c lc) k lk)

-- document 002 (16) is S
pub equation_16 : GivesPower equation16 1
unfolding every on_bits iterate
equation_16 = tested equation16 1 refl

-- document 002 (17) is S applied twice
pub equation_17 : GivesPower equation17 2
unfolding every on_bits iterate
equation_17 = tested equation17 2 refl

chosen : (c : ℕ) → c < 8 → on_bits c choice ≡ cond (eqb (bit 2 c) 1) (bit 0 c) (bit 1 c)
unfolding every on_bits
chosen c l = eqb-true _ _ (every_at 8 (λ c. eqb (on_bits c choice) (cond (eqb (bit 2 c) 1) (bit 0 c) (bit 1 c))) refl c l)

-- ---- in each place of words u and v the one that z picks

module _ (n u v z : ℕ) (lu : u < 2 ^ n) (lv : v < 2 ^ n) (lz : z < 2 ^ n) where
  three_fit : (k : ℕ) → get_or (u ∷ v ∷ z ∷ []) k 0 < 2 ^ n
  three_fit zero = lu
  three_fit (suc zero) = lv
  three_fit (suc (suc zero)) = lz
  three_fit (suc (suc (suc k))) = pow_pos n

  pub bit-choice : (i : ℕ) → i < n → bit i (on_words n (u ∷ v ∷ z ∷ []) choice) ≡ cond (eqb (bit i z) 1) (bit i u) (bit i v)
  bit-choice i l =
      let ws : List ℕ = u ∷ v ∷ z ∷ [] in
      let c : ℕ = column i ws in
      bit-on_words n ws three_fit i l choice ∙ chosen c (column_lt i ws)
      ∙ ap (λ (b : ℕ). cond (eqb b 1) (bit 0 c) (bit 1 c)) (bit-column i ws 2) ∙ ap₂ (cond (eqb (bit i z) 1)) (bit-column i ws 0) (bit-column i ws 1)

  pub choice_lt : on_words n (u ∷ v ∷ z ∷ []) choice < 2 ^ n
  choice_lt = on_words_lt n (u ∷ v ∷ z ∷ []) three_fit choice
