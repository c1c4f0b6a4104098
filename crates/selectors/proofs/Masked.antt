-- The AND and the sum of the first m words, by loops over all the words that a state can have: masks leave out those past m.
use Rattle.std.proofs.Common.{◌≡◌, ℕ, ◌+◌, ◌-◌, ◌*◌, ◌%◌, ◌^◌, ◌<◌, ◌≤◌, Bool, true, false, cond, ltb, List, [], ◌∷◌, length, get_or, sym, ap, ◌∙◌, mod-eq_of_lt, two-mul, arith, pow_mono, le-ltb, lt-ltb}
use native.Mathlib.Nat.{add-mod, add-mod-mod, sub-zero, sub_self}
use native.Mathlib.Decide.{dec_lt}
use lib.Bits.{bit_and, bit_or, and_mask, and_comm, and_zero_r, or_zero_r, or_add_and}
use lib.Pow.{ones_lt}
use Rattle.cycle.specs.Notation.{bit}
use Rattle.cycle.proofs.Bits.{bit_past, bit_ones, mod_pow_mod}
use Rattle.tsc.specs.Constants.{widest_width}
use Rattle.tsc.specs.Selector.{and_words, sum_words}
use Rattle.words.proofs.Masks.{spread_is}
use Rattle.words.proofs.Words.{words_from, words-past, words_next}

-- numbers of w bits under a mask of ones
and_ones : (w x : ℕ) → x < 2 ^ w → bit_and x (2 ^ w - 1) ≡ x
and_ones w x l = and_mask x w ∙ mod-eq_of_lt l

or_ones : (w x : ℕ) → x < 2 ^ w → bit_or x (2 ^ w - 1) ≡ 2 ^ w - 1
or_ones w x l = omega (arith, or_add_and x (2 ^ w - 1), and_ones w x l)

-- A loop that has come down to k, and goes on to word k - 1: a is its mask, of w bits, zeros for one of the first m words and ones for an absent one.
module _ (w m : ℕ) (ws : List ℕ) (few : m ≤ length ws) (k : ℕ) (pos : 0 < k) (fits : get_or ws (k - 1) 0 < 2 ^ w) (a : ℕ) (mask : a ≡ cond (ltb (k - 1) m) 0 (2 ^ w - 1)) where
  -- what holds of the word if it is there, and if it is absent, holds
  next : (P : List ℕ → ℕ → List ℕ → Type 0) → ((xs : List ℕ) → P (get_or ws (k - 1) 0 ∷ xs) 0 xs) → P [] (2 ^ w - 1) [] → P (words_from (k - 1) m ws) a (words_from k m ws)
  next P there absent = rw mask (go (dec_lt (k - 1) m))
    where
      go : Dec (k - 1 < m) → P (words_from (k - 1) m ws) (cond (ltb (k - 1) m) 0 (2 ^ w - 1)) (words_from k m ws)
      go (yes l) = simp (lt-ltb (k - 1) m l) (rw (words_next k m ws pos (omega arith) few) (there (words_from k m ws)))
      go (no g) = simp (le-ltb (k - 1) m (omega arith)) (rw (words-past (k - 1) m ws (omega arith) few, words-past k m ws (omega arith) few) absent)

  pub and_next : (n : ℕ) → n ≤ w → bit_and (bit_or (get_or ws (k - 1) 0) a) (and_words n (words_from k m ws)) ≡ and_words n (words_from (k - 1) m ws)
  unfolding and_words
  and_next n narrow =
      next (λ now a before. bit_and (bit_or (get_or ws (k - 1) 0) a) (and_words n before) ≡ and_words n now)
      (λ xs. ap (λ (x : ℕ). bit_and x (and_words n xs)) (or_zero_r (get_or ws (k - 1) 0)))
      (ap (λ (x : ℕ). bit_and x (2 ^ n - 1)) (or_ones w (get_or ws (k - 1) 0) fits) ∙ and_comm (2 ^ w - 1) (2 ^ n - 1) ∙ and_ones w (2 ^ n - 1) (omega (arith, ones_lt n, pow_mono {i = n} {j = w} narrow)))

  pub sum_next : (bit_and (get_or ws (k - 1) 0) ((2 ^ w - 1) - a) + sum_words (words_from k m ws) % 2 ^ w) % 2 ^ w ≡ sum_words (words_from (k - 1) m ws) % 2 ^ w
  unfolding sum_words
  sum_next =
      next (λ now a before. (bit_and (get_or ws (k - 1) 0) ((2 ^ w - 1) - a) + sum_words before % 2 ^ w) % 2 ^ w ≡ sum_words now % 2 ^ w)
      (λ xs. ap (λ (x : ℕ). (x + sum_words xs % 2 ^ w) % 2 ^ w) (ap (bit_and (get_or ws (k - 1) 0)) (sub-zero (2 ^ w - 1)) ∙ and_ones w (get_or ws (k - 1) 0) fits) ∙ add-mod-mod (get_or ws (k - 1) 0) (sum_words xs) (2 ^ w))
      (ap (λ (x : ℕ). (x + 0 % 2 ^ w) % 2 ^ w) (ap (bit_and (get_or ws (k - 1) 0)) (sub_self (2 ^ w - 1)) ∙ and_zero_r (get_or ws (k - 1) 0)) ∙ add-mod-mod 0 0 (2 ^ w))

-- ---- the masks

-- v is the mask of word k
abbrev pub AbsentAt : ℕ → ℕ → ℕ → Type 0
AbsentAt m k v = v ≡ cond (ltb k m) 0 (2 ^ widest_width - 1)

-- word k's mask: the complement of bit k of 2^m - 1, spread
pub absent_mask : (w m k r : ℕ) → r < 2 ^ w → ((i : ℕ) → i < w → bit i r ≡ bit k (2 ^ m - 1)) → (2 ^ w - 1) - r ≡ cond (ltb k m) 0 (2 ^ w - 1)
absent_mask w m k r l h = go (dec_lt k m)
  where
    spread : (b : ℕ) → b < 2 → bit k (2 ^ m - 1) ≡ b → r ≡ b * (2 ^ w - 1)
    spread b lb e = spread_is w b r lb l (λ i li. h i li ∙ e)

    go : Dec (k < m) → (2 ^ w - 1) - r ≡ cond (ltb k m) 0 (2 ^ w - 1)
    go (yes lk) = simp (lt-ltb k m lk) (omega (arith, spread 1 (omega arith) (bit_ones m k lk)))
    go (no g) = simp (le-ltb k m (omega arith)) (omega (arith, spread 0 (omega arith) (bit_past m k (2 ^ m - 1) (ones_lt m) (omega arith))))

-- ---- the term 2s

-- the sum of w bits doubled, under a mask of n bits or of none
pub doubled-sum : (w n s : ℕ) (b : Bool) → n ≤ w → bit_and ((s % 2 ^ w + s % 2 ^ w) % 2 ^ w) (cond b (2 ^ n - 1) 0) ≡ cond b (2 * (s % 2 ^ n) % 2 ^ n) 0
doubled-sum w n s true l =
    let x = s % 2 ^ w in
    and_mask ((x + x) % 2 ^ w) n ∙ mod_pow_mod w n (x + x) l ∙ add-mod x x (2 ^ n) ∙ ap (λ (y : ℕ). (y + y) % 2 ^ n) (mod_pow_mod w n s l)
    ∙ ap (λ (y : ℕ). y % 2 ^ n) (sym (two-mul (s % 2 ^ n)))
doubled-sum w n s false l = and_zero_r ((s % 2 ^ w + s % 2 ^ w) % 2 ^ w)
