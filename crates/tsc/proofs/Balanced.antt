-- WORDS AND RANKS ARE BALANCED. However the states are listed, each number of n bits is the word of equally many of them; where the premises of coverage
-- hold, the same is true of the words drawn from them, and so of the fair ranks. General in m ≥ 2 and n ≥ 1, for both filters.
--   word-balanced     for fixed other words the word is a bijection of x1, so each number is the word of 2^((m - 1) n) states
--   rank-balanced     each rank below k is drawn from L / k times as many states
use mathlib.Core.Path.{◌≡◌, sym, ap, ◌∙◌}
use mathlib.Core.Bool.{Bool, true, false, cond}
use mathlib.Core.List.{List, [], ◌∷◌}
use Prim.Native.Nat.{ℕ, zero, suc, ◌+◌, ◌-◌, ◌*◌, ◌/◌, ◌%◌, ◌^◌, ◌≤◌, ◌<◌}
use native.Mathlib.Nat.{add_comm, mul-one, mul_comm, suc-mul, mod-lt}
use native.Mathlib.Omega.{arith}
use lib.Dec.{eqb}
use lib.ListN.{length, get_or}
use lib.Pow.{pow_pos, pow-add}
use Rattle.cycle.specs.Notation.{bit, count}
use Rattle.cycle.specs.Fair.{largest_multiple, gives_rank}
use Rattle.cycle.proofs.Bits.{bits_ext}
use Rattle.cycle.proofs.Pigeonhole.{count_equal}
use Rattle.cycle.proofs.Sum.{sum_ext}
use Rattle.cycle.proofs.Remainder.{add_mod_injective, count_spread, ranks_fair}
use Rattle.tsc.specs.declared.Card.{Card}
use Rattle.tsc.specs.Constants.{filter_words}
use Rattle.tsc.specs.Columns.{InRange}
use Rattle.tsc.specs.Word.{◌⊞◌, ◌⋘◌, filter1, filter2, further, filtered, word}
use Rattle.tsc.specs.Step.{step}
use Rattle.tsc.specs.Coverage.{IsState, states, step_back, ListsStates, WellFormed, FullPeriod}
use Rattle.tsc.proofs.Number.{number, number-below, number_injective, state_of, state_of_in_range, state_of_injective, numbers_list, count-listed}
use Rattle.tsc.proofs.Word.{rotate_lt, rotate_bit, filtered_lt, word_lt}
use Rattle.tsc.proofs.StepBack.{step_back_in_range, step_of_back_lem, back_only}

-- ---- a filter, for fixed other words, is injective in x1

module _ (n : ℕ) where
  plus_lt : (x y : ℕ) → ◌⊞◌ n x y < 2 ^ n
  unfolding ◌⊞◌
  plus_lt x y = mod-lt (x + y) (pow_pos n)

  plus_injective : (c x y : ℕ) → x < 2 ^ n → y < 2 ^ n → ◌⊞◌ n x c ≡ ◌⊞◌ n y c → x ≡ y
  unfolding ◌⊞◌
  plus_injective c x y lx ly e = add_mod_injective (2 ^ n) c x y lx ly (rw (add_comm c x, add_comm c y) e)

  module _ (pos : 0 < n) where
    -- a rotation moves each bit to a place of its own
    rotate_injective : (k x y : ℕ) → x < 2 ^ n → y < 2 ^ n → ◌⋘◌ n x k ≡ ◌⋘◌ n y k → x ≡ y
    rotate_injective k x y lx ly e =
        bits_ext n x y lx ly (λ i li. sym (rotate_bit n x k pos lx i li) ∙ ap (bit ((i + k) % n)) e ∙ rotate_bit n y k pos ly i li)

    -- x1 added to a first term, turned, and added to the rest
    turned_injective : (c k d x y : ℕ) → x < 2 ^ n → y < 2 ^ n → ◌⊞◌ n (◌⋘◌ n (◌⊞◌ n c x) k) d ≡ ◌⊞◌ n (◌⋘◌ n (◌⊞◌ n c y) k) d → x ≡ y
    unfolding ◌⊞◌
    turned_injective c k d x y lx ly e =
        add_mod_injective (2 ^ n) c x y lx ly
        (rotate_injective k (◌⊞◌ n c x) (◌⊞◌ n c y) (plus_lt c x) (plus_lt c y)
        (plus_injective d _ _ (rotate_lt n (◌⊞◌ n c x) k pos (plus_lt c x)) (rotate_lt n (◌⊞◌ n c y) k pos (plus_lt c y)) e))

module _ (card : Card) (two : 2 ≤ card.words) (pos : 0 < card.width) where
  abbrev m : ℕ
  m = card.words

  abbrev n : ℕ
  n = card.width

  word_injective : (x y z : ℕ) (xs : List ℕ) → y < 2 ^ n → z < 2 ^ n → word card (x ∷ y ∷ xs) ≡ word card (x ∷ z ∷ xs) → y ≡ z
  unfolding word filter1 filter2 further
  word_injective x y z xs ly lz e =
      go (eqb card.filter 2)
      (plus_injective n (rest y) (filtered card (words y)) (filtered card (words z)) (filtered_lt card (words y)) (filtered_lt card (words z))
      (e ∙ ap (◌⊞◌ n (filtered card (words z))) (sym rest_same)))
    where
      words : ℕ → ℕ → ℕ
      words y = λ k. get_or (x ∷ y ∷ xs) k 0

      -- the further words, x1 not among them
      rest : ℕ → ℕ
      rest y = further n (words y) (length (x ∷ y ∷ xs) - filter_words)

      past : (j : ℕ) → filter_words + j ≡ suc (suc (2 + j))
      past j = omega arith

      rest_same : rest y ≡ rest z
      rest_same =
          sum_ext (length (x ∷ y ∷ xs) - filter_words) _ _ (λ j l.
          ap (λ (v : ℕ). ◌⋘◌ n v (filter_words + j)) (ap (words y) (past j) ∙ ap (words z) (sym (past j))))

      go : (b : Bool) → cond b (filter2 n (words y)) (filter1 n (words y)) ≡ cond b (filter2 n (words z)) (filter1 n (words z)) → y ≡ z
      go false e = turned_injective n pos _ _ _ y z ly lz e
      go true e = turned_injective n pos _ _ _ y z ly lz (plus_injective n _ _ _ (plus_lt n _ _) (plus_lt n _ _) e)

  -- ---- so the word and the other words determine the state

  -- the words but x1
  others : List ℕ → List ℕ
  others [] = []
  others (x ∷ []) = []
  others (x ∷ y ∷ xs) = x ∷ xs

  others_in_range : (xs : List ℕ) → IsState card xs → InRange (m - 1) n (others xs)
  unfolding others
  others_in_range [] sx = absurd (omega arith)
  others_in_range (x ∷ []) sx = absurd (omega arith)
  others_in_range (x ∷ y ∷ xs) sx = (omega arith, at)
    where
      at : (k : ℕ) → k < m - 1 → get_or (x ∷ xs) k 0 < 2 ^ n
      at zero l = sx.1 0 (omega arith)
      at (suc k) l = sx.1 (suc (suc k)) (omega arith)

  state_determined : (xs ys : List ℕ) → IsState card xs → IsState card ys → word card xs ≡ word card ys → others xs ≡ others ys → xs ≡ ys
  unfolding others
  state_determined [] ys sx sy e o = absurd (omega arith)
  state_determined (x ∷ []) ys sx sy e o = absurd (omega arith)
  state_determined (x ∷ y ∷ xs) [] sx sy e o = absurd (omega arith)
  state_determined (x ∷ y ∷ xs) (u ∷ []) sx sy e o = absurd (omega arith)
  state_determined (x ∷ y ∷ xs) (u ∷ v ∷ ys) sx sy e o =
      let same : (u ∷ v ∷ ys) ≡ (x ∷ v ∷ xs) = cc in
      let second : y ≡ v = word_injective x y v xs (sx.1 1 (omega arith)) (sy.1 1 (omega arith)) (e ∙ ap (word card) same) in
      cc

  -- ---- and a test of the word holds of 2^((m - 1) n) states for each number of n bits that it holds of

  abbrev share : ℕ
  share = 2 ^ ((m - 1) * n)

  states_shared : states card ≡ share * 2 ^ n
  states_shared =
      let split : m * n ≡ (m - 1) * n + n = ap (λ (a : ℕ). a * n) (omega arith) ∙ suc-mul (m - 1) n in
      ap (λ (a : ℕ). 2 ^ a) split ∙ pow-add 2 ((m - 1) * n) n

  numbers_spread : (p : ℕ → Bool) → count (states card) (λ z. p (word card (state_of m n z))) ≡ share * count (2 ^ n) p
  numbers_spread p =
      rw states_shared
      (count_spread share (2 ^ n) (λ z. word card (state z)) (λ z. number (m - 1) n (others (state z)))
      (λ z l. word_lt card (state z)) (λ z l. number-below (m - 1) n (others (state z)) (rest z)) (λ y z ly lz e o.
      state_of_injective m n y z (rw states_shared ly) (rw states_shared lz)
      (state_determined (state y) (state z) (state_of_in_range m n y) (state_of_in_range m n z) e
      (number_injective (m - 1) n (others (state y)) (others (state z)) (rest y) (rest z) o))) p)
    where
      state : ℕ → List ℕ
      state z = state_of m n z

      rest : (z : ℕ) → InRange (m - 1) n (others (state z))
      rest z = others_in_range (state z) (state_of_in_range m n z)

  module _ (s : ℕ → List ℕ) (lists : ListsStates card s) where
    words_spread : (p : ℕ → Bool) → count (states card) (λ t. p (word card (s t))) ≡ 2 ^ ((card.words - 1) * card.width) * count (2 ^ card.width) p
    words_spread p = count-listed card s lists (λ xs. p (word card xs)) ∙ numbers_spread p

    pub word_balanced : (v : ℕ) → v < 2 ^ card.width → count (states card) (λ t. eqb (word card (s t)) v) ≡ 2 ^ ((card.words - 1) * card.width)
    word_balanced v l = words_spread (λ w. eqb w v) ∙ rw (count_equal (2 ^ n) v l, mul-one)

-- ---- draws

module _ (card : Card) (wf : WellFormed card) (two : 2 ≤ card.words) (ok : FullPeriod card) where
  wide : 0 < card.width
  wide = omega (arith, wf.width)

  abbrev next : ℕ → List ℕ
  next z = step card (state_of card.words card.width z)

  -- the steps of the states are the states
  steps_list : ListsStates card next
  steps_list xs sx =
      let r = numbers_list card (step_back card xs) (step_back_in_range card xs sx) in (
        r.0,
        r.1,
        ap (step card) r.2 ∙ step_of_back_lem card wf ok xs sx,
        λ u l e. r.3 u l (back_only card wf ok _ xs (state_of_in_range card.words card.width u) sx e),
      )

  module _ (s : ℕ → List ℕ) (lists : ListsStates card s) where
    draws_spread : (p : ℕ → Bool)
        → count (states card) (λ t. p (word card (step card (s t)))) ≡ 2 ^ ((card.words - 1) * card.width) * count (2 ^ card.width) p
    draws_spread p =
        count-listed card s lists (λ xs. p (word card (step card xs))) ∙ words_spread card two wide next steps_list p

    pub rank_balanced : (k r : ℕ) → r < k
        → count (states card) (λ t. gives_rank (2 ^ card.width) k r (word card (step card (s t))))
        ≡ largest_multiple (2 ^ card.width) k / k * 2 ^ ((card.words - 1) * card.width)
    rank_balanced k r l =
        draws_spread (gives_rank (2 ^ card.width) k r) ∙ rw (ranks_fair (2 ^ card.width) k (omega arith) r l) (mul_comm _ _)
