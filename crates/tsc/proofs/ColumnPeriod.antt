-- THE COLUMNS' PERIODS. Where the premises of coverage hold, the least period of column i, from any state, is 2^(m (i + 1)) steps. Half of that on, the columns
-- below it are as they were, and the table has moved it 2^(m - 1) times. General in m and n.
--   half-moves                  half of the table's cycle leads elsewhere
--   column-half, lower-half     half of the period on
--   column-period               the least period
--   opposite-top, -lower, -by   half the orbit on only the top column has moved: column by column, and the state by its columns
--   half-orbit                  the opposite of a state as it can be computed
use mathlib.Core.Path.{◌≡◌, refl, sym, ap, ap₂, ◌∙◌, subst}
use mathlib.Core.Bool.{cond}
use mathlib.Core.List.{List}
use Prim.Native.Nat.{ℕ, suc, ◌+◌, ◌-◌, ◌*◌, ◌/◌, ◌%◌, ◌^◌, ◌<◌}
use native.Mathlib.Nat.{zero-add, add_comm, pow-succ', le_refl}
use native.Mathlib.Decide.{ℕ_discrete}
use native.Mathlib.Omega.{arith}
use borrow.Author.Tests.{eq-eqb, ne_eqb}
use lib.Arith.{digits_div, digits_mod}
use lib.Dec.{eqb}
use lib.ListN.{length}
use lib.Pow.{pow_pos}
use Rattle.cycle.specs.Notation.{iterate}
use Rattle.cycle.specs.Cycle.{SingleCycle}
use Rattle.cycle.specs.Period.{Period, LeastPeriod}
use Rattle.cycle.proofs.Digits.{pow_mul}
use Rattle.cycle.proofs.Iterate.{iterate_add, iterate-below}
use Rattle.cycle.proofs.Cycle.{cycle_from, visits_once}
use Rattle.cycle.proofs.Period.{period-half}
use Rattle.cycle.proofs.Skew.{skew_half}
use Rattle.tsc.specs.declared.Card.{Card}
use Rattle.tsc.specs.Columns.{column, from_columns}
use Rattle.tsc.specs.Step.{entry, step, orbit}
use Rattle.tsc.specs.Coverage.{IsState, states, WellFormed, FullPeriod}
use Rattle.tsc.specs.Opposite.{opposite}
use Rattle.tsc.proofs.Columns.{column-from_columns, from_columns_in_range, columns_ext}
use Rattle.tsc.proofs.Number.{number, columns, number_lt, number_div, number_mod, number_suc, number-columns}
use Rattle.tsc.proofs.Step.{orbit_in_range, power_below, step_number}
use Rattle.tsc.proofs.Coverage.{size, size_pos, step_number_below, orbit-low, half-size, powers, powers_odd, cycles}

module _ (card : Card) (wf : WellFormed card) (ok : FullPeriod card) where
  abbrev m : ℕ
  m = card.words

  abbrev n : ℕ
  n = card.width

  -- half of the table's cycle
  abbrev half : ℕ
  half = 2 ^ (m - 1)

  table_half : SingleCycle (half * 2) (entry card) 0
  table_half = subst (λ (a : ℕ). SingleCycle a (entry card) 0) (half-size card wf) ok.cycle

  pub half_moves : (y : ℕ) → y < 2 ^ m → iterate (entry card) half y ≡ y → ⊥
  unfolding iterate
  half_moves y l e =
      let pos = pow_pos (m - 1) in
      let c = cycle_from (2 ^ m) (entry card) 0 (pow_pos m) ok.cycle y l in
      let z : half ≡ 0 = visits_once (2 ^ m) (entry card) y (pow_pos m) c half 0 (omega (arith, half-size card wf)) (pow_pos m) e in
      absurd (omega arith)

  -- the columns up to i are back after 2^m rounds of those below i, and half of that is 2^(m - 1) rounds
  half_round : (i : ℕ) → 2 ^ (m * suc i) / 2 ≡ half * size card i
  half_round i =
      let e : 2 ^ (m * suc i) ≡ 2 ^ m * size card i = pow_mul 2 m (suc i) ∙ pow-succ' (2 ^ m) i in
      omega (arith, ap (λ (a : ℕ). a * size card i) (half-size card wf))

  module _ (xs : List ℕ) (sx : IsState card xs) where
    -- ---- half of the period on

    module _ (i : ℕ) (l : i < n) where
      abbrev there : List ℕ
      there = orbit card xs (2 ^ (m * suc i) / 2)

      sized : length there ≡ m
      sized = (orbit_in_range card xs sx (2 ^ (m * suc i) / 2)).0

      half-number : number m (suc i) there ≡ iterate (entry card) half (column i xs) * size card i + number m i xs
      unfolding step_number powers
      half-number =
          orbit-low card wf xs sx (suc i) l (2 ^ (m * suc i) / 2)
          ∙ ap₂ (λ (a b : ℕ). iterate (step_number card (suc i)) a b) (half_round i) (number_suc m i xs)
          ∙ skew_half (size card i) (step_number card i) (entry card) (power_below card i) (size_pos card i) (step_number_below card wf i)
          half (cycles card wf ok i) table_half (powers_odd card wf ok i) (column i xs) (number m i xs)
          (subst (λ (a : ℕ). column i xs < a) (half-size card wf) (columns m xs sx.0 n i l)) (number_lt m xs sx.0 i)

      column-half : column i there ≡ iterate (entry card) half (column i xs)
      column-half =
          sym (number_div m there sized i) ∙ ap (λ (a : ℕ). a / size card i) half-number
          ∙ digits_div (iterate (entry card) half (column i xs)) (number_lt m xs sx.0 i)

      lower-half : (j : ℕ) → j < i → column j there ≡ column j xs
      lower-half =
          number-columns m i there xs sized sx.0
          (sym (number_mod m there sized i) ∙ ap (λ (a : ℕ). a % size card i) half-number
          ∙ digits_mod (iterate (entry card) half (column i xs)) (number_lt m xs sx.0 i))

    -- ---- the period

    column-returns : (i : ℕ) → i < n → column i (orbit card xs (2 ^ (m * suc i))) ≡ column i xs
    column-returns i l =
        let N : ℕ = 2 ^ (m * suc i) in
        number-columns m (suc i) (orbit card xs N) xs (orbit_in_range card xs sx N).0 sx.0
        (orbit-low card wf xs sx (suc i) l N ∙ ap (λ (a : ℕ). iterate (step_number card (suc i)) a (number m (suc i) xs)) (pow_mul 2 m (suc i))
        ∙ (cycle_from (size card (suc i)) (step_number card (suc i)) 0 (size_pos card (suc i)) (cycles card wf ok (suc i))
        (number m (suc i) xs) (number_lt m xs sx.0 (suc i))).returns)
        i (le_refl (suc i))

  module _ (xs : List ℕ) (sx : IsState card xs) (i : ℕ) (l : i < n) where
    -- column i of state number t of the orbit
    at : ℕ → ℕ
    at t = column i (orbit card xs t)

    column-repeats : Period at (2 ^ (m * suc i))
    unfolding at
    column-repeats t =
        let N : ℕ = 2 ^ (m * suc i) in
        ap (column i) (ap (orbit card xs) (add_comm t N) ∙ iterate_add (step card) N t xs)
        ∙ column-returns (orbit card xs t) (orbit_in_range card xs sx t) i l

    -- half of it is no period, and so no shorter one is
    no_half : Period at (2 ^ (m * suc i) / 2) → ⊥
    unfolding at iterate
    no_half p =
        half_moves (column i xs) (columns m xs sx.0 n i l)
        (sym (column-half xs sx i l) ∙ ap at (sym (zero-add (2 ^ (m * suc i) / 2))) ∙ p 0)

    pub column-period : LeastPeriod (λ t. column i (orbit card xs t)) (2 ^ (m * suc i))
    unfolding at
    column-period = record { positive = pow_pos (m * suc i); period = column-repeats; least = λ d pos lt p. no_half (period-half at (m * suc i) d column-repeats pos lt p) }

  -- ---- half the orbit on

  module _ (xs : List ℕ) (sx : IsState card xs) (top : ℕ) (e : suc top ≡ n) where
    -- it is half of the top column's period
    opposite_is : orbit card xs (2 ^ (m * suc top) / 2) ≡ opposite card xs
    opposite_is = ap (λ (a : ℕ). orbit card xs (2 ^ (m * a) / 2)) e

    pub opposite-top : column top (opposite card xs) ≡ iterate (entry card) half (column top xs)
    opposite-top = ap (column top) (sym opposite_is) ∙ column-half xs sx top (omega arith)

    pub opposite-lower : (i : ℕ) → i < top → column i (opposite card xs) ≡ column i xs
    opposite-lower i l = ap (column i) (sym opposite_is) ∙ lower-half xs sx top (omega arith) i l

-- how often the table moves column i on half the orbit, but for whole rounds of it
abbrev pub moves : Card → ℕ → ℕ
moves card i = cond (eqb (suc i) card.width) (2 ^ (card.words - 1)) 0

-- the opposite of a state, to compute with
unfoldable pub top_moved : Card → List ℕ → List ℕ
top_moved card xs = from_columns card.words card.width (λ i. iterate (entry card) (moves card i) (column i xs))

module _ (card : Card) (wf : WellFormed card) (ok : FullPeriod card) (xs : List ℕ) (sx : IsState card xs) where
  column-opposite : (i : ℕ) → i < card.width → column i (opposite card xs) ≡ iterate (entry card) (moves card i) (column i xs)
  unfolding iterate
  column-opposite i l = go (ℕ_discrete (suc i) card.width)
    where
      go : Dec (suc i ≡ card.width) → column i (opposite card xs) ≡ iterate (entry card) (moves card i) (column i xs)
      go (yes e) = opposite-top card wf ok xs sx i e ∙ simp (eq-eqb (suc i) card.width e)
      go (no ne) =
          opposite-lower card wf ok xs sx (card.width - 1) (omega (arith, wf.width)) i (omega (arith, ne)) ∙ simp (ne_eqb (suc i) card.width ne)

  pub opposite_by : (c : ℕ → ℕ) → ((i : ℕ) → i < card.width → iterate (entry card) (moves card i) (column i xs) ≡ c i)
      → opposite card xs ≡ from_columns card.words card.width c
  opposite_by c h =
      columns_ext card.words card.width (opposite card xs) (from_columns card.words card.width c) (orbit_in_range card xs sx (states card / 2))
      (from_columns_in_range card.words card.width c)
      (λ i l. column-opposite i l ∙ h i l ∙ sym (column-from_columns card.words card.width c i l (subst (λ (a : ℕ). a < 2 ^ card.words) (h i l) (below i l))))
    where
      below : (i : ℕ) → i < card.width → iterate (entry card) (moves card i) (column i xs) < 2 ^ card.words
      below i l =
          iterate-below (2 ^ card.words) (entry card) wf.entries (moves card i) (column i xs) (columns card.words xs sx.0 card.width i l)

  pub half-orbit : opposite card xs ≡ top_moved card xs
  unfolding top_moved
  half-orbit = opposite_by (λ i. iterate (entry card) (moves card i) (column i xs)) (λ i l. refl)
