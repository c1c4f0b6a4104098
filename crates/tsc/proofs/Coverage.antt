-- THE COVERAGE THEOREM. For every card and every start in range, the orbit brings up every state once and then returns exactly where the table
-- is a single cycle, the constant and the odd power are odd and the even power is even. General in m and n.
--   coverage          both directions
--   covers-period     from coverage to the premises: the low columns are single cycles too, and two of them tell the parities
--   period-covers     from the premises to coverage: document 002, Theorem 2, by induction on the columns
use mathlib.Core.Path.{◌≡◌, refl, sym, ap, ap₂, ◌∙◌, subst}
use mathlib.Core.Logic.{◌↔◌, ◌⊎◌, inl, inr}
use mathlib.Core.List.{List}
use Prim.Native.Nat.{ℕ, zero, suc, ◌+◌, ◌-◌, ◌*◌, ◌%◌, ◌^◌, ◌≤◌, ◌<◌}
use native.Mathlib.Nat.{zero-add, suc-add, add-zero, zero-mul, mul-zero, mul_comm, add_comm, le_refl, mod-lt, pow-zero, pow-suc, pow-succ', one-le-pow, mod-eq_of_lt, mul-one, one-mul, mul-pos, lt_of_lt_of_le, pow-le-pow_right, le-suc, mod-one, div-one, suc-mul, eq-zero-or-pos, mul-mod_left, add-mod}
use native.Mathlib.Decide.{dec_lt}
use native.Mathlib.Omega.{arith}
use lib.Arith.{lt-one}
use lib.Dec.{eqb}
use lib.Pow.{pow_pos, pow_mono}
use Rattle.cycle.specs.Notation.{sum, iterate}
use Rattle.cycle.specs.Cycle.{SingleCycle}
use Rattle.cycle.proofs.Parity.{bit_cases, bits_cases, odd_mul, even_mul, add_parity}
use Rattle.cycle.proofs.Digits.{pow_mul}
use Rattle.cycle.proofs.Iterate.{MapsBelow, iterate_add}
use Rattle.cycle.proofs.Cycle.{Reaches, cycle_of_return, cycle_of_reaches, cycle-reaches, visits_once, cycle_from, sum_around}
use Rattle.cycle.proofs.Skew.{skew, round_power, skew_cycle, skew_even, skew_low, skew_below}
use Rattle.tsc.specs.declared.Card.{Card}
use Rattle.tsc.specs.Step.{entry, power, orbit}
use Rattle.tsc.specs.Coverage.{IsState, states, Covers, WellFormed, FullPeriod}
use Rattle.tsc.proofs.Number.{number, number-below, number_injective, state_of, state_of_in_range, number_of}
use Rattle.tsc.proofs.Parity.{selector_bit, selector_bit_lt, selector_bit_parity}
use Rattle.tsc.proofs.Step.{orbit_in_range, power_below, step_number, number_step}

-- ---- sizes

-- the count of numbers of i columns
abbrev pub size : Card → ℕ → ℕ
size card i = (2 ^ card.words) ^ i

pub size_pos : (card : Card) (i : ℕ) → 0 < size card i
size_pos card i = one-le-pow i (2 ^ card.words) (pow_pos card.words)

-- ---- the powers of the table that a selector picks, added up

power_at : (card : Card) (s : ℕ) → s < 2 → power card s + card.even_power * s ≡ card.odd_power * s + card.even_power
power_at card s l =
    bit_cases (λ s. power card s + card.even_power * s ≡ card.odd_power * s + card.even_power) (omega arith) (omega arith) s l

power-sum : (card : Card) (n : ℕ) (s : ℕ → ℕ) → ((i : ℕ) → s i < 2)
    → sum n (λ i. power card (s i)) + card.even_power * sum n s ≡ card.odd_power * sum n s + n * card.even_power
unfolding sum
power-sum card zero s h = omega arith
power-sum card (suc n) s h = omega (arith, power-sum card n s h, power_at card (s n) (h n))

-- P is the power in all, k of the z numbers have their selector bit set: its parity
power-even : (P k a b z : ℕ) → P + b * k ≡ a * k + z * b → k % 2 ≡ 0 → z % 2 ≡ 0 → P % 2 ≡ 0
power-even P k a b z e hk hz =
    let f = even_mul k b hk in
    let g = even_mul k a hk in
    let h = even_mul z b hz in
    omega (arith, mul_comm b k, mul_comm a k)

power-odd : (P k a b z : ℕ) → P + b * k ≡ a * k + z * b → k % 2 ≡ 1 → (P + b) % 2 ≡ (a + z * b) % 2
power-odd P k a b z e hk =
    add_parity P b (b * k) (sym (ap (λ (w : ℕ). w % 2) (mul_comm b k) ∙ odd_mul k b hk)) ∙ ap (λ (w : ℕ). w % 2) (e ∙ add_comm (a * k) (z * b))
    ∙ add_parity (z * b) (a * k) a (ap (λ (w : ℕ). w % 2) (mul_comm a k) ∙ odd_mul k a hk) ∙ ap (λ (w : ℕ). w % 2) (add_comm (z * b) a)

-- with column 0 the power a times an odd number, and with column 1 an even multiple of b more
odd-left : (P a b : ℕ) → (P + b) % 2 ≡ (a + b) % 2 → P % 2 ≡ 1 → a % 2 ≡ 1
odd-left P a b e h =
    bits_cases (λ y w. (1 + w) % 2 ≡ (y + w) % 2 → y ≡ 1) (omega arith) (omega arith) (omega arith) (omega arith)
    (a % 2) (b % 2) (mod-lt a (omega arith)) (mod-lt b (omega arith))
    (ap (λ (x : ℕ). (x + b % 2) % 2) (sym h) ∙ sym (add-mod P b 2) ∙ e ∙ add-mod a b 2)

even_right : (P a b z : ℕ) → (P + b) % 2 ≡ (a + z) % 2 → P % 2 ≡ 1 → a % 2 ≡ 1 → z % 2 ≡ 0 → b % 2 ≡ 0
even_right P a b z e hp ha hz =
    bit_cases (λ w. (1 + w) % 2 ≡ 1 → w ≡ 0) (omega arith) (omega arith) (b % 2) (mod-lt b (omega arith))
    (ap (λ (x : ℕ). (x + b % 2) % 2) (sym hp) ∙ sym (add-mod P b 2) ∙ e ∙ add-mod a z 2 ∙ ap₂ (λ (x y : ℕ). (x + y) % 2) ha hz)

module _ (card : Card) (wf : WellFormed card) where
  abbrev m : ℕ
  m = card.words

  abbrev n : ℕ
  n = card.width

  pub step_number_below : (i : ℕ) → MapsBelow (size card i) (step_number card i)
  unfolding step_number
  step_number_below zero z l = rw pow-zero (le_refl 1)
  step_number_below (suc i) z l =
      subst (λ (a : ℕ). step_number card (suc i) z < a) (sym (pow-succ' (2 ^ m) i))
      (skew_below (size card i) (step_number card i) (entry card) (power_below card i) (size_pos card i) (step_number_below i) (2 ^ m) wf.entries z
      (subst (λ (a : ℕ). z < a) (pow-succ' (2 ^ m) i) l))

  -- ---- an orbit of states is an orbit of their numbers, and of those of the i low columns

  module _ (start : List ℕ) (st : IsState card start) where
    pub orbit-low : (i : ℕ) → i ≤ n → (t : ℕ) → number m i (orbit card start t) ≡ iterate (step_number card i) t (number m i start)
    unfolding iterate
    orbit-low i l zero = refl
    orbit-low i l (suc t) =
        number_step card wf (orbit card start t) (orbit_in_range card start st t).0 i l ∙ ap (step_number card i) (orbit-low i l t)

    orbit-number : (t : ℕ) → number m n (orbit card start t) ≡ iterate (step_number card n) t (number m n start)
    orbit-number = orbit-low n (le_refl n)

    cycle_covers : SingleCycle (states card) (step_number card n) (number m n start) → Covers card start
    unfolding iterate
    cycle_covers c =
        record {
          once = λ xs sx.
              let r = c.reaches (number m n xs) (number-below m n xs sx) in (
                r.0,
                r.1,
                number_injective m n (orbit card start r.0) xs (orbit_in_range card start st r.0) sx (orbit-number r.0 ∙ r.2),
                λ u l e.
                    visits_once (states card) (step_number card n) (number m n start) (pow_pos (m * n)) c u r.0 l r.1
                    (sym (orbit-number u) ∙ ap (number m n) e ∙ sym r.2),
              );
          returns =
              number_injective m n (orbit card start (states card)) start (orbit_in_range card start st (states card)) st
              (orbit-number (states card) ∙ c.returns);
        }

    covers_cycle : Covers card start → SingleCycle (states card) (step_number card n) (number m n start)
    unfolding iterate
    covers_cycle c =
        cycle_of_return (states card) (step_number card n) (number m n start) (pow_pos (m * n))
        (λ x l.
        let r = c.once (state_of m n x) (state_of_in_range m n x) in
        (r.0, sym (orbit-number r.0) ∙ ap (number m n) r.2 ∙ number_of m n x l))
        (sym (orbit-number (states card)) ∙ ap (number m n) c.returns)

  -- ---- the power of the table that one round of the i low columns comes to

  -- how many numbers of i columns have selector bit i set
  selected : ℕ → ℕ
  selected i = sum (size card i) (selector_bit m (eqb card.sum_term 1) card.constant i)

  unfoldable pub powers : ℕ → ℕ
  powers i = sum (size card i) (power_below card i)

  powers_are : (i : ℕ) → powers i + card.even_power * selected i ≡ card.odd_power * selected i + size card i * card.even_power
  unfolding powers selected power_below
  powers_are i =
      power-sum card (size card i) (selector_bit m (eqb card.sum_term 1) card.constant i)
      (selector_bit_lt m (eqb card.sum_term 1) card.constant i)

  selected_parity : (i : ℕ) → selected i % 2 ≡ card.constant % 2
  unfolding selected
  selected_parity i = selector_bit_parity m wf.words (eqb card.sum_term 1) card.constant i

  round_powers : (i : ℕ) → SingleCycle (size card i) (step_number card i) 0 → round_power (size card i) (step_number card i) (power_below card i) ≡ powers i
  unfolding round_power powers
  round_powers i c = sum_around (size card i) (step_number card i) 0 (size_pos card i) c (step_number_below i) (size_pos card i) (power_below card i)

  cycle-none : SingleCycle (size card 0) (step_number card 0) 0
  unfolding step_number iterate
  cycle-none = rw pow-zero (record { reaches = λ x l. (0, le_refl 1, sym (lt-one l)); returns = refl })

  -- ---- from the premises to coverage

  module _ (ok : FullPeriod card) where
    pub powers_odd : (i : ℕ) → powers i % 2 ≡ 1
    powers_odd i =
        let c : card.constant % 2 ≡ 1 = ok.constant in
        let o = odd_mul card.odd_power (selected i) ok.odd in
        let e = even_mul card.even_power (selected i) ok.even in
        let f = even_mul card.even_power (size card i) ok.even in
        omega (arith, powers_are i, selected_parity i, mul_comm (size card i) card.even_power)

    pub cycles : (i : ℕ) → SingleCycle (size card i) (step_number card i) 0
    unfolding step_number
    cycles zero = cycle-none
    cycles (suc i) =
        let c = cycles i in
        subst (λ (a : ℕ). SingleCycle a (step_number card (suc i)) 0) (sym (pow-succ' (2 ^ m) i))
        (skew_cycle (size card i) (step_number card i) (entry card) (power_below card i) (size_pos card i) (step_number_below i) m c ok.cycle
        (ap (λ (a : ℕ). a % 2) (round_powers i c) ∙ powers_odd i))

    pub period_covers : (start : List ℕ) → IsState card start → Covers card start
    period_covers start st =
        cycle_covers start st
        (cycle_from (states card) (step_number card n) 0 (pow_pos (m * n))
        (subst (λ (a : ℕ). SingleCycle a (step_number card n) 0) (sym (pow_mul 2 m n)) (cycles n))
        (number m n start) (number-below m n start st))

  -- ---- from coverage to the premises: each part of the low columns is a single cycle

  low-orbit : (i t : ℕ) → iterate (step_number card (suc i)) t 0 % size card i ≡ iterate (step_number card i) t 0
  unfolding iterate step_number
  low-orbit i zero = mod-eq_of_lt (size_pos card i)
  low-orbit i (suc t) =
      skew_low (size card i) (step_number card i) (entry card) (power_below card i) (size_pos card i) (step_number_below i)
      (iterate (step_number card (suc i)) t 0)
      ∙ ap (step_number card i) (low-orbit i t)

  lower : (i : ℕ) → SingleCycle (size card (suc i)) (step_number card (suc i)) 0 → SingleCycle (size card i) (step_number card i) 0
  lower i c =
      cycle_of_reaches (size card i) (step_number card i) 0 (size card (suc i)) (step_number_below i) (size_pos card i)
      (λ x l.
      let r = c.reaches x (lt_of_lt_of_le l (pow-le-pow_right (pow_pos m) (le-suc i))) in
      (r.0, sym (low-orbit i r.0) ∙ ap (λ (a : ℕ). a % size card i) r.2 ∙ mod-eq_of_lt l))
      (size_pos card (suc i))
      (sym (low-orbit i (size card (suc i))) ∙ ap (λ (a : ℕ). a % size card i) c.returns ∙ mod-eq_of_lt (size_pos card i))

  lowest : (d i : ℕ) → SingleCycle (size card (d + i)) (step_number card (d + i)) 0 → SingleCycle (size card i) (step_number card i) 0
  lowest zero i c = subst (λ (a : ℕ). SingleCycle (size card a) (step_number card a) 0) (zero-add i) c
  lowest (suc d) i c = lowest d i (lower (d + i) (subst (λ (a : ℕ). SingleCycle (size card a) (step_number card a) 0) (suc-add d i) c))

  some : 0 < m
  some = omega (arith, wf.words)

  pub half-size : 2 ^ m ≡ 2 ^ (m - 1) * 2
  half-size = let e : m ≡ suc (m - 1) = omega (arith, wf.words) in ap (λ (a : ℕ). 2 ^ a) e ∙ pow-suc 2 (m - 1)

  -- an even power a round does not cover
  powers_must_be_odd : iterate (entry card) (2 ^ m) 0 ≡ 0 → (i : ℕ) → SingleCycle (size card i) (step_number card i) 0
      → SingleCycle (size card (suc i)) (step_number card (suc i)) 0 → powers i % 2 ≡ 1
  unfolding step_number
  powers_must_be_odd g i c d = go (dec_lt 0 (powers i % 2))
    where
      go : Dec (0 < powers i % 2) → powers i % 2 ≡ 1
      go (yes p) = omega arith
      go (no p) =
          absurd
          (skew_even (size card i) (step_number card i) (entry card) (power_below card i) (size_pos card i) (step_number_below i)
          (2 ^ (m - 1)) (pow_pos (m - 1)) c.returns (subst (λ (a : ℕ). iterate (entry card) a 0 ≡ 0) half-size g)
          (subst (λ (a : ℕ). Reaches a (step_number card (suc i)) 0) (pow-succ' (2 ^ m) i ∙ ap (λ (a : ℕ). a * size card i) half-size)
          (cycle-reaches (size card (suc i)) (step_number card (suc i)) 0 (size_pos card (suc i)) d))
          (ap (λ (a : ℕ). a % 2) (round_powers i c) ∙ omega arith))

  -- column 0 moves by one power of the table
  column_0 : (z : ℕ) → step_number card 1 z ≡ iterate (entry card) (power_below card 0 0) z
  unfolding step_number skew
  column_0 z = rw (pow-zero, mod-one, div-one, mul-one, add-zero)

  column_0_orbit : (t : ℕ) → iterate (step_number card 1) t 0 ≡ iterate (entry card) (t * power_below card 0 0) 0
  unfolding iterate
  column_0_orbit zero = rw zero-mul
  column_0_orbit (suc t) =
      column_0 (iterate (step_number card 1) t 0) ∙ ap (iterate (entry card) (power_below card 0 0)) (column_0_orbit t)
      ∙ sym (iterate_add (entry card) (power_below card 0 0) (t * power_below card 0 0) 0)
      ∙ ap (λ (a : ℕ). iterate (entry card) a 0) (add_comm (power_below card 0 0) (t * power_below card 0 0) ∙ sym (suc-mul t (power_below card 0 0)))

  size-one : size card 1 ≡ 2 ^ m
  size-one = pow-succ' (2 ^ m) 0 ∙ ap (λ (a : ℕ). 2 ^ m * a) (pow-zero (2 ^ m)) ∙ mul-one (2 ^ m)

  -- so the table is a single cycle
  module _ (c : SingleCycle (size card 1) (step_number card 1) 0) where
    table_reaches : (x : ℕ) → x < 2 ^ m → (t : ℕ) × (iterate (entry card) (t * power_below card 0 0) 0 ≡ x)
    table_reaches x l =
        let r = c.reaches x (subst (λ (a : ℕ). x < a) (sym size-one) l) in
        (r.0, sym (column_0_orbit r.0) ∙ r.2)

    power_pos : 0 < power_below card 0 0
    unfolding iterate
    power_pos = go (eq-zero-or-pos (power_below card 0 0))
      where
        go : (power_below card 0 0 ≡ 0) ⊎ (0 < power_below card 0 0) → 0 < power_below card 0 0
        go (inr p) = p
        go (inl e) =
            let r = table_reaches 1 (pow_mono {i = 1} some) in
            let z : ◌≡◌ {A = ℕ} 0 1 = ap (λ (a : ℕ). iterate (entry card) a 0) (sym (ap (λ (a : ℕ). r.0 * a) e ∙ mul-zero r.0)) ∙ r.1 in
            absurd (omega arith)

    table_cycle : SingleCycle (2 ^ m) (entry card) 0
    table_cycle =
        cycle_of_reaches (2 ^ m) (entry card) 0 (size card 1 * power_below card 0 0) wf.entries (pow_pos m)
        (λ x l. ((table_reaches x l).0 * power_below card 0 0, (table_reaches x l).1)) (mul-pos (size_pos card 1) power_pos)
        (sym (column_0_orbit (size card 1)) ∙ c.returns)

  -- what the parities of the powers at columns 0 and 1 say of C, a and b
  parities : powers 0 % 2 ≡ 1 → powers 1 % 2 ≡ 1 → (card.constant % 2 ≡ 1) × (card.odd_power % 2 ≡ 1) × (card.even_power % 2 ≡ 0)
  parities p0 p1 = go (dec_lt 0 (card.constant % 2))
    where
      a : ℕ
      a = card.odd_power

      b : ℕ
      b = card.even_power

      even1 : size card 1 % 2 ≡ 0
      even1 = ap (λ (a : ℕ). a % 2) (size-one ∙ half-size) ∙ mul-mod_left (2 ^ (m - 1)) 2

      go : Dec (0 < card.constant % 2) → (card.constant % 2 ≡ 1) × (a % 2 ≡ 1) × (b % 2 ≡ 0)
      go (no q) =
          let z : powers 1 % 2 ≡ 0 = power-even (powers 1) (selected 1) a b (size card 1) (powers_are 1) (selected_parity 1 ∙ omega arith) even1 in
          absurd (omega arith)
      go (yes q) =
          let o : card.constant % 2 ≡ 1 = omega arith in
          let e0 = power-odd (powers 0) (selected 0) a b (size card 0) (powers_are 0) (selected_parity 0 ∙ o) in
          let e1 = power-odd (powers 1) (selected 1) a b (size card 1) (powers_are 1) (selected_parity 1 ∙ o) in
          let z0 : size card 0 * b ≡ b = ap (λ (x : ℕ). x * b) (pow-zero (2 ^ m)) ∙ one-mul b in
          let z1 : (size card 1 * b) % 2 ≡ 0 = even_mul (size card 1) b even1 in
          let ao : a % 2 ≡ 1 = odd-left (powers 0) a b (e0 ∙ ap (λ (w : ℕ). (a + w) % 2) z0) p0 in
          (o, ao, even_right (powers 1) a b (size card 1 * b) e1 p1 ao z1)

  covers_period : (start : List ℕ) → IsState card start → Covers card start → FullPeriod card
  covers_period start st cov =
      let c : SingleCycle (states card) (step_number card n) 0 =
      cycle_from (states card) (step_number card n) (number m n start) (pow_pos (m * n)) (covers_cycle start st cov) 0 (pow_pos (m * n)) in
      let dn : n ≡ (n - 2) + 2 = omega (arith, wf.width) in
      let c2 : SingleCycle (size card 2) (step_number card 2) 0 =
      lowest (n - 2) 2
      (subst (λ (a : ℕ). SingleCycle (size card a) (step_number card a) 0) dn (subst (λ (a : ℕ). SingleCycle a (step_number card n) 0) (pow_mul 2 m n) c)) in
      let c1 : SingleCycle (size card 1) (step_number card 1) 0 = lower 1 c2 in
      let g : SingleCycle (2 ^ m) (entry card) 0 = table_cycle c1 in
      let p = parities (powers_must_be_odd g.returns 0 cycle-none c1) (powers_must_be_odd g.returns 1 c1 c2) in
      record { cycle = g; constant = p.0; odd = p.1; even = p.2 }

pub coverage : (card : Card) → WellFormed card → (start : List ℕ) → IsState card start → Covers card start ↔ FullPeriod card
coverage card wf start st = (covers_period card wf start st, λ ok. period_covers card wf ok start st)
