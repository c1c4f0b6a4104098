-- One pass: what is kept of a list of bits, bit by bit, and that the four integers come of it.
use mathlib.Core.Path.{◌≡◌, refl, sym, ap, ap₂, ◌∙◌, subst}
use mathlib.Core.Bool.{Bool, not}
use mathlib.Core.List.{List, [], ◌∷◌, ◌++◌, append_assoc, append-nil, reverse}
use Prim.Native.Nat.{ℕ, suc, ◌+◌, ◌-◌, ◌*◌, ◌≤◌, ◌<◌, min, max}
use native.Mathlib.Omega.{arith}
use borrow.Author.Tests.{ne_eqb}
use lib.Dec.{eqb}
use lib.IntN.{neg_ℤ, sub_ℕ}
use lib.ListN.{length, get_or, length-append}
use lib.Seq.{get_or-append_seam}
use Rattle.cycle.specs.Notation.{All, one}
use Rattle.cycle.proofs.Parity.{bit_cases}
use Rattle.bit_counts.specs.Counts.{balance, largest, furthest, peak, trough, runs, counts_of}
use Rattle.bit_counts.proofs.Difference.{difference_of, difference_shift, difference_opposite, difference_above, difference_one}
use Rattle.bit_counts.proofs.Sums.{meeting, meeting_append, ones, zeros, ones_zeros, balance_difference}
use Rattle.bit_counts.proofs.Extremes.{peak_next, trough_next, ends, forward_extremes, backward_extremes, forward_bounds, fall_is, rise_is}
use Rattle.bit_counts.proofs.Runs.{runs-first, runs_next}
use Rattle.bit_tally.specs.declared.tally.Tally.{Tally}
use Rattle.bit_tally.specs.Tally.{base, tally_of_none, with_bit, tallied, Extremes, counts_from}

-- the last bit, and 2 where there is none
last_of : List ℕ → ℕ
last_of [] = 2
last_of (x ∷ bits) = get_or (x ∷ bits) (length bits) 0

-- what is kept of a list of bits
tally_of : List ℕ → Tally
tally_of bits = record { sum = base + ones bits - zeros bits; low = base - trough bits; high = base + peak bits; runs = runs bits; last = last_of bits }

-- ---- one bit more

module _ (bits : List ℕ) (b : ℕ) (l : b < 2) (room : length bits < base) where
  abbrev more : List ℕ
  more = bits ++ b ∷ []

  -- ones and zeros then
  one_more : (ones more ≡ ones bits + b) × (zeros more + b ≡ zeros bits + 1)
  unfolding meeting
  one_more = bit_cases (λ b. (ones (bits ++ b ∷ []) ≡ ones bits + b) × (zeros (bits ++ b ∷ []) + b ≡ zeros bits + 1))
      (meeting_append (λ x. not (eqb x 0)) bits (0 ∷ []) ∙ omega arith, omega (arith, meeting_append (λ x. eqb x 0) bits (0 ∷ [])))
      (meeting_append (λ x. not (eqb x 0)) bits (1 ∷ []) ∙ omega arith, omega (arith, meeting_append (λ x. eqb x 0) bits (1 ∷ [])))
      b l

  sum_more : base + ones bits - zeros bits - 1 + 2 * b ≡ base + ones more - zeros more
  sum_more = omega (arith, one_more, ones_zeros bits)

  low_more : min (base - trough bits) (base + ones more - zeros more) ≡ base - trough more
  low_more =
      let below = trough_next bits b
      ∙ ap (max (trough bits)) (difference_above (neg_ℤ (balance more)) _ _ (difference_opposite (balance more) (ones more) (zeros more) (balance_difference more))) in
      omega (arith, below)

  high_more : max (base + peak bits) (base + ones more - zeros more) ≡ base + peak more
  high_more =
      let over = peak_next bits b ∙ ap (max (peak bits)) (difference_above (balance more) _ _ (balance_difference more)) in
      omega (arith, over)

runs_more : (bits : List ℕ) (b : ℕ) → b < 2 → runs bits + one (not (eqb (last_of bits) b)) ≡ runs (bits ++ b ∷ [])
unfolding last_of runs
runs_more [] b l = ap (λ (t : Bool). 0 + one (not t)) (ne_eqb 2 b (λ e. omega arith)) ∙ sym (runs-first b)
runs_more (x ∷ bits) b l = sym (runs_next x b bits)

last_more : (bits : List ℕ) (b : ℕ) → b ≡ last_of (bits ++ b ∷ [])
unfolding last_of
last_more [] b = refl
last_more (x ∷ bits) b =
    let n : length (bits ++ b ∷ []) ≡ suc (length bits) = length-append bits (b ∷ []) ∙ omega arith in
    sym (ap (λ (n : ℕ). get_or (x ∷ (bits ++ b ∷ [])) n 0) n ∙ get_or-append_seam bits b [] 0)

bit_more : (bits : List ℕ) (b : ℕ) → b < 2 → length bits < base → with_bit (tally_of bits) b ≡ tally_of (bits ++ b ∷ [])
unfolding with_bit tally_of
bit_more bits b l room =
    let s = sum_more bits b l room in
    let low = ap (min (base - trough bits)) s ∙ low_more bits b l room in
    let high = ap (max (base + peak bits)) s ∙ high_more bits b l room in
    λ i. record { sum = s i; low = low i; high = high i; runs = runs_more bits b l i; last = last_more bits b i }

bits_more : (bits rest : List ℕ) → All (λ b. b < 2) rest → length bits + length rest ≤ base → tallied (tally_of bits) rest ≡ tally_of (bits ++ rest)
unfolding tallied
bits_more bits [] a room = ap tally_of (sym (append-nil bits))
bits_more bits (b ∷ rest) a room =
    let size = length-append bits (b ∷ []) in
    ap (λ (t : Tally). tallied t rest) (bit_more bits b a.0 (omega arith))
    ∙ bits_more (bits ++ b ∷ []) rest a.1 (omega (arith, size))
    ∙ ap tally_of (append_assoc bits (b ∷ []) rest)

first : tally_of_none ≡ tally_of []
unfolding tally_of meeting largest balance peak trough runs last_of
first = refl

kept : (bits : List ℕ) → All (λ b. b < 2) bits → length bits ≤ base → tallied tally_of_none bits ≡ tally_of bits
kept bits a room = ap (λ (t : Tally). tallied t bits) first ∙ bits_more [] bits a (omega arith)

-- ---- the integers

module _ (bits : List ℕ) (room : length bits ≤ base) where
  few : (peak bits ≤ base) × (trough bits ≤ base)
  few = let f = forward_extremes bits in let b = forward_bounds bits in (omega (arith, f, b), omega (arith, f, b))

  extremes : Extremes (tally_of bits)
  unfolding tally_of
  extremes =
      let e = ends bits in
      let f = few in
      let n = ones_zeros bits in
      record { low = omega arith; high = omega arith; low_now = omega arith; high_now = omega arith; most = omega arith }

  balance-kept : sub_ℕ (base + ones bits - zeros bits) base ≡ balance bits
  balance-kept =
      let s = base + ones bits - zeros bits in
      difference_one (sub_ℕ s base) (balance bits) (ones bits) (zeros bits)
      (difference_shift (sub_ℕ s base) s base (ones bits) (zeros bits) (difference_of s base) (omega (arith, ones_zeros bits)))
      (balance_difference bits)

  forward-kept : max (base + peak bits - base) (base - (base - trough bits)) ≡ furthest bits
  forward-kept = omega (arith, forward_extremes bits, few)

  backward-kept : let s = base + ones bits - zeros bits in max (s - (base - trough bits)) (base + peak bits - s) ≡ furthest (reverse bits)
  backward-kept =
      let s = base + ones bits - zeros bits in
      let low : s - (base - trough bits) + zeros bits ≡ ones bits + trough bits = omega (arith, ends bits, few, ones_zeros bits) in
      let high : base + peak bits - s + ones bits ≡ peak bits + zeros bits = omega (arith, ends bits, few, ones_zeros bits) in
      ap₂ max (omega (arith, low, fall_is bits)) (omega (arith, high, rise_is bits)) ∙ sym (backward_extremes bits)

  counts-kept : counts_from (tally_of bits) ≡ counts_of bits
  unfolding counts_from counts_of tally_of
  counts-kept = λ i. record { balance = balance-kept i; forward = forward-kept i; backward = backward-kept i; runs = runs bits }

-- ONE PASS: what is kept of the bits has extremes, and comes to the four integers
pub pass_extremes : (bits : List ℕ) → All (λ b. b < 2) bits → length bits ≤ base → Extremes (tallied tally_of_none bits)
pass_extremes bits a room = subst Extremes (sym (kept bits a room)) (extremes bits room)

pub pass_counts : (bits : List ℕ) → All (λ b. b < 2) bits → length bits ≤ base → counts_from (tallied tally_of_none bits) ≡ counts_of bits
pass_counts bits a room = ap counts_from (kept bits a room) ∙ counts-kept bits room
