-- The extremes of the running sum. ONE PASS SUFFICES: the largest distance from zero, read forward and read backward, follows from the total and the extremes of
-- the sums read forward.
use mathlib.Core.Path.{◌≡◌, refl, sym, ap, ap₂, ◌∙◌, subst}
use mathlib.Core.Bool.{Bool, not}
use mathlib.Core.List.{List, [], ◌∷◌, ◌++◌, reverse}
use Prim.Native.Nat.{ℕ, suc, ◌+◌, ◌-◌, ◌≤◌, max}
use native.Mathlib.Nat.{le_antisymm}
use native.Mathlib.Decide.{ℕ_discrete}
use native.Mathlib.Omega.{arith}
use lib.Dec.{eqb}
use lib.IntN.{ℤ, pos, neg_ℤ, nat_abs, ◌+ℤ◌, ◌-ℤ◌}
use lib.ListN.{length, take, length-reverse, length-append}
use lib.Seq.{take_all, take-append-le, length-take-le}
use Rattle.bit_counts.specs.Counts.{balance, running_sum, above, largest, furthest, peak, trough}
use Rattle.bit_counts.proofs.Difference.{difference_plus, difference_minus, difference_opposite, difference_size, difference_above}
use Rattle.bit_counts.proofs.Largest.{largest_ge, largest_at, largest_le, largest_ext}
use Rattle.bit_counts.proofs.Sums.{meeting, meeting_back, ones, zeros, balance_difference, balance-size, balance_back, balance-bound}

-- the largest excess of u over d, where neither has any at 0, is an excess
module _ (n : ℕ) (u d : ℕ → ℕ) (begin : u 0 ≡ d 0) where
  reached : (k : ℕ) × (k ≤ n) × (u k ≡ d k + largest n (λ j. u j - d j))
  reached = go (ℕ_discrete (largest n (λ j. u j - d j)) 0) (largest_at n (λ j. u j - d j))
    where
      go : Dec (largest n (λ j. u j - d j) ≡ 0) → (k : ℕ) × (k ≤ n) × (largest n (λ j. u j - d j) ≡ u k - d k)
          → (k : ℕ) × (k ≤ n) × (u k ≡ d k + largest n (λ j. u j - d j))
      go (yes z) r = (0, omega arith, omega arith)
      go (no ne) r = (r.0, r.1, omega (arith, r.2))

module _ (bits : List ℕ) where
  -- ones and zeros among the first k bits
  abbrev u : ℕ → ℕ
  u k = ones (take k bits)

  abbrev d : ℕ → ℕ
  d k = zeros (take k bits)

  peak_is : peak bits ≡ largest (length bits) (λ k. u k - d k)
  unfolding peak
  peak_is = largest_ext (length bits) _ _ (λ k l. difference_above (running_sum bits k) (u k) (d k) (balance_difference (take k bits)))

  trough_is : trough bits ≡ largest (length bits) (λ k. d k - u k)
  unfolding trough
  trough_is = largest_ext (length bits) _ _ (λ k l. difference_above (neg_ℤ (running_sum bits k)) (d k) (u k) (difference_opposite (running_sum bits k) (u k) (d k) (balance_difference (take k bits))))

  -- no sum is outside of the extremes, and each is a sum
  pub within : (k : ℕ) → k ≤ length bits → (u k ≤ d k + peak bits) × (d k ≤ u k + trough bits)
  within k l = (
    omega (arith, peak_is, largest_ge (length bits) (λ k. u k - d k) k l),
    omega (arith, trough_is, largest_ge (length bits) (λ k. d k - u k) k l),
  )

  begun : u 0 ≡ d 0
  unfolding meeting
  begun = refl

  pub peak_at : (k : ℕ) × (k ≤ length bits) × (u k ≡ d k + peak bits)
  peak_at = let r = reached (length bits) u d begun in (r.0, r.1, r.2 ∙ ap (λ (p : ℕ). d r.0 + p) (sym peak_is))

  pub trough_at : (k : ℕ) × (k ≤ length bits) × (d k ≡ u k + trough bits)
  trough_at = let r = reached (length bits) d u (sym begun) in (r.0, r.1, r.2 ∙ ap (λ (p : ℕ). u r.0 + p) (sym trough_is))

  -- all of the bits
  whole : take (length bits) bits ≡ bits
  whole = take_all (length bits) bits (omega arith)

  pub ends : (ones bits ≤ zeros bits + peak bits) × (zeros bits ≤ ones bits + trough bits)
  ends = let w = within (length bits) (omega arith) in (omega (arith, ap ones whole, ap zeros whole, w.0), omega (arith, ap ones whole, ap zeros whole, w.1))

  -- READ FORWARD the largest distance is the larger extreme's
  size_at : (k : ℕ) → nat_abs (running_sum bits k) ≡ (u k - d k) + (d k - u k)
  size_at k = balance-size (take k bits)

  pub forward_extremes : furthest bits ≡ max (peak bits) (trough bits)
  unfolding furthest
  forward_extremes =
      let p = peak_at in
      let t = trough_at in
      le_antisymm
      (largest_le (length bits) (λ k. nat_abs (running_sum bits k)) _ (λ k l. omega (arith, size_at k, within k l)))
      (omega (
        arith,
        size_at p.0,
        size_at t.0,
        p.2,
        t.2,
        largest_ge (length bits) (λ k. nat_abs (running_sum bits k)) p.0 p.1,
        largest_ge (length bits) (λ k. nat_abs (running_sum bits k)) t.0 t.1,
      ))

  -- READ BACKWARD it is the larger distance of the total from an extreme
  abbrev back : ℕ → ℕ
  back k = nat_abs (running_sum (reverse bits) k)

  -- the last bits have what the others lack
  rest : (p : ℕ → Bool) (j : ℕ) → j ≤ length bits → meeting p (take (length bits - j) (reverse bits)) + meeting p (take j bits) ≡ meeting p bits
  rest p j l =
      let others : length bits - (length bits - j) ≡ j = omega arith in
      ap (λ (i : ℕ). meeting p (take (length bits - j) (reverse bits)) + meeting p (take i bits)) (sym others) ∙ meeting_back p bits (length bits - j) (omega arith)

  -- how far the total is above the lowest sum, and below the highest
  abbrev pub fall : ℕ
  fall = nat_abs (balance bits +ℤ pos (trough bits))

  pub fall_is : fall + zeros bits ≡ ones bits + trough bits
  fall_is =
      let t = trough bits in
      let s = difference_size (balance bits +ℤ pos t) (ones bits + t) (zeros bits + 0)
      (difference_plus (balance bits) (pos t) (ones bits) (zeros bits) t 0 (balance_difference bits) (omega arith)) in
      omega (arith, s, ends.1)

  abbrev pub rise : ℕ
  rise = nat_abs (pos (peak bits) -ℤ balance bits)

  pub rise_is : rise + ones bits ≡ peak bits + zeros bits
  rise_is =
      let p = peak bits in
      let s = difference_size (pos p -ℤ balance bits) (p + zeros bits) (0 + ones bits)
      (difference_minus (pos p) (balance bits) p 0 (ones bits) (zeros bits) (omega arith) (balance_difference bits)) in
      omega (arith, s, ends.0)

  -- the sum of the last bits
  module _ (j : ℕ) (l : j ≤ length bits) where
    abbrev a : ℕ
    a = ones (take (length bits - j) (reverse bits))

    abbrev b : ℕ
    b = zeros (take (length bits - j) (reverse bits))

    back_size : (back (length bits - j) ≡ (a - b) + (b - a)) × (a + u j ≡ ones bits) × (b + d j ≡ zeros bits)
    back_size = (balance-size (take (length bits - j) (reverse bits)), rest (λ x. not (eqb x 0)) j l, rest (λ x. eqb x 0) j l)

    back_between : back (length bits - j) ≤ max fall rise
    back_between = omega (arith, back_size, within j l, fall_is, rise_is)

    back_at : back (length bits - j) ≤ furthest (reverse bits)
    unfolding furthest
    back_at = largest_ge (length (reverse bits)) back (length bits - j) (omega (arith, length-reverse bits))

  back_all : furthest (reverse bits) ≤ max fall rise
  unfolding furthest
  back_all = largest_le (length (reverse bits)) back _ each
    where
      each : (k : ℕ) → k ≤ length (reverse bits) → back k ≤ max fall rise
      each k l =
          let n = length-reverse bits in
          let same : length bits - (length bits - k) ≡ k = omega arith in
          subst (λ (i : ℕ). back i ≤ max fall rise) same (back_between (length bits - k) (omega arith))

  pub backward_extremes : furthest (reverse bits) ≡ max (nat_abs (balance bits +ℤ pos (trough bits))) (nat_abs (pos (peak bits) -ℤ balance bits))
  backward_extremes =
      let p = peak_at in
      let t = trough_at in
      let low : fall ≤ furthest (reverse bits) = omega (arith, back_at t.0 t.1, back_size t.0 t.1, t.2, fall_is) in
      let high : rise ≤ furthest (reverse bits) = omega (arith, back_at p.0 p.1, back_size p.0 p.1, p.2, rise_is) in
      le_antisymm back_all (omega arith)

-- ---- the largest distance, the balance and the length

module _ (bits : List ℕ) where
  forward-lower : nat_abs (balance bits) ≤ furthest bits
  unfolding furthest
  forward-lower = omega (arith, ap (λ (s : List ℕ). nat_abs (balance s)) (whole bits), largest_ge (length bits) (λ k. nat_abs (running_sum bits k)) (length bits) (omega arith))

  forward_upper : furthest bits ≤ length bits
  unfolding furthest
  forward_upper = largest_le (length bits) _ _ (λ k l. omega (arith, balance-bound (take k bits), length-take-le k bits l))

-- THE DISTANCE IS BETWEEN THE BALANCE AND THE LENGTH, forward and backward
pub forward_bounds : (bits : List ℕ) → (nat_abs (balance bits) ≤ furthest bits) × (furthest bits ≤ length bits)
forward_bounds bits = (forward-lower bits, forward_upper bits)

pub backward_bounds : (bits : List ℕ) → (nat_abs (balance bits) ≤ furthest (reverse bits)) × (furthest (reverse bits) ≤ length bits)
backward_bounds bits =
    (omega (arith, ap nat_abs (balance_back bits), forward-lower (reverse bits)), omega (arith, length-reverse bits, forward_upper (reverse bits)))

-- each sum is as near to zero as that, and one is as far
pub furthest_is : (bits : List ℕ) → ((k : ℕ) → k ≤ length bits → nat_abs (running_sum bits k) ≤ furthest bits)
    × ((k : ℕ) × (k ≤ length bits) × (nat_abs (running_sum bits k) ≡ furthest bits))
unfolding furthest
furthest_is bits =
    let f : ℕ → ℕ = λ k. nat_abs (running_sum bits k) in
    let r = largest_at (length bits) f in
    (largest_ge (length bits) f, (r.0, r.1, sym r.2))

-- ---- a bit more

module _ (bits : List ℕ) (b : ℕ) where
  abbrev more : List ℕ
  more = bits ++ b ∷ []

  more_length : length more ≡ suc (length bits)
  more_length = length-append bits (b ∷ []) ∙ omega arith

  largest_next : (g : ℤ → ℕ) → largest (length more) (λ k. g (running_sum more k)) ≡ max (largest (length bits) (λ k. g (running_sum bits k))) (g (balance more))
  unfolding largest
  largest_next g =
      ap (λ (n : ℕ). largest n (λ k. g (running_sum more k))) more_length
      ∙ ap₂ max
      (largest_ext (length bits) _ _ (λ k l. ap (λ (s : List ℕ). g (balance s)) (take-append-le k bits (b ∷ []) l)))
      (ap (λ (s : List ℕ). g (balance s)) (take_all (suc (length bits)) more (omega (arith, more_length))))

  pub peak_next : peak more ≡ max (peak bits) (above (balance more))
  unfolding peak
  peak_next = largest_next above

  pub trough_next : trough more ≡ max (trough bits) (above (neg_ℤ (balance more)))
  unfolding trough
  trough_next = largest_next (λ z. above (neg_ℤ z))
