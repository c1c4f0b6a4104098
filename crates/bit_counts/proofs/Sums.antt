-- The running sum of a list of bits, by its ones and zeros.
use mathlib.Core.Path.{◌≡◌, refl, sym, ap, ◌∙◌}
use mathlib.Core.Bool.{Bool, true, false, not, cond}
use mathlib.Core.List.{List, [], ◌∷◌, ◌++◌, reverse, reverse_aux, reverse_aux-append, reverse_aux-eq}
use Prim.Native.Nat.{ℕ, ◌+◌, ◌-◌, ◌%◌, ◌≤◌}
use native.Mathlib.Omega.{arith}
use lib.Dec.{eqb}
use lib.IntN.{pos, negsuc, nat_abs, ◌+ℤ◌}
use lib.ListN.{length, take, drop, take-append-drop, length-reverse, length-drop}
use lib.Seq.{take_at}
use Rattle.cycle.specs.Notation.{one}
use Rattle.bit_counts.specs.Counts.{sign, balance}
use Rattle.bit_counts.proofs.Difference.{Difference, difference_plus, difference_size, difference_shift, difference_one}

-- how many entries meet p
unfoldable pub meeting : (ℕ → Bool) → List ℕ → ℕ
meeting p [] = 0
meeting p (b ∷ bs) = one (p b) + meeting p bs

module _ (p : ℕ → Bool) where
  pub meeting_append : (s t : List ℕ) → meeting p (s ++ t) ≡ meeting p s + meeting p t
  unfolding meeting
  meeting_append [] t = omega arith
  meeting_append (b ∷ s) t = omega (arith, meeting_append s t)

  meeting_aux : (s t : List ℕ) → meeting p (reverse_aux s t) ≡ meeting p s + meeting p t
  unfolding meeting
  meeting_aux [] t = omega arith
  meeting_aux (b ∷ s) t = omega (arith, meeting_aux s (b ∷ t))

  -- of the first k entries read backward: those that are not among the others
  pub meeting_back : (bits : List ℕ) (k : ℕ) → k ≤ length bits
      → meeting p (take k (reverse bits)) + meeting p (take (length bits - k) bits) ≡ meeting p bits
  unfolding meeting
  meeting_back bits k l =
      let a = take (length bits - k) bits in
      let b = drop (length bits - k) bits in
      let parts : reverse bits ≡ reverse b ++ reverse a
      = ap reverse (sym (take-append-drop (length bits - k) bits)) ∙ reverse_aux-append a b [] ∙ reverse_aux-eq b (reverse a) in
      let size : length (reverse b) ≡ k = length-reverse b ∙ length-drop (length bits - k) bits ∙ omega arith in
      let front : take k (reverse bits) ≡ reverse b = ap (take k) parts ∙ take_at (reverse b) (reverse a) k size in
      omega (
        arith,
        ap (meeting p) front,
        meeting_aux b [],
        meeting_append a b,
        ap (meeting p) (take-append-drop (length bits - k) bits),
      )

-- ones, which are all entries but 0, and zeros
abbrev pub ones : List ℕ → ℕ
ones = meeting (λ b. not (eqb b 0))

abbrev pub zeros : List ℕ → ℕ
zeros = meeting (λ b. eqb b 0)

-- a test holds or not
pub one_or_other : (t : Bool) → one (not t) + one t ≡ 1
one_or_other true = refl
one_or_other false = refl

pub ones_zeros : (bits : List ℕ) → ones bits + zeros bits ≡ length bits
unfolding meeting
ones_zeros [] = refl
ones_zeros (b ∷ bs) = omega (arith, one_or_other (eqb b 0), ones_zeros bs)

-- the sum of the signs is ones less zeros
sign_difference : (t : Bool) → Difference (cond t (negsuc 0) (pos 1)) (one (not t)) (one t)
sign_difference true = refl
sign_difference false = refl

pub balance_difference : (bits : List ℕ) → Difference (balance bits) (ones bits) (zeros bits)
unfolding balance meeting
balance_difference [] = refl
balance_difference (b ∷ bs) = difference_plus (sign b) (balance bs) _ _ _ _ (sign_difference (eqb b 0)) (balance_difference bs)

pub balance-size : (bits : List ℕ) → nat_abs (balance bits) ≡ (ones bits - zeros bits) + (zeros bits - ones bits)
balance-size bits = difference_size (balance bits) (ones bits) (zeros bits) (balance_difference bits)

-- of two lists, one after the other, the balances add up
pub balance-append : (s t : List ℕ) → balance (s ++ t) ≡ balance s +ℤ balance t
balance-append s t =
    let o = meeting_append (λ b. not (eqb b 0)) s t in
    let z = meeting_append (λ b. eqb b 0) s t in
    difference_one (balance (s ++ t)) (balance s +ℤ balance t) (ones s + ones t) (zeros s + zeros t)
    (difference_shift (balance (s ++ t)) (ones (s ++ t)) (zeros (s ++ t)) _ _ (balance_difference (s ++ t)) (omega arith))
    (difference_plus (balance s) (balance t) (ones s) (zeros s) (ones t) (zeros t) (balance_difference s) (balance_difference t))

-- read backward it is the same
pub balance_back : (bits : List ℕ) → balance (reverse bits) ≡ balance bits
unfolding meeting
balance_back bits =
    let o = meeting_aux (λ b. not (eqb b 0)) bits [] in
    let z = meeting_aux (λ b. eqb b 0) bits [] in
    difference_one (balance (reverse bits)) (balance bits) (ones bits) (zeros bits)
    (difference_shift (balance (reverse bits)) (ones (reverse bits)) (zeros (reverse bits)) _ _ (balance_difference (reverse bits)) (omega arith)) (balance_difference bits)

-- BALANCE AND LENGTH: of the same parity, and the balance is not the larger
pub balance-parity : (bits : List ℕ) → nat_abs (balance bits) % 2 ≡ length bits % 2
balance-parity bits = omega (arith, balance-size bits, ones_zeros bits)

pub balance-bound : (bits : List ℕ) → nat_abs (balance bits) ≤ length bits
balance-bound bits = omega (arith, balance-size bits, ones_zeros bits)
