-- Selector bit i as a function of the number of the i columns below it, and the parity of its ones over all such numbers.
use mathlib.Core.Path.{◌≡◌, refl, sym, ap, ap₂, ◌∙◌}
use mathlib.Core.Bool.{Bool, true, false, cond}
use Prim.Native.Nat.{ℕ, zero, suc, ◌+◌, ◌*◌, ◌/◌, ◌%◌, ◌^◌, ◌≤◌, ◌<◌}
use native.Mathlib.Nat.{zero-add, zero-mul, mul_assoc, add_right_comm, mod-lt, mod-mod, pow-zero, pow-suc, pow-succ', add-mul-div_right, div-div-eq-div-mul, one-mul, div-one, mul-div-mul_left, mul-mod_right}
use native.Mathlib.Omega.{arith}
use lib.Arith.{digits_div, digits_mod}
use lib.Pow.{pow_pos}
use Rattle.cycle.specs.Notation.{sum}
use Rattle.cycle.proofs.Parity.{two_pos, bit_cases}
use Rattle.cycle.proofs.Sum.{sum_ext, sum-parity, sum_const, sum_zero, sum_one, sum_add, sum_scale, sum_swap, sum_blocks}
use Rattle.tsc.proofs.Columns.{all_ones, popcount}

-- ---- all columns of m bits

pub all_ones_lt : (m y : ℕ) → all_ones m y < 2
unfolding all_ones
all_ones_lt zero y = omega arith
all_ones_lt (suc m) y =
    bit_cases (λ b. b * all_ones m (y / 2) < 2) (rw zero-mul (omega arith)) (rw one-mul (all_ones_lt m (y / 2))) (y % 2) (mod-lt y two_pos)

-- a sum over m + 1 bits, the lowest apart
sum-pairs : (m : ℕ) (h : ℕ → ℕ) → sum (2 ^ suc m) h ≡ sum (2 ^ m) (λ y. h (y * 2 + 0) + h (y * 2 + 1))
unfolding sum
sum-pairs m h = rw pow-suc (sum_blocks (2 ^ m) 2 h ∙ sum_ext (2 ^ m) _ _ (λ y l. ap (λ (a : ℕ). a + h (y * 2 + 1)) (zero-add (h (y * 2 + 0)))))

low0 : (y : ℕ) → (y * 2 + 0) % 2 ≡ 0
low0 y = omega arith

low1 : (y : ℕ) → (y * 2 + 1) % 2 ≡ 1
low1 y = omega arith

high0 : (y : ℕ) → (y * 2 + 0) / 2 ≡ y
high0 y = omega arith

high1 : (y : ℕ) → (y * 2 + 1) / 2 ≡ y
high1 y = omega arith

-- one of the 2^m columns is all ones
all_ones_sum : (m : ℕ) → sum (2 ^ m) (all_ones m) ≡ 1
unfolding all_ones sum
all_ones_sum zero = refl
all_ones_sum (suc m) =
    sum-pairs m (all_ones (suc m))
    ∙ sum_ext (2 ^ m) (λ y. all_ones (suc m) (y * 2 + 0) + all_ones (suc m) (y * 2 + 1)) (all_ones m) (λ y l.
    rw (low0, low1, high1, zero-mul, one-mul, zero-add))
    ∙ all_ones_sum m

-- from 2 words on, the 2^m columns together have an even number of ones
popcount_sum : (m : ℕ) → sum (2 ^ suc (suc m)) (popcount (suc (suc m))) % 2 ≡ 0
unfolding popcount
popcount_sum m =
    ap (λ (a : ℕ). a % 2) (sum-pairs (suc m) (popcount (suc (suc m))))
    ∙ sum-parity (2 ^ suc m) (λ y. popcount (suc (suc m)) (y * 2 + 0) + popcount (suc (suc m)) (y * 2 + 1)) (λ y. 1) (λ y l.
    rw (low0, low1, high0, high1) (omega arith))
    ∙ ap (λ (a : ℕ). a % 2) (sum_one (2 ^ suc m) ∙ pow-succ' 2 m) ∙ mul-mod_right 2 (2 ^ m)

-- ---- the i low columns together
module _ (m : ℕ) where
  -- w of each of the i low columns of x, as bits of one number: the AND of the words where w is `all_ones m`, their sum where it is `popcount m`
  unfoldable pub low_part : (ℕ → ℕ) → ℕ → ℕ → ℕ
  low_part w zero x = 0
  low_part w (suc i) x = low_part w i (x % (2 ^ m) ^ i) + w (x / (2 ^ m) ^ i) * 2 ^ i

  -- selector bit i where the i low columns have the number x
  unfoldable pub selector_bit : Bool → ℕ → ℕ → ℕ → ℕ
  selector_bit sums C i x = ((low_part (all_ones m) i x + C) / 2 ^ i + cond sums (2 * low_part (popcount m) i x / 2 ^ i) 0) % 2

  pub selector_bit_lt : (sums : Bool) (C i x : ℕ) → selector_bit sums C i x < 2
  unfolding selector_bit
  selector_bit_lt sums C i x = mod-lt ((low_part (all_ones m) i x + C) / 2 ^ i + cond sums (2 * low_part (popcount m) i x / 2 ^ i) 0) two_pos

  low_part_at : (w : ℕ → ℕ) (i y x : ℕ) → x < (2 ^ m) ^ i → low_part w (suc i) (y * (2 ^ m) ^ i + x) ≡ low_part w i x + w y * 2 ^ i
  unfolding low_part
  low_part_at w i y x l = rw (digits_div y l, digits_mod y l)

  -- a sum over the numbers of one more column
  sum-column : (i : ℕ) (f : ℕ → ℕ) → sum ((2 ^ m) ^ suc i) f ≡ sum ((2 ^ m) ^ i) (λ x. sum (2 ^ m) (λ y. f (y * (2 ^ m) ^ i + x)))
  sum-column i f = rw (pow-succ' (2 ^ m) i) (sum_blocks (2 ^ m) ((2 ^ m) ^ i) f ∙ sum_swap (2 ^ m) ((2 ^ m) ^ i) (λ y x. f (y * (2 ^ m) ^ i + x)))

  -- a carry over one more column: one more where the column is all ones and v is odd
  carry : (v b : ℕ) → b < 2 → (v + b) / 2 ≡ v / 2 + b * (v % 2)
  carry v b l = bit_cases (λ b. (v + b) / 2 ≡ v / 2 + b * (v % 2)) (rw zero-mul (omega arith)) (rw one-mul (omega arith)) b l

  and_column : (C i y x : ℕ) → x < (2 ^ m) ^ i
      → (low_part (all_ones m) (suc i) (y * (2 ^ m) ^ i + x) + C) / 2 ^ suc i ≡ ((low_part (all_ones m) i x + C) / 2 ^ i + all_ones m y) / 2
  and_column C i y x l =
      ap₂ (λ (a b : ℕ). a / b)
      (ap (λ (a : ℕ). a + C) (low_part_at (all_ones m) i y x l) ∙ add_right_comm (low_part (all_ones m) i x) (all_ones m y * 2 ^ i) C) (pow-suc 2 i)
      ∙ sym (div-div-eq-div-mul (low_part (all_ones m) i x + C + all_ones m y * 2 ^ i) (2 ^ i) 2)
      ∙ ap (λ (a : ℕ). a / 2) (add-mul-div_right (low_part (all_ones m) i x + C) (all_ones m y) (pow_pos i))

  sum_term_column : (i y x : ℕ) → x < (2 ^ m) ^ i
      → 2 * low_part (popcount m) (suc i) (y * (2 ^ m) ^ i + x) / 2 ^ suc i ≡ low_part (popcount m) i x / 2 ^ i + popcount m y
  sum_term_column i y x l =
      ap₂ (λ (a b : ℕ). 2 * a / b) (low_part_at (popcount m) i y x l) (pow-succ' 2 i)
      ∙ mul-div-mul_left (low_part (popcount m) i x + popcount m y * 2 ^ i) (2 ^ i) two_pos
      ∙ add-mul-div_right (low_part (popcount m) i x) (popcount m y) (pow_pos i)

  -- ---- parities, where 2^m is even and the columns together have an even number of ones
  module _ (q : ℕ) (even : 2 ^ m ≡ 2 * q) where
    even-times : (a : ℕ) → (2 ^ m * a) % 2 ≡ 0
    even-times a = rw (even, mul_assoc) (mul-mod_right 2 (q * a))

    carries : (v : ℕ) → sum (2 ^ m) (λ y. (v + all_ones m y) / 2) % 2 ≡ v % 2
    carries v =
        ap (λ (a : ℕ). a % 2)
        (sum_ext (2 ^ m) (λ y. (v + all_ones m y) / 2) (λ y. v / 2 + all_ones m y * (v % 2)) (λ y l. carry v (all_ones m y) (all_ones_lt m y))
        ∙ sum_add (2 ^ m) (λ y. v / 2) (λ y. all_ones m y * (v % 2))
        ∙ ap₂ (λ (a b : ℕ). a + b) (sum_const (2 ^ m) (v / 2))
        (sum_scale (2 ^ m) (v % 2) (all_ones m) ∙ ap (λ (a : ℕ). a * (v % 2)) (all_ones_sum m) ∙ one-mul (v % 2)))
        ∙ omega (arith, even-times (v / 2))

    -- p + C contributes the parity of C
    and_parity : (C i : ℕ) → sum ((2 ^ m) ^ i) (λ x. (low_part (all_ones m) i x + C) / 2 ^ i) % 2 ≡ C % 2
    unfolding low_part sum
    and_parity C zero = rw pow-zero (omega (arith, div-one (0 + C)))
    and_parity C (suc i) =
        ap (λ (a : ℕ). a % 2) (sum-column i (λ x. (low_part (all_ones m) (suc i) x + C) / 2 ^ suc i))
        ∙ sum-parity ((2 ^ m) ^ i) (λ x. sum (2 ^ m) (λ y. (low_part (all_ones m) (suc i) (y * (2 ^ m) ^ i + x) + C) / 2 ^ suc i))
        (λ x. (low_part (all_ones m) i x + C) / 2 ^ i) (λ x l.
        ap (λ (a : ℕ). a % 2)
        (sum_ext (2 ^ m) _ (λ y. ((low_part (all_ones m) i x + C) / 2 ^ i + all_ones m y) / 2) (λ y j. and_column C i y x l))
        ∙ carries ((low_part (all_ones m) i x + C) / 2 ^ i))
        ∙ and_parity C i

    -- 2s contributes nothing
    sum_term_parity : sum (2 ^ m) (popcount m) % 2 ≡ 0 → (sums : Bool) (i : ℕ)
        → sum ((2 ^ m) ^ i) (λ x. cond sums (2 * low_part (popcount m) i x / 2 ^ i) 0) % 2 ≡ 0
    unfolding low_part sum
    sum_term_parity o false i = ap (λ (a : ℕ). a % 2) (sum_zero ((2 ^ m) ^ i))
    sum_term_parity o true zero = rw pow-zero refl
    sum_term_parity o true (suc i) =
        ap (λ (a : ℕ). a % 2) (sum-column i (λ x. 2 * low_part (popcount m) (suc i) x / 2 ^ suc i))
        ∙ sum-parity ((2 ^ m) ^ i) (λ x. sum (2 ^ m) (λ y. 2 * low_part (popcount m) (suc i) (y * (2 ^ m) ^ i + x) / 2 ^ suc i)) (λ x. 0) (λ x l.
        ap (λ (a : ℕ). a % 2)
        (sum_ext (2 ^ m) _ (λ y. low_part (popcount m) i x / 2 ^ i + popcount m y) (λ y j. sum_term_column i y x l)
        ∙ sum_add (2 ^ m) (λ y. low_part (popcount m) i x / 2 ^ i) (popcount m)
        ∙ ap (λ (a : ℕ). a + sum (2 ^ m) (popcount m)) (sum_const (2 ^ m) (low_part (popcount m) i x / 2 ^ i)))
        ∙ omega (arith, even-times (low_part (popcount m) i x / 2 ^ i), o))
        ∙ ap (λ (a : ℕ). a % 2) (sum_zero ((2 ^ m) ^ i))

    parity_of : sum (2 ^ m) (popcount m) % 2 ≡ 0 → (sums : Bool) (C i : ℕ) → sum ((2 ^ m) ^ i) (selector_bit sums C i) % 2 ≡ C % 2
    unfolding selector_bit
    parity_of o sums C i =
        sum-parity ((2 ^ m) ^ i) (selector_bit sums C i) (λ x. (low_part (all_ones m) i x + C) / 2 ^ i + cond sums (2 * low_part (popcount m) i x / 2 ^ i) 0) (λ x l.
        mod-mod ((low_part (all_ones m) i x + C) / 2 ^ i + cond sums (2 * low_part (popcount m) i x / 2 ^ i) 0) 2)
        ∙ ap (λ (a : ℕ). a % 2)
        (sum_add ((2 ^ m) ^ i) (λ x. (low_part (all_ones m) i x + C) / 2 ^ i) (λ x. cond sums (2 * low_part (popcount m) i x / 2 ^ i) 0))
        ∙ omega (arith, and_parity C i, sum_term_parity o sums i)

-- of the numbers of i columns, those whose selector bit i is 1 are odd in number exactly where C is odd
pub selector_bit_parity : (m : ℕ) → 2 ≤ m → (sums : Bool) (C i : ℕ) → sum ((2 ^ m) ^ i) (selector_bit m sums C i) % 2 ≡ C % 2
selector_bit_parity zero h sums C i = absurd (omega arith)
selector_bit_parity (suc zero) h sums C i = absurd (omega arith)
selector_bit_parity (suc (suc m)) h sums C i = parity_of (suc (suc m)) (2 ^ suc m) (pow-succ' 2 (suc m)) (popcount_sum m) sums C i
