-- The words of a state by their bytes, one by one.
use mathlib.Core.Path.{◌≡◌, ap}
use mathlib.Core.List.{List}
use Prim.Native.Nat.{ℕ, ◌+◌, ◌*◌, ◌^◌, ◌<◌}
use native.Mathlib.Nat.{add-zero}
use native.Mathlib.Omega.{arith}
use lib.ListN.{length, get_or}
use Rattle.cycle.specs.Notation.{sum}
use Rattle.cycle.proofs.Digits.{length-tabulate, get_d_tabulate}
use Rattle.card_format.specs.Fields.{numbers}
use Rattle.records.specs.Fields.{word_field}

pub length-words : (m : ℕ) (part : List ℕ) → length (numbers (word_field m) part) ≡ m
unfolding numbers
length-words m part = length-tabulate m _

-- word k by its bytes
pub word_bytes : (m : ℕ) (part : List ℕ) (k : ℕ) → k < m → let at = 4 * k in
    get_or part at 0 + get_or part (at + 1) 0 * 256 + get_or part (at + 2) 0 * 65536 + get_or part (at + 3) 0 * 16777216 ≡ get_or (numbers (word_field m) part) k 0
unfolding numbers sum
word_bytes m part k l =
    let at = 4 * k in
    let e : k * 4 ≡ at = omega arith in
    let a = get_d_tabulate m (λ j. sum 4 (λ i. get_or part (j * 4 + i) 0 * 256 ^ i)) k l in
    omega (
      arith,
      a,
      ap (λ (x : ℕ). get_or part (x + 0) 0) e,
      ap (λ (x : ℕ). get_or part (x + 1) 0) e,
      ap (λ (x : ℕ). get_or part (x + 2) 0) e,
      ap (λ (x : ℕ). get_or part (x + 3) 0) e,
      ap (λ (x : ℕ). get_or part x 0) (add-zero at),
    )
