-- Remainders: a sum modulo M determines its terms, how often a remainder comes, values that are evenly spread, and fair ranks.
use mathlib.Core.Path.{◌≡◌, sym, ap, ap₂, ◌∙◌}
use mathlib.Core.Bool.{Bool}
use Prim.Native.Nat.{ℕ, suc, ◌+◌, ◌-◌, ◌*◌, ◌/◌, ◌%◌, ◌≤◌, ◌<◌}
use native.Mathlib.Nat.{add-zero, suc-mul, one-mul, mul-one, mod-lt, mod-eq_of_lt, mod-add-mod, mod-add-div', add-mul-mod_self_right, mul-div_cancel, le-div_iff_mul-le, div-lt_iff_lt-mul, mul-le-mul_right}
use native.Mathlib.Decide.{dec_lt}
use native.Mathlib.Omega.{arith}
use borrow.Author.Tests.{lt-ltb, le-ltb, le-leb, lt-leb}
use lib.Arith.{digits_div, digits_mod, digits_lt}
use lib.Dec.{eqb, leb, ltb}
use Rattle.cycle.specs.Notation.{sum, one, count}
use Rattle.cycle.specs.Fair.{largest_multiple, gives_rank}
use Rattle.cycle.proofs.Sum.{sum_ext, sum_const, sum_split, sum_blocks}
use Rattle.cycle.proofs.Count.{count_ext, count_never}
use Rattle.cycle.proofs.Pigeonhole.{count_equal, sum_injective}

-- ---- a sum modulo M and one of its terms determine the other

module _ (M c : ℕ) where
  undone : (x : ℕ) → x < M → ((c + x) % M + (M - c % M)) % M ≡ x
  undone x l =
      let pos : 0 < M = omega arith in
      let rounds : c + x + (M - c % M) ≡ x + suc (c / M) * M = omega (arith, mod-add-div' c M, mod-lt c pos, suc-mul (c / M) M) in
      mod-add-mod (c + x) M (M - c % M) ∙ ap (λ (a : ℕ). a % M) rounds ∙ add-mul-mod_self_right x (suc (c / M)) M ∙ mod-eq_of_lt l

  pub add_mod_injective : (x y : ℕ) → x < M → y < M → (c + x) % M ≡ (c + y) % M → x ≡ y
  add_mod_injective x y lx ly e = sym (undone x lx) ∙ ap (λ (a : ℕ). (a + (M - c % M)) % M) e ∙ undone y ly

-- ---- evenly spread values

-- a test of the remainder by k, on q times k numbers
count_remainders : (q k : ℕ) (p : ℕ → Bool) → count (q * k) (λ z. p (z % k)) ≡ q * count k p
unfolding count
count_remainders q k p =
    sum_blocks q k (λ z. one (p (z % k)))
    ∙ sum_ext q (λ y. sum k (λ x. one (p ((y * k + x) % k)))) (λ y. count k p) (λ y j.
    sum_ext k (λ x. one (p ((y * k + x) % k))) (λ x. one (p x)) (λ x l. ap (λ (a : ℕ). one (p a)) (digits_mod y l)))
    ∙ sum_const q (count k p)

-- f of the numbers below A * B to those below B, and g to those below A, that together determine the number: f takes each value A times
module _
    (A B : ℕ) (f g : ℕ → ℕ) (fb : (z : ℕ) → z < A * B → f z < B) (gb : (z : ℕ) → z < A * B → g z < A)
    (determined : (y z : ℕ) → y < A * B → z < A * B → f y ≡ f z → g y ≡ g z → y ≡ z) where
  pub count_spread : (p : ℕ → Bool) → count (A * B) (λ z. p (f z)) ≡ A * count B p
  unfolding count
  count_spread p =
      count_ext (A * B) (λ z. p (f z)) (λ z. p (pair z % B)) (λ z l. ap p (sym (low z l)))
      ∙ sum_injective (A * B) pair (λ z. one (p (z % B))) (λ z l. digits_lt (gb z l) (fb z l)) (λ y z ly lz e.
      determined y z ly lz (sym (low y ly) ∙ ap (λ (a : ℕ). a % B) e ∙ low z lz) (sym (high y ly) ∙ ap (λ (a : ℕ). a / B) e ∙ high z lz))
      ∙ count_remainders A B p
    where
      pair : ℕ → ℕ
      pair z = g z * B + f z

      low : (z : ℕ) → z < A * B → pair z % B ≡ f z
      low z l = digits_mod (g z) (fb z l)

      high : (z : ℕ) → z < A * B → pair z / B ≡ g z
      high z l = digits_div (g z) (fb z l)

-- ---- fair ranks

-- L is the multiple that its name says
pub multiple_is : (M k : ℕ) → largest_multiple M k ≡ M / k * k
multiple_is M k = omega (arith, mod-add-div' M k)

module _ (M k : ℕ) (pos : 0 < k) where
  abbrev L : ℕ
  L = largest_multiple M k

  -- and the largest that is not above M
  pub multiple-largest : (L ≤ M) × (M < L + k)
  multiple-largest = (omega (arith, mod-add-div' M k), omega (arith, mod-add-div' M k, mod-lt M pos))

  -- w is below L exactly where all k numbers from its own multiple of k on are below M
  pub kept_test : (w : ℕ) → leb (largest_multiple w k + k) M ≡ ltb w L
  kept_test w = go (dec_lt (w / k) (M / k))
    where
      go : Dec (w / k < M / k) → leb (largest_multiple w k + k) M ≡ ltb w L
      go (yes l) =
          le-leb (largest_multiple w k + k) M (omega (arith, multiple_is w k, suc-mul (w / k) k, (le-div_iff_mul-le pos).0 l))
          ∙ sym (lt-ltb w L (omega (arith, multiple_is M k, (div-lt_iff_lt-mul pos).0 l)))
      go (no n) =
          let past : M / k ≤ w / k = omega arith in
          let over : M / k < suc (w / k) = omega arith in
          lt-leb (largest_multiple w k + k) M (omega (arith, multiple_is w k, suc-mul (w / k) k, (div-lt_iff_lt-mul pos).0 over))
          ∙ sym (le-ltb w L (omega (arith, multiple_is M k, (le-div_iff_mul-le pos).0 past)))

  -- every rank comes equally often
  pub ranks_fair : (r : ℕ) → r < k → count M (gives_rank M k r) ≡ L / k
  unfolding count
  ranks_fair r l =
      ap (λ (a : ℕ). count a (gives_rank M k r)) (omega (arith, mod-add-div' M k))
      ∙ sum_split L (M % k) (λ w. one (gives_rank M k r w))
      ∙ ap₂ (λ (a b : ℕ). a + b)
      (count_ext L (gives_rank M k r) (λ w. eqb (w % k) r) (λ w j. rw (lt-ltb w L j))
      ∙ ap (λ (a : ℕ). count a (λ w. eqb (w % k) r)) (multiple_is M k) ∙ count_remainders (M / k) k (λ x. eqb x r) ∙ rw (count_equal k r l, mul-one))
      (count_never (M % k) (λ i. gives_rank M k r (L + i)) (λ i j. rw (le-ltb (L + i) L (omega arith))))
      ∙ add-zero (M / k) ∙ sym (ap (λ (a : ℕ). a / k) (multiple_is M k) ∙ mul-div_cancel (M / k) pos)

  -- and more than half of the numbers give one
  pub most-kept : k ≤ M → M < 2 * L
  most-kept le =
      let some : 1 ≤ M / k = (le-div_iff_mul-le pos).1 (omega arith) in
      omega (arith, mod-add-div' M k, mod-lt M pos, mul-le-mul_right k some, one-mul k)
