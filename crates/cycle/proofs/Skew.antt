-- Skew products: a map on y * K + x that moves the low part x by a map t of its own, and the high part y by a power of g whose exponent x sets.
use mathlib.Core.Path.{◌≡◌, refl, sym, ap, ap₂, ◌∙◌}
use Prim.Native.Nat.{ℕ, zero, suc, pred, ◌+◌, ◌*◌, ◌/◌, ◌%◌, ◌^◌, ◌≤◌, ◌<◌}
use native.Mathlib.Nat.{add-zero, zero-mul, suc-mul, add_comm, mul_assoc, mul_comm, add-mul, mul-add, mod-lt, div-add-mod', suc-pred-eq_of_pos, div-lt_iff_lt-mul, mul-one, mul-pos}
use native.Mathlib.Omega.{arith}
use lib.Arith.{digits_div, digits_mod, digits_lt}
use lib.Pow.{pow_pos}
use Rattle.cycle.specs.Notation.{sum, iterate}
use Rattle.cycle.specs.Cycle.{SingleCycle}
use Rattle.cycle.proofs.Iterate.{iterate_add, iterate_rounds, MapsBelow, iterate-below}
use Rattle.cycle.proofs.Cycle.{Reaches, le_of_reaches, cycle_of_return, cycle_from, sum_around}
use Rattle.cycle.proofs.Inverse.{odd_inverse}

unfoldable pub skew : ℕ → (ℕ → ℕ) → (ℕ → ℕ) → (ℕ → ℕ) → ℕ → ℕ
skew K t g e z = iterate g (e (z % K)) (z / K) * K + t (z % K)

-- the power of g that one round of the low part, from 0, comes to
unfoldable pub round_power : ℕ → (ℕ → ℕ) → (ℕ → ℕ) → ℕ
round_power K t e = sum K (λ j. e (iterate t j 0))

module _ (K : ℕ) (t g e : ℕ → ℕ) (pos : 0 < K) (below : MapsBelow K t) where
  -- the low part moves by itself
  pub skew_low : (z : ℕ) → skew K t g e z % K ≡ t (z % K)
  unfolding skew
  skew_low z = digits_mod (iterate g (e (z % K)) (z / K)) (below (z % K) (mod-lt z pos))

  pub skew_below : (Q : ℕ) → MapsBelow Q g → MapsBelow (Q * K) (skew K t g e)
  unfolding skew
  skew_below Q gb z l =
      digits_lt (iterate-below Q g gb (e (z % K)) (z / K) ((div-lt_iff_lt-mul pos).1 l)) (below (z % K) (mod-lt z pos))

  skew_at : (y x : ℕ) → x < K → skew K t g e (y * K + x) ≡ iterate g (e x) y * K + t x
  unfolding skew
  skew_at y x l = rw (digits_div y l, digits_mod y l)

  skew_iterate : (k y x : ℕ) → x < K → iterate (skew K t g e) k (y * K + x) ≡ iterate g (sum k (λ j. e (iterate t j x))) y * K + iterate t k x
  unfolding iterate sum
  skew_iterate zero y x l = refl
  skew_iterate (suc k) y x l =
      ap (skew K t g e) (skew_iterate k y x l)
      ∙ skew_at (iterate g (sum k (λ j. e (iterate t j x))) y) (iterate t k x) (iterate-below K t below k x l)
      ∙ ap (λ (a : ℕ). a * K + t (iterate t k x))
      (sym (iterate_add g (e (iterate t k x)) (sum k (λ j. e (iterate t j x))) y)
      ∙ ap (λ (b : ℕ). iterate g b y) (add_comm (e (iterate t k x)) (sum k (λ j. e (iterate t j x)))))

  -- j rounds of the low part from x
  skew_rounds_from : (x : ℕ) → x < K → iterate t K x ≡ x → (j y : ℕ)
      → iterate (skew K t g e) (j * K) (y * K + x) ≡ iterate g (j * sum K (λ i. e (iterate t i x))) y * K + x
  unfolding iterate
  skew_rounds_from x l back zero y = rw (zero-mul K, zero-mul (sum K (λ i. e (iterate t i x))))
  skew_rounds_from x l back (suc j) y =
      let E : ℕ = sum K (λ i. e (iterate t i x)) in
      rw (suc-mul j K, add_comm (j * K) K, iterate_add, skew_rounds_from x l back j y)
      (skew_iterate K (iterate g (j * E) y) x l
      ∙ ap₂ (λ (a b : ℕ). a * K + b)
      (sym (iterate_add g E (j * E) y) ∙ ap (λ (a : ℕ). iterate g a y) (add_comm E (j * E) ∙ sym (suc-mul j E))) back)

  module _ (back : iterate t K 0 ≡ 0) where
    -- and from 0
    skew_rounds : (j : ℕ) → iterate (skew K t g e) (j * K) 0 ≡ iterate g (j * round_power K t e) 0 * K
    unfolding round_power
    skew_rounds j =
        ap (iterate (skew K t g e) (j * K)) (sym (ap (λ (a : ℕ). a + 0) (zero-mul K)))
        ∙ skew_rounds_from 0 pos back j 0 ∙ add-zero (iterate g (j * round_power K t e) 0 * K)

    -- k applications into round j
    skew_into : (j k : ℕ) → iterate (skew K t g e) (k + j * K) 0 ≡ iterate g (sum k (λ i. e (iterate t i 0)) + j * round_power K t e) 0 * K + iterate t k 0
    skew_into j k =
        iterate_add (skew K t g e) k (j * K) 0
        ∙ ap (iterate (skew K t g e) k) (skew_rounds j ∙ sym (add-zero (iterate g (j * round_power K t e) 0 * K)))
        ∙ skew_iterate k (iterate g (j * round_power K t e) 0) 0 pos
        ∙ ap (λ (a : ℕ). a * K + iterate t k 0) (sym (iterate_add g (sum k (λ i. e (iterate t i 0))) (j * round_power K t e) 0))

  -- a single cycle below, and above it a single cycle of 2 ^ m numbers to an odd power a round: a single cycle
  pub skew_cycle : (m : ℕ) → SingleCycle K t 0 → SingleCycle (2 ^ m) g 0 → round_power K t e % 2 ≡ 1 → SingleCycle (2 ^ m * K) (skew K t g e) 0
  skew_cycle m c r odd =
      cycle_of_return (2 ^ m * K) (skew K t g e) 0 (mul-pos (pow_pos m) pos)
      (λ z l. go z (c.reaches (z % K) (mod-lt z pos)) (r.reaches (z / K) ((div-lt_iff_lt-mul pos).1 l)) (odd_inverse (round_power K t e) m odd))
      (skew_rounds c.returns (2 ^ m)
      ∙ ap (λ (a : ℕ). a * K)
      (ap (λ (a : ℕ). iterate g a 0) (mul_comm (2 ^ m) (round_power K t e)) ∙ iterate_rounds g (2 ^ m) 0 r.returns (round_power K t e)) ∙ zero-mul K)
    where
      go : (z : ℕ) → (k : ℕ) × (k < K) × (iterate t k 0 ≡ z % K) → (l : ℕ) × (l < 2 ^ m) × (iterate g l 0 ≡ z / K)
          → (u : ℕ) × (v : ℕ) × (u * round_power K t e ≡ 1 + v * 2 ^ m) → (n : ℕ) × (iterate (skew K t g e) n 0 ≡ z)
      go z (k, kl, kx) (l, ll, ly) (u, v, uv) =
          let E : ℕ = round_power K t e in
          let s : ℕ = sum k (λ i. e (iterate t i 0)) in
          let w : ℕ = l + pred (2 ^ m) * s in
          let j : ℕ = w * u in
          let a1 : j * E ≡ w + w * v * 2 ^ m =
          mul_assoc w u E ∙ ap (λ (a : ℕ). w * a) uv ∙ mul-add w 1 (v * 2 ^ m) ∙ ap₂ (λ (a b : ℕ). a + b) (mul-one w) (sym (mul_assoc w v (2 ^ m))) in
          let a2 : pred (2 ^ m) * s + s ≡ s * 2 ^ m =
          sym (suc-mul (pred (2 ^ m)) s) ∙ ap (λ (a : ℕ). a * s) (suc-pred-eq_of_pos (pow_pos m)) ∙ mul_comm (2 ^ m) s in
          let a3 : s + j * E ≡ l + (s + w * v) * 2 ^ m = omega (arith, a1, a2, add-mul s (w * v) (2 ^ m)) in (
            k + j * K,
            skew_into c.returns j k
                ∙ ap₂ (λ (a b : ℕ). a * K + b)
                (ap (λ (a : ℕ). iterate g a 0) a3 ∙ iterate_add g l ((s + w * v) * 2 ^ m) 0
                ∙ ap (iterate g l) (iterate_rounds g (2 ^ m) 0 r.returns (s + w * v)) ∙ ly) kx
                ∙ div-add-mod' z K,
          )

  -- an even power a round: the map returns after half of the numbers, so it does not reach all
  pub skew_even : (h : ℕ) → 0 < h → iterate t K 0 ≡ 0 → iterate g (h * 2) 0 ≡ 0 → Reaches (h * 2 * K) (skew K t g e) 0 → round_power K t e % 2 ≡ 0 → ⊥
  skew_even h hpos back gback r even =
      let E : ℕ = round_power K t e in
      let half : E ≡ 2 * (E / 2) = omega arith in
      let he : h * E ≡ E / 2 * (h * 2) = ap (λ (a : ℕ). h * a) half ∙ sym (mul_assoc h 2 (E / 2)) ∙ mul_comm (h * 2) (E / 2) in
      let b : iterate (skew K t g e) (h * K) 0 ≡ 0 =
      skew_rounds back h ∙ ap (λ (a : ℕ). a * K) (ap (λ (a : ℕ). iterate g a 0) he ∙ iterate_rounds g (h * 2) 0 gback (E / 2)) ∙ zero-mul K in
      let le : h * 2 * K ≤ h * K = le_of_reaches (h * 2 * K) (skew K t g e) 0 (h * K) r b (mul-pos hpos pos) in
      omega (arith, le, mul-pos hpos pos)

  -- single cycles below and above, an odd power a round: after half of the numbers the low part is back, and g has made half of its round
  pub skew_half : (h : ℕ) → SingleCycle K t 0 → SingleCycle (h * 2) g 0 → sum K e % 2 ≡ 1 → (y x : ℕ) → y < h * 2 → x < K
      → iterate (skew K t g e) (h * K) (y * K + x) ≡ iterate g h y * K + x
  skew_half h c r odd y x ly lx =
      let cx = cycle_from K t 0 pos c x lx in
      let q : ℕ = sum K e / 2 in
      let E : sum K (λ i. e (iterate t i x)) ≡ 1 + 2 * q = sum_around K t x pos cx below lx e ∙ omega arith in
      let hE : h * (1 + 2 * q) ≡ h + q * (h * 2) = omega arith in
      skew_rounds_from x lx cx.returns h y
      ∙ ap (λ (a : ℕ). a * K + x)
      (ap (λ (a : ℕ). iterate g a y) (ap (λ (a : ℕ). h * a) E ∙ hE) ∙ iterate_add g h (q * (h * 2)) y
      ∙ ap (iterate g h) (iterate_rounds g (h * 2) y (cycle_from (h * 2) g 0 (omega arith) r y ly).returns q))
