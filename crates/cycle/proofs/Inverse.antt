-- Modulo a power of two: an odd number has an inverse, and a number that is not 0 has a multiple that is half of the power.
use mathlib.Core.Path.{◌≡◌, ap, ◌∙◌}
use Prim.Native.Nat.{ℕ, zero, suc, ◌+◌, ◌-◌, ◌*◌, ◌/◌, ◌%◌, ◌^◌, ◌<◌}
use native.Mathlib.Nat.{mul_assoc, mul_comm, add-mul, pow-suc}
use native.Mathlib.Decide.{dec_lt}
use native.Mathlib.Omega.{arith}

halved : (v q p : ℕ) → v ≡ q * 2 → v * p ≡ q * (p * 2)
halved v q p h = ap (λ (x : ℕ). x * p) h ∙ mul_assoc q 2 p ∙ ap (λ (x : ℕ). q * x) (mul_comm 2 p)

pub odd_inverse : (E m : ℕ) → E % 2 ≡ 1 → (u : ℕ) × (v : ℕ) × (u * E ≡ 1 + v * 2 ^ m)
odd_inverse E zero o = (1, E - 1, omega arith)
odd_inverse E (suc m) o = let r = odd_inverse E m o in go r.0 r.1 r.2 (dec_lt 0 (r.1 % 2))
  where
    go : (u v : ℕ) → u * E ≡ 1 + v * 2 ^ m → Dec (0 < v % 2) → (u : ℕ) × (v : ℕ) × (u * E ≡ 1 + v * 2 ^ suc m)
    go u v e (no q) = (u, v / 2, rw pow-suc (e ∙ ap (λ (x : ℕ). 1 + x) (halved v (v / 2) (2 ^ m) (omega arith))))
    go u v e (yes q) =
        let w : ℕ = (v + E) / 2 in
        let k : (v + E) * 2 ^ m ≡ w * (2 ^ m * 2) = halved (v + E) w (2 ^ m) (omega arith) in
        (u + 2 ^ m, w, rw pow-suc (omega (arith, e, k, add-mul u (2 ^ m) E, add-mul v E (2 ^ m), mul_comm E (2 ^ m))))

pub half-multiple : (e d : ℕ) → 0 < d → d < 2 ^ suc e → (u : ℕ) × (v : ℕ) × (u * d ≡ 2 ^ e + v * 2 ^ suc e)
half-multiple zero d pos l = (1, 0, omega arith)
half-multiple (suc e) d pos l = go (dec_lt 0 (d % 2)) (λ q. half-multiple e (d / 2) (omega arith) (omega (arith, pow-suc 2 (suc e))))
  where
    P : ℕ
    P = 2 ^ suc e

    go : Dec (0 < d % 2) → (d % 2 ≡ 0 → (u : ℕ) × (v : ℕ) × (u * (d / 2) ≡ 2 ^ e + v * P)) → (u : ℕ) × (v : ℕ) × (u * d ≡ P + v * 2 ^ suc (suc e))
    go (yes o) ih = let r = odd_inverse d (suc (suc e)) (omega arith) in (P * r.0, P * r.1, omega (arith, ap (λ (x : ℕ). P * x) r.2))
    go (no q) ih = let r = ih (omega arith) in (r.0, r.1, twice r.0 r.1 r.2)
      where
        twice : (u v : ℕ) → u * (d / 2) ≡ 2 ^ e + v * P → u * d ≡ P + v * 2 ^ suc (suc e)
        twice u v h =
            let even : d ≡ d / 2 * 2 = omega arith in
            omega (arith, ap (λ (x : ℕ). u * x) even, pow-suc 2 e, ap (λ (x : ℕ). v * x) (pow-suc 2 (suc e)))
