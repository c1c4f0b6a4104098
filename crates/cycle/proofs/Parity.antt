-- Cases on bits, and the parity of sums and products.
use mathlib.Core.Path.{◌≡◌, sym, ap, ◌∙◌}
use Prim.Native.Nat.{ℕ, zero, suc, ◌+◌, ◌*◌, ◌/◌, ◌%◌, ◌<◌}
use native.Mathlib.Nat.{add-mod}
use native.Mathlib.Omega.{arith}

pub two_pos : 0 < 2
two_pos = omega arith

pub bit_cases : (P : ℕ → Type 0) → P 0 → P 1 → (b : ℕ) → b < 2 → P b
bit_cases P p0 p1 zero l = p0
bit_cases P p0 p1 (suc zero) l = p1
bit_cases P p0 p1 (suc (suc b)) l = absurd (omega arith)

pub bits_cases : (P : ℕ → ℕ → Type 0) → P 0 0 → P 0 1 → P 1 0 → P 1 1 → (b c : ℕ) → b < 2 → c < 2 → P b c
bits_cases P p q r s b c lb lc =
    bit_cases (λ x. P x c) (bit_cases (λ y. P 0 y) p q c lc) (bit_cases (λ y. P 1 y) r s c lc) b lb

pub odd_mul : (a b : ℕ) → a % 2 ≡ 1 → (a * b) % 2 ≡ b % 2
odd_mul a b h =
    let e : a ≡ 2 * (a / 2) + 1 = omega arith in
    omega (arith, ap (λ (x : ℕ). x * b) e)

pub even_mul : (a b : ℕ) → a % 2 ≡ 0 → (a * b) % 2 ≡ 0
even_mul a b h =
    let e : a ≡ 2 * (a / 2) = omega arith in
    omega (arith, ap (λ (x : ℕ). x * b) e)

-- numbers of the same parity may stand for one another in a sum
pub add_parity : (c x y : ℕ) → x % 2 ≡ y % 2 → (c + x) % 2 ≡ (c + y) % 2
add_parity c x y h = add-mod c x 2 ∙ ap (λ (w : ℕ). (c % 2 + w) % 2) h ∙ sym (add-mod c y 2)
