-- What the functions on masks do in each place.
use Rattle.std.proofs.Common.{◌≡◌, ℕ, suc, ◌+◌, ◌-◌, ◌*◌, ◌%◌, ◌^◌, ◌<◌, Bool, true, false, cond, eqb, sym, refl, ap, ◌∙◌, le_of_suc-le-suc, mul-le-mul_right, one-mul, pow-suc, zero-mul, mul-one, arith, pow_pos, pow_mono}
use native.Mathlib.Decide.{ℕ_discrete}
use lib.Bits.{bit_and, bit_xor}
use lib.Pow.{ones_lt}
use Rattle.cycle.specs.Notation.{bit}
use Rattle.cycle.proofs.Bits.{bit_lt, bit-bit_and, bit-bit_xor, bit-times, bit_ones, bit_elsewhere, bits_ext}
use Rattle.cycle.proofs.Parity.{bit_cases}

-- a bit in every place
pub bit_spread : (w b i : ℕ) → b < 2 → i < w → bit i (b * (2 ^ w - 1)) ≡ b
bit_spread w b i l h = bit-times i b (2 ^ w - 1) l ∙ ap (λ (a : ℕ). b * a) (bit_ones w i h) ∙ mul-one b

-- and the word that it makes
pub spread_is : (w b r : ℕ) → b < 2 → r < 2 ^ w → ((i : ℕ) → i < w → bit i r ≡ b) → r ≡ b * (2 ^ w - 1)
spread_is w b r l lr h = bits_ext w r (b * (2 ^ w - 1)) lr (bit_cases (λ b. b * (2 ^ w - 1) < 2 ^ w) (rw (zero-mul (2 ^ w - 1)) (pow_pos w)) (rw (one-mul (2 ^ w - 1)) (ones_lt w)) b l)
    (λ i li. h i li ∙ sym (bit_spread w b i l li))

-- a choice, by a mask and its complement
pub bit_join : (x f g i : ℕ) → bit i (bit_xor g (bit_and (bit_xor f g) x)) ≡ cond (eqb (bit i x) 1) (bit i f) (bit i g)
bit_join x f g i =
    bit-bit_xor i g (bit_and (bit_xor f g) x) ∙ ap (λ (a : ℕ). (bit i g + a) % 2) (bit-bit_and i (bit_xor f g) x ∙ ap (λ (a : ℕ). a * bit i x) (bit-bit_xor i f g))
    ∙ bit_cases (λ z. (bit i g + (bit i f + bit i g) % 2 * z) % 2 ≡ cond (eqb z 1) (bit i f) (bit i g)) (omega (arith, bit_lt i g)) (omega (arith, bit_lt i f, bit_lt i g))
    (bit i x) (bit_lt i x)

pub cond_ap : {A : Type 0} (f : A → ℕ) (b : Bool) (x y : A) → cond b (f x) (f y) ≡ f (cond b x y)
cond_ap f true x y = refl
cond_ap f false x y = refl

-- bits in place i, joined by a mask: in place i the one that the mask's bit i picks
pub joined : (w i x a b r : ℕ) → i < w → a < 2 → b < 2 → r < 2 ^ w
    → ((j : ℕ) → j < w → bit j r ≡ cond (eqb (bit j x) 1) (bit j (a * 2 ^ i)) (bit j (b * 2 ^ i))) → r ≡ cond (eqb (bit i x) 1) a b * 2 ^ i
joined w i x a b r l la lb lr h =
    bits_ext w r (picked i * 2 ^ i) lr (fits (picked i) (small i)) (λ j lj. h j lj ∙ cond_ap (λ (d : ℕ). bit j (d * 2 ^ i)) (eqb (bit j x) 1) a b ∙ go j (ℕ_discrete j i))
  where
    picked : ℕ → ℕ
    picked j = cond (eqb (bit j x) 1) a b

    either : (t : Bool) → cond t a b < 2
    either true = la
    either false = lb

    small : (j : ℕ) → picked j < 2
    small j = either (eqb (bit j x) 1)

    fits : (v : ℕ) → v < 2 → v * 2 ^ i < 2 ^ w
    fits v lv = omega (arith, mul-le-mul_right (2 ^ i) (le_of_suc-le-suc lv), one-mul (2 ^ i), pow-suc 2 i, pow_pos i, pow_mono {i = suc i} {j = w} l)

    go : (j : ℕ) → Dec (j ≡ i) → bit j (picked j * 2 ^ i) ≡ bit j (picked i * 2 ^ i)
    go j (yes e) = ap (λ (k : ℕ). bit j (picked k * 2 ^ i)) e
    go j (no ne) = bit_elsewhere i j (picked j) (small j) ne ∙ sym (bit_elsewhere i j (picked i) (small i) ne)
