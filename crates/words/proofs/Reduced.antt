-- Widths, and the ones of n bits made of w ones, for every n and w.
use Rattle.std.proofs.Common.{◌≡◌, ℕ, ◌+◌, ◌-◌, ◌/◌, ◌^◌, ◌<◌, ◌≤◌, sym, refl, ap, ◌∙◌, arith}
use lib.Pow.{high, ones_lt, ones_split}
use Rattle.tsc.specs.Constants.{widest_width}
use Rattle.words.specs.declared.arithmetic.Width.{Width}
use Rattle.words.specs.Widths.{width_of, IsWidth}

-- what `width_of` gives is a width
pub width_is : (n : ℕ) (w : Width) → 0 < n → n ≤ widest_width → w ≡ width_of n → IsWidth w
width_is n w pos narrow e = rw e (pos, narrow, refl)

-- n ones, as `all >> (w - n)` makes them
pub ones_shifted : (n w : ℕ) → n ≤ w → (2 ^ w - 1) / 2 ^ (w - n) ≡ 2 ^ n - 1
ones_shifted n w h =
    let e : n + (w - n) ≡ w = omega arith in
    ap (λ (m : ℕ). (2 ^ m - 1) / 2 ^ (w - n)) (sym e) ∙ ap (λ (m : ℕ). m / 2 ^ (w - n)) (ones_split n (w - n)) ∙ high (2 ^ n - 1) (w - n) (ones_lt (w - n))
