use mathlib.Core.Path.{ap, ◌∙◌}
use Prim.Native.Nat.{ℕ, ◌*◌, ◌/◌, ◌^◌, ◌<◌}
use native.Mathlib.Nat.{lt_of_le_of_lt, mul-le-mul_right, mod-eq_of_lt}
use lib.Bits.{bit_xor, and_le_r}
use Rattle.cycle.specs.Notation.{bit}
use Rattle.transposition.proofs.Exchange.{differing, bit_exchange}
use Rattle.transposition.proofs.matrix.exchange.Goals as goal

pub returns : goal.returns
returns c j = let a = c.args in
    let t = differing a.places a.mask a.x in
    let small : t * 2 ^ a.places < 2 ^ 64 = lt_of_le_of_lt (mul-le-mul_right (2 ^ a.places) (and_le_r (bit_xor a.x (a.x / 2 ^ a.places)) a.mask)) c.requires.1 in
    ap (λ (b : ℕ). bit j (bit_xor (bit_xor a.x t) b)) (mod-eq_of_lt small) ∙ bit_exchange a.places a.mask a.x c.requires.2 j
