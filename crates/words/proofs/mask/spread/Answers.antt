use Rattle.std.proofs.Common.{ℕ, ◌*◌, ap, ◌∙◌}
use Rattle.cycle.specs.Notation.{bit}
use Rattle.cycle.proofs.Bits.{bit_lt}
use Rattle.words.proofs.Masks.{bit_spread}
use Rattle.words.proofs.mask.spread.Goals as goal

pub returns : goal.returns
returns c i l = let a = c.args in
    ap (λ (b : ℕ). bit i (b * 0xffffffff)) c.bit_of.ensures ∙ bit_spread 32 (bit a.k a.x) i (bit_lt a.k a.x) l
