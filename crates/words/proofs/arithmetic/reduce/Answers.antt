use Rattle.std.proofs.Common.{ap, ◌∙◌}
use lib.Bits.{bit_and, and_mask}
use Rattle.words.specs.declared.arithmetic.Width.{Width}
use Rattle.words.proofs.arithmetic.reduce.Goals as goal

pub returns : goal.returns
returns c = ap (λ (w : Width). bit_and c.args.x w.low) c.requires.2 ∙ and_mask c.args.x c.args.w.bits
