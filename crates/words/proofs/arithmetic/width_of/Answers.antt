use Rattle.std.proofs.Common.{ℕ, ap}
use Rattle.words.specs.declared.arithmetic.Width.{Width}
use Rattle.words.proofs.Reduced.{ones_shifted}
use Rattle.words.proofs.arithmetic.width_of.Goals as goal

pub returns : goal.returns
returns c = ap {B = Width} (λ (x : ℕ). record { bits = c.args.n; low = x }) (ones_shifted c.args.n 32 c.requires.1)
