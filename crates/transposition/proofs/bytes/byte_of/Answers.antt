use mathlib.Core.Path.{ap}
use Prim.Native.Nat.{ℕ, ◌/◌, ◌%◌}
use Rattle.cycle.proofs.Digits.{pow_mul}
use Rattle.transposition.proofs.bytes.byte_of.Goals as goal

pub returns : goal.returns
returns c = ap (λ (a : ℕ). c.args.x / a % 256) (pow_mul 2 8 c.args.k)
