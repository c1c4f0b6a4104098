use native.Mathlib.Omega.{arith}
use Rattle.transposition.proofs.Filled.{repeated_bytes}
use Rattle.transposition.proofs.bytes.repeated.Goals as goal

pub returns : goal.returns
returns c = repeated_bytes c.args.b (omega arith)
