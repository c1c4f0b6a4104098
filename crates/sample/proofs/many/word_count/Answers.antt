use native.Mathlib.Omega.{arith}
use Rattle.card_format.proofs.Fields.{one_shifted}
use Rattle.sample.proofs.many.word_count.Goals as goal

pub returns : goal.returns
returns c = one_shifted c.args.n 64 (omega arith)
