use native.Mathlib.Omega.{arith}
use Rattle.card_format.proofs.Fields.{one_shifted}
use Rattle.card_table.proofs.table.entries.Goals as goal

pub returns : goal.returns
returns c = one_shifted c.args.m 64 (omega arith)
