use Rattle.std.proofs.Common.{◌∙◌, arith}
use Rattle.tie_list.proofs.Twice.{repeats-any}
use Rattle.tie_list.proofs.check.repeats_at.Goals as goal

pub returns : goal.returns
returns c = c.contains.ensures.value ∙ repeats-any c.args.shovels.now c.args.i (omega (arith, c.requires))
