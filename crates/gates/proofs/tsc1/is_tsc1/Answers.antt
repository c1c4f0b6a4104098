use Rattle.std.proofs.Common.{length, sym, ap, true≢false}
use Rattle.gates.proofs.GateStep.{one_zero}
use Rattle.gates.proofs.tsc1.is_tsc1.Goals as goal

pub returns-then-card-ne1 : goal.returns-then-card-ne1
returns-then-card-ne1 c = (λ e. absurd (true≢false (sym e)), λ e. absurd (c.if-card-ne1.true (ap length e)))

pub returns : goal.returns
returns c = one_zero _ c.if-card-ne1.false
