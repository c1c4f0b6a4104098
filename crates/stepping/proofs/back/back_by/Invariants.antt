use Rattle.tsc.specs.Coverage.{step_back}
use Rattle.stepping.specs.State.{used}
use Rattle.stepping.proofs.Built.{Built}
use Rattle.stepping.proofs.back.back_by.Given as goal

abbrev pub invariant-loop-i : goal.invariant-loop-i
invariant-loop-i g l = Built (step_back l.fn.card (used l.fn.card l.s)) l.i l.found
