use Rattle.tie_others.specs.Others.{IsOthers}
use Rattle.tie_others.proofs.others.others_of.Given as goal

abbrev pub invariant-loop-j : goal.invariant-loop-j
invariant-loop-j l = IsOthers l.shovels l.times l.i l.y l.j l.o
