use Rattle.std.proofs.Common.{◌≡◌, true}
use Rattle.outcomes.specs.Elsewhere.{elsewhere}
use Rattle.candidates.specs.Best.{BestOf}
use Rattle.candidates.proofs.search.least_change.Given as goal

abbrev pub invariant-loop-i : goal.invariant-loop-i
invariant-loop-i l = BestOf l.shovels l.times (λ ys. elsewhere l.known l.shovels ys ≡ true) l.i l.best
