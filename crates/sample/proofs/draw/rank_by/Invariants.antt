use Rattle.std.proofs.Common.{◌≡◌, ◌-◌}
use Rattle.tsc.specs.declared.Card.{Card}
use Rattle.stepping.specs.State.{used, Holds}
use Rattle.outputs.specs.Output.{Answers}
use Rattle.samples.specs.Samples.{most_taken}
use Rattle.sample.proofs.Passed.{Passed}
use Rattle.sample.proofs.draw.rank_by.Given as goal

abbrev pub invariant-loop-drawn : goal.invariant-loop-drawn
invariant-loop-drawn g l =
    (card : Card) → Answers card (goal.F-pre g l.next) (goal.F-post g l.next) → Holds card l.initial.held → card.width ≡ l.n
    → Passed card (used card l.initial.held) l.k l.taken l.held

abbrev pub decreases-loop-drawn : goal.decreases-loop-drawn
decreases-loop-drawn g l = most_taken - l.taken
