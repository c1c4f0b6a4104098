use Rattle.tsc.specs.declared.Card.{Card}
use Rattle.stepping.specs.State.{Holds}
use Rattle.outputs.specs.Output.{Answers}
use Rattle.outputs.proofs.Written.{Row}
use Rattle.outputs.proofs.fill.fill_by.Given as goal

abbrev pub invariant-loop-k : goal.invariant-loop-k
invariant-loop-k g l =
    Row (λ (card : Card). Answers card (goal.F-pre g l.next) (goal.F-post g l.next) × Holds card l.initial.held) l.initial.held l.count l.initial.words l.k l.held l.words
