use Rattle.std.proofs.Common.{◌≡◌, ◌≢◌, ℕ, ◌<◌, ◌≤◌, length}
use Rattle.cycle.specs.Notation.{iterate}
use Rattle.diagnosis.specs.Marks.{entry_of, marks_along}
use Rattle.diagnosis.proofs.shortest.mark_cycle.Given as goal

abbrev pub invariant-loop-steps : goal.invariant-loop-steps
invariant-loop-steps l = let f = entry_of l.table in (l.y < length l.table) × (l.y ≡ iterate f l.steps l.x) × ((j : ℕ) → 0 < j → j ≤ l.steps → iterate f j l.x ≢ l.x)
    × (l.marks ≡ marks_along f l.x l.steps l.initial.marks)
