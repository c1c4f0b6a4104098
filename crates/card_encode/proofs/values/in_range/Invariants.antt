use mathlib.Core.Path.{◌≡◌}
use mathlib.Core.Bool.{true}
use Rattle.cycle.specs.Notation.{every}
use Rattle.card_format.specs.Fields.{field, allowed}
use Rattle.card_format.specs.Writing.{numbers_of}
use Rattle.card_encode.proofs.values.in_range.Given as goal

abbrev pub invariant-loop-k : goal.invariant-loop-k
invariant-loop-k l = every l.k (λ j. allowed (field l.card.words j) (numbers_of l.card j)) ≡ true
