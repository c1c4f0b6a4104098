use mathlib.Core.Path.{◌≡◌}
use Rattle.card_format.specs.Writing.{map_to}
use Rattle.card_format.proofs.Writing.{length_to}
use Rattle.card_encode.proofs.put.outline_of.Given as goal

abbrev pub invariant-loop-k : goal.invariant-loop-k
invariant-loop-k l = (l.o.map ≡ map_to l.card l.k) × (l.o.length ≡ length_to l.card l.k)
