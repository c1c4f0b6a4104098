use mathlib.Core.Path.{◌≡◌}
use mathlib.Core.List.{List, ◌++◌}
use Prim.Native.Nat.{ℕ, ◌≤◌}
use lib.ListN.{length, drop}
use Rattle.tsc.specs.declared.Card.{Card}
use Rattle.card_format.specs.Fields.{field_count}
use Rattle.card_format.specs.Writing.{written_to}
use Rattle.card_format.proofs.Writing.{length_to}
use Rattle.card_encode.proofs.put.put_card.Given as goal

-- the fields before field k are written to the front of d
abbrev pub Front : Card → List ℕ → List ℕ → ℕ → ℕ → Type 0
Front card d page at k = (k ≤ field_count) × (at ≡ length_to card k) × (page ≡ written_to card k ++ drop at d) × (length_to card field_count ≤ length d)

abbrev pub invariant-loop-k : goal.invariant-loop-k
invariant-loop-k l = Front l.card l.initial.page l.page l.at l.k
