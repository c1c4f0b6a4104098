-- The table of a card is a single cycle exactly where the first return from 0 to 0 comes after 2^m applications.
use mathlib.Core.Path.{◌≡◌}
use mathlib.Core.Logic.{◌↔◌}
use Prim.Native.Nat.{◌^◌}
use lib.Pow.{pow_pos}
use Rattle.cycle.specs.Cycle.{SingleCycle, first_return}
use Rattle.cycle.proofs.Iterate.{MapsBelow}
use Rattle.cycle.proofs.FirstReturn.{first_return_cycle}
use Rattle.tsc.specs.declared.Card.{Card}
use Rattle.tsc.specs.Step.{entry}
use Rattle.tsc.specs.Coverage.{WellFormed}

-- of any table with allowed entries
pub table_below : (card : Card) → MapsBelow (2 ^ card.words) (entry card) → (first_return (entry card) (2 ^ card.words) ≡ 2 ^ card.words) ↔ SingleCycle (2 ^ card.words) (entry card) 0
table_below card below = first_return_cycle (entry card) (2 ^ card.words) (pow_pos card.words) below

pub table_cycle : (card : Card) → WellFormed card → (first_return (entry card) (2 ^ card.words) ≡ 2 ^ card.words) ↔ SingleCycle (2 ^ card.words) (entry card) 0
table_cycle card wf = table_below card wf.entries
