-- The step (document 002, 12) and the orbit (3), which document 01 calls the walk. Both cover every card, also one that the check turns down.
use Rattle.std.specs.Prelude.{cond, List, ℕ, eqb, get_or}
use Rattle.cycle.specs.Notation.{iterate, bit}
use Rattle.tsc.specs.declared.Card.{Card}
use Rattle.tsc.specs.Columns.{column, from_columns}
use Rattle.tsc.specs.Selector.{selector}

-- S: the table as a function
abbrev pub entry : Card → ℕ → ℕ
entry card y = get_or card.table y 0

-- a where the selector bit is 1, b where it is 0
abbrev pub power : Card → ℕ → ℕ
power card s = cond (eqb s 1) card.odd_power card.even_power

-- document 002 (12): each column is put through the table, as often as its selector bit says
unfoldable pub step : Card → List ℕ → List ℕ
step card xs = from_columns card.words card.width (λ i. iterate (entry card) (power card (bit i (selector card xs))) (column i xs))

-- document 002 (3): number t of the orbit from a state
abbrev pub orbit : Card → List ℕ → ℕ → List ℕ
orbit card start t = iterate (step card) t start
