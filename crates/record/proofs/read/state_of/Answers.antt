use mathlib.Core.Path.{sym, ap}
use Prim.Native.Nat.{ℕ, ◌+◌}
use native.Mathlib.Omega.{arith}
use lib.ListN.{drop, get_or-eq_default}
use Rattle.cycle.specs.Notation.{tabulate}
use Rattle.card_format.specs.Fields.{numbers}
use Rattle.records.specs.Reading.{held_state}
use Rattle.records.specs.Fields.{word_field}
use Rattle.record.proofs.read.state_of.Goals as goal

pub returns-then-bytes-at : goal.returns-then-bytes-at
unfolding numbers tabulate
returns-then-bytes-at c = let b = c.args.bytes.now in
    let at = c.args.at in
    sym (ap (λ (m : ℕ). held_state (numbers (word_field m) (drop (at + 1) b))) (get_or-eq_default b 0 (omega arith)))
