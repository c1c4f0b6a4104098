use mathlib.Core.Path.{refl, ◌∙◌}
use Prim.Native.Nat.{◌^◌}
use native.Mathlib.Omega.{arith}
use Rattle.tsc.specs.Constants.{most_words}
use Rattle.cycle.proofs.Lists.{over_zeros}
use Rattle.card_table.proofs.table.table_from.Goals as goal

pub put_entries-requires : goal.put_entries-requires
put_entries-requires c = (omega arith, omega arith, refl)

pub returns : goal.returns
returns c = let a = c.args in
    c.put_entries.ensures ∙ over_zeros a.part.now (2 ^ most_words) a.size (omega arith)
