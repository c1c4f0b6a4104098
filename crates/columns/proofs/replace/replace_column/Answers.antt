use mathlib.Core.Path.{◌≡◌}
use Prim.Native.Nat.{◌^◌, ◌<◌}
use borrow.Author.Rules.{rules}
use lib.ListN.{length}
use Rattle.tsc.specs.Constants.{most_words}
use Rattle.columns.proofs.Placed.{column-few}
use Rattle.columns.proofs.replace.replace_column.Goals as goal
use Rattle.columns.proofs.replace.replace_column.Goals.{After-column_of-c}

-- the column is an entry of the table
few : (c : After-column_of-c) → c.column_of-c.result < 2 ^ most_words
few c =
    let a = c.args in
    let four : length a.s.words ≡ most_words = search rules in
    rw c.column_of-c.ensures (column-few a.i 0 a.count a.s.words c.requires.i_lt_widest_width.1 four)

pub bounds-powers-c : goal.bounds-powers-c
bounds-powers-c c = few (goal.at.bounds-powers-c c).After-column_of-c

pub bounds-powers-c-2 : goal.bounds-powers-c-2
bounds-powers-c-2 c = few (goal.at.bounds-powers-c-2 c).After-column_of-c
