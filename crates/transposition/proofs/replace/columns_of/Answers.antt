use mathlib.Core.Path.{◌≡◌}
use borrow.Author.Rules.{rules}
use lib.ListN.{length}
use Rattle.tsc.specs.Constants.{most_words}
use Rattle.transposition.proofs.Groups.{group_columns}
use Rattle.transposition.proofs.replace.columns_of.Goals as goal

pub gathered-requires : goal.gathered-requires
gathered-requires c = c.requires

pub returns : goal.returns
returns c = let a = c.args in
    let size : length a.s.words ≡ most_words = search rules in
    group_columns a.g c.gathered.result c.transpose.result a.s.words size c.gathered.ensures c.transpose.ensures
