use mathlib.Core.Path.{◌∙◌}
use mathlib.Core.List.{append-nil}
use Rattle.tries.proofs.row.words_of.Goals as goal

-- all the words lent are written over
pub returns : goal.returns
returns c = c.fill_words.ensures.words_after ∙ append-nil _
