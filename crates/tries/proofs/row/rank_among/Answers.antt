use mathlib.Core.Path.{sym, ◌∙◌}
use Prim.Native.Nat.{◌-◌}
use Rattle.samples.proofs.Tried.{over_none, over_next}
use Rattle.tries.proofs.Ranks.{ranked-alone, ranked_next}
use Rattle.tries.proofs.row.rank_among.Goals as goal

pub returns-then-k-eq1 : goal.returns-then-k-eq1
returns-then-k-eq1 c = ranked-alone _ _ _ c.if-k-eq1.true

pub loop-words-init : goal.loop-words-init
loop-words-init c = over_none _

pub decides-requires : goal.decides-requires
decides-requires c = c.requires

pub loop-words-preserved : goal.loop-words-preserved
loop-words-preserved c = over_next _ _ c.loop-words.invariant (sym c.decides.ensures ∙ c.if-decides.false)

pub returns : goal.returns
returns c = ranked_next _ _ _ c.if-k-eq1.false _ c.loop-words.invariant (sym c.decides.ensures ∙ c.if-decides.true)
