use mathlib.Core.Path.{sym}
use native.Mathlib.Omega.{arith}
use Rattle.samples.proofs.Many.{ties_fit, ties-over}
use Rattle.sample.proofs.many.ties_refusal.Goals as goal

pub word_count-requires : goal.word_count-requires
word_count-requires c = c.requires

pub returns-then-word_count-k : goal.returns-then-word_count-k
returns-then-word_count-k c = let a = c.args in sym (ties-over a.n a.k (omega (arith, c.word_count.ensures)))

pub returns : goal.returns
returns c = let a = c.args in sym (ties_fit a.n a.k (omega (arith, c.word_count.ensures)))
