use mathlib.Core.Path.{ap, ◌∙◌}
use Prim.Native.Nat.{◌+◌, ◌^◌}
use native.Mathlib.Nat.{mod-le}
use lib.Dec.{leb}
use Rattle.cycle.specs.Fair.{largest_multiple}
use Rattle.cycle.proofs.Remainder.{kept_test}
use Rattle.sample.proofs.draw.below_limit.Goals as goal

pub nonzero_rem-start : goal.nonzero_rem-start
nonzero_rem-start c = c.requires.1

pub overflow_sub-start : goal.overflow_sub-start
overflow_sub-start c = mod-le c.args.word c.args.k

pub word_count-requires : goal.word_count-requires
word_count-requires c = c.requires.0

pub returns : goal.returns
returns c = let a = c.args in
    ap (leb (largest_multiple a.word a.k + a.k)) c.word_count.ensures ∙ kept_test (2 ^ a.n) a.k c.requires.1 a.word
