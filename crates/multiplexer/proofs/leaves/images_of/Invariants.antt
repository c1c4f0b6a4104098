use mathlib.Core.Path.{◌≡◌}
use Prim.Native.Nat.{◌*◌, ◌^◌, ◌≤◌}
use lib.ListN.{length}
use Rattle.columns.specs.Few.{few_words}
use Rattle.words.proofs.Words.{Below}
use Rattle.multiplexer.proofs.Picked.{ImageAt}
use Rattle.multiplexer.proofs.leaves.images_of.Given as goal

abbrev pub invariant-loop-c : goal.invariant-loop-c
invariant-loop-c l = (l.c ≤ 2 ^ few_words) × (length l.out ≡ 2 * 2 ^ few_words) × Below (ImageAt l.powers.odd l.powers.even) (2 * l.c) l.out
