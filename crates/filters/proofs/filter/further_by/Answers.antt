use mathlib.Core.Path.{refl, sym, ◌∙◌}
use Prim.Native.Nat.{◌-◌}
use native.Mathlib.Omega.{arith}
use borrow.Author.Tests.{lt-ltb, le-ltb}
use lib.ListN.{length, length-set}
use lib.Seq.{ext_get_or}
use Rattle.cycle.proofs.Digits.{length-tabulate, get_d_tabulate}
use Rattle.tsc.specs.Constants.{most_words, filter_words}
use Rattle.words.proofs.Words.{below_next}
use Rattle.filters.proofs.filter.further_by.Invariants.{PlaceAt}
use Rattle.filters.proofs.filter.further_by.Goals as goal

pub returns-then-m-le-FILTER_WORDS : goal.returns-then-m-le-FILTER_WORDS
returns-then-m-le-FILTER_WORDS c = simp (le-ltb filter_words c.args.m (omega arith)) refl

pub loop-j-init : goal.loop-j-init
loop-j-init c = (omega arith, omega arith, refl, omega arith, λ j l. absurd (omega arith))

pub loop-j-preserved : goal.loop-j-preserved
loop-j-preserved c = let n = c.args.n in
    let l = c.loop-j in
    (l.invariant.0, omega arith, simp length-set l.invariant.2, l.invariant.3, below_next (PlaceAt n) l.j _ l.places (omega arith) l.invariant.4 refl)

pub returns : goal.returns
returns c = let n = c.args.n in
    let l = c.loop-j in
    let more = most_words - filter_words in
    simp (lt-ltb _ _ l.invariant.3)
    (ext_get_or 0 l.places _ (l.invariant.2 ∙ sym (length-tabulate more _)) (λ j h. l.invariant.4 j (omega arith) ∙ sym (get_d_tabulate more _ j (omega arith))))
