use mathlib.Core.Path.{◌≡◌, ap, ◌∙◌}
use Prim.Native.Nat.{ℕ, ◌/◌, ◌^◌}
use native.Mathlib.Nat.{div-one}
use native.Mathlib.Omega.{arith}
use borrow.Author.Rules.{rules}
use lib.ListN.{length, take}
use Rattle.tsc.specs.Constants.{most_words}
use Rattle.words.proofs.Words.{words_from, words-none}
use Rattle.columns.specs.Few.{few_words}
use Rattle.minterms.proofs.Parted.{holds, holds-none, holds_next}
use Rattle.minterms.proofs.minterm.minterm_of.Goals as goal

pub loop-k-init : goal.loop-k-init
loop-k-init c = let a = c.args in
    let four : length a.s.words ≡ most_words = search rules in
    (omega arith, four, λ i l. holds-none few_words a.low a.c _ (words-none few_words a.s.words (omega arith)) c.requires i)

pub loop-k-preserved : goal.loop-k-preserved
loop-k-preserved c = let a = c.args in
    let l = c.loop-k in (
      omega arith,
      l.invariant.1,
      λ i h.
          holds_next 32 few_words a.low a.c l.t c.spread.result l.k a.s.words (omega arith) (omega arith) (omega arith)
          (omega (arith, c.spread.type_inv)) i h (l.invariant.2 i h) (c.spread.ensures i h),
    )

pub returns : goal.returns
returns c i h = let a = c.args in
    let l = c.loop-k in
    let ws = a.s.words in
    let e : l.k ≡ 0 = omega arith in
    l.invariant.2 i h ∙ ap (λ (k : ℕ). holds a.low (a.c / 2 ^ k) (words_from k few_words ws) i) e
    ∙ ap (λ (d : ℕ). holds a.low d (take few_words ws) i) (div-one a.c)
