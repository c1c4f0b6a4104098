use Rattle.std.proofs.Common.{◌≡◌, ℕ, ◌-◌, length, get_or, sym, ap, ◌∙◌, arith, w32, Fits, rules}
use lib.Bits.{bit_and, bit_or}
use Rattle.tsc.specs.Constants.{most_words}
use Rattle.tsc.specs.Selector.{and_words}
use Rattle.words.specs.declared.arithmetic.Width.{Width}
use Rattle.words.proofs.Words.{words_from, words-past}
use Rattle.selectors.proofs.Masked.{and_next}
use Rattle.selectors.proofs.selector.and_words.Goals as goal

pub loop-k-init : goal.loop-k-init
unfolding and_words
loop-k-init c = let a = c.args in
    let four : length a.s.words ≡ most_words = search rules in (
      omega arith,
      c.requires.1,
      four,
      λ m few absent. ap (λ (w : Width). w.low) c.requires.0.2 ∙ ap (and_words a.t.width.bits) (sym (words-past a.count m a.s.words few (omega arith))),
    )

pub loop-k-preserved : goal.loop-k-preserved
loop-k-preserved c = let a = c.args in
    let ws = a.s.words in
    let l = c.loop-k in
    let fits : (k : ℕ) → Fits w32 (get_or ws k 0) = search rules in (
      omega arith,
      l.invariant.1,
      l.invariant.2,
      λ m few absent.
          ap (bit_and (bit_or (get_or ws (l.k - 1) 0) (get_or a.t.absent (l.k - 1) 0))) (l.invariant.3 m few absent)
          ∙ and_next 32 m ws (omega arith) l.k (omega arith) (fits (l.k - 1)).fits _ (absent (l.k - 1) (omega arith)) a.t.width.bits c.requires.0.1,
    )

pub returns : goal.returns
returns c m few absent = let a = c.args in
    let l = c.loop-k in
    let e : l.k ≡ 0 = omega arith in
    l.invariant.3 m few absent ∙ ap (λ (k : ℕ). and_words a.t.width.bits (words_from k m a.s.words)) e
