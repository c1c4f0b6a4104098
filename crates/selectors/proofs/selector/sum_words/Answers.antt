use Rattle.std.proofs.Common.{◌≡◌, ℕ, ◌+◌, ◌-◌, ◌%◌, ◌^◌, List, length, get_or, sym, ap, ◌∙◌, arith, w32, Fits, rules}
use lib.Bits.{bit_and}
use Rattle.tsc.specs.Constants.{most_words, widest_width}
use Rattle.tsc.specs.Selector.{sum_words}
use Rattle.words.proofs.Words.{words_from, words-past}
use Rattle.selectors.proofs.Masked.{sum_next}
use Rattle.selectors.proofs.selector.sum_words.Goals as goal

pub loop-k-init : goal.loop-k-init
unfolding sum_words
loop-k-init c = let a = c.args in
    let four : length a.s.words ≡ most_words = search rules in (
      omega arith,
      c.requires,
      four,
      λ m few absent. ap (λ (l : List ℕ). sum_words l % 2 ^ widest_width) (sym (words-past a.count m a.s.words few (omega arith))),
    )

pub loop-k-preserved : goal.loop-k-preserved
loop-k-preserved c = let a = c.args in
    let ws = a.s.words in
    let l = c.loop-k in
    let mask = get_or a.t.absent (l.k - 1) 0 in
    let fits : (k : ℕ) → Fits w32 (get_or ws k 0) = search rules in (
      omega arith,
      l.invariant.1,
      l.invariant.2,
      λ m few absent.
          c.wrapping_add_u32-sum.ensures.value
          ∙ ap (λ (t : ℕ). (bit_and (get_or ws (l.k - 1) 0) ((2 ^ widest_width - 1) - mask) + t) % 2 ^ widest_width) (l.invariant.3 m few absent)
          ∙ sum_next 32 m ws (omega arith) l.k (omega arith) (fits (l.k - 1)).fits mask (absent (l.k - 1) (omega arith)),
    )

pub returns : goal.returns
returns c m few absent = let a = c.args in
    let l = c.loop-k in
    let e : l.k ≡ 0 = omega arith in
    l.invariant.3 m few absent ∙ ap (λ (k : ℕ). sum_words (words_from k m a.s.words) % 2 ^ widest_width) e
