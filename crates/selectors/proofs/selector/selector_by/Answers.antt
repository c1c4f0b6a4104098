use Rattle.std.proofs.Common.{ℕ, ◌+◌, ◌%◌, ◌^◌, ◌≤◌, eqb, take, ap, ◌∙◌, ap₂, arith}
use lib.Bits.{bit_and, bit_xor}
use Rattle.tsc.specs.Constants.{widest_width}
use Rattle.tsc.specs.Selector.{and_words, sum_words, selector}
use Rattle.tsc.specs.Word.{◌⊞◌}
use Rattle.words.specs.declared.arithmetic.Width.{Width}
use Rattle.selectors.proofs.Masked.{doubled-sum}
use Rattle.selectors.proofs.selector.selector_by.Goals as goal

pub and_words-p-requires : goal.and_words-p-requires
and_words-p-requires c = c.requires

pub sum_words-sum-requires : goal.sum_words-sum-requires
sum_words-sum-requires c = c.requires.1

pub add-requires : goal.add-requires
add-requires c = c.requires.0

pub returns : goal.returns
unfolding selector ◌⊞◌
returns c card terms few = let m = card.words in
    let n = card.width in
    let ws = c.args.s.words in
    let bits = ap (λ (w : Width). w.bits) terms.width in
    let narrow : n ≤ widest_width = omega (arith, c.requires.0.1) in
    let p = c.and_words-p.ensures m few terms.absent ∙ ap (λ (w : Width). and_words w.bits (take m ws)) terms.width in
    let moved = c.add.ensures ∙ ap₂ (λ (w : Width) (p : ℕ). (p + c.args.t.constant) % 2 ^ w.bits) terms.width p
    ∙ ap (λ (C : ℕ). (and_words n (take m ws) + C) % 2 ^ n) terms.constant in
    let total = c.sum_words-sum.ensures m few terms.absent in
    let twice = c.wrapping_add_u32.ensures.value ∙ ap (λ (t : ℕ). (t + t) % 2 ^ 32) total in
    ap₂ bit_xor (ap₂ bit_xor moved p)
    (ap₂ bit_and twice terms.doubled ∙ doubled-sum 32 n (sum_words (take m ws)) (eqb card.sum_term 1) narrow)
