use mathlib.Core.Path.{◌≡◌, sym, ap, ◌∙◌, subst}
use mathlib.Core.List.{List, ◌++◌}
use Prim.Native.Nat.{ℕ, suc, ◌+◌, ◌-◌}
use native.Mathlib.Omega.{arith}
use lib.ListN.{get_or, set, drop}
use lib.Seq.{take_all}
use Rattle.cycle.proofs.Bits.{bit_lt}
use Rattle.cycle.proofs.Lists.{over, over_suc}
use Rattle.bit_counts.specs.Bits.{word_bits, digit, text}
use Rattle.bit_tally.specs.declared.tally.Tally.{Tally}
use Rattle.bit_tally.specs.Tally.{with_bit, tallied, HasRoom}
use Rattle.bit_tally.proofs.Room.{room-bit}
use Rattle.bit_tally.proofs.Text.{length-word_text, digit_at, bit_next, no_bits}
use Rattle.bit_tally.proofs.count.put_word.Goals as goal

pub loop-i-preserved : goal.loop-i-preserved
loop-i-preserved c = let l = c.loop-i in
    let a = c.args in
    let p = l.invariant in
    let b = c.bit_of-bit.ensures in
    let h = c.loop-i-test.true in
    let s = text (word_bits a.n a.word) in
    let size = length-word_text a.n a.word in
    let t = c.with_bit-tally.ensures ∙ ap (with_bit l.tally) b in
    let less : a.n - l.i ≡ suc (a.n - (l.i + 1)) = omega arith in
    record {
      narrow = p.narrow;
      room = p.room;
      bits = subst (λ (t : Tally). HasRoom t (a.n - (l.i + 1))) (sym t)
          (room-bit l.tally _ (a.n - (l.i + 1)) (bit_lt (a.n - 1 - l.i) a.word) (subst (HasRoom l.tally) less p.bits));
      counted = ap (λ (t : Tally). tallied t (word_bits (a.n - (l.i + 1)) a.word)) t ∙ bit_next l.tally a.n a.word l.i h ∙ p.counted;
      page = ap (λ (x : ℕ). set l.part l.i x) (c.digit_of.ensures ∙ ap digit b ∙ digit_at a.n a.word l.i h)
          ∙ ap (λ (d : List ℕ). set d l.i (get_or s l.i 0)) p.page
          ∙ over_suc s a.part.now l.i (omega (arith, size)) (omega (arith, p.room));
    }

pub returns : goal.returns
returns c = let l = c.loop-i in
    let a = c.args in
    let p = l.invariant in
    let s = text (word_bits a.n a.word) in
    let size = length-word_text a.n a.word in
    let all : l.i ≡ a.n = omega arith in
    record {
      counted = sym (no_bits l.tally (a.n - l.i) a.word (omega arith)) ∙ p.counted;
      page = p.page ∙ ap (over s a.part.now) all ∙ ap (λ (w : List ℕ). w ++ drop a.n a.part.now) (take_all a.n s (omega (arith, size)));
    }
