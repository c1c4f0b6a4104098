use mathlib.Core.Path.{◌≡◌, sym, ap, ap₂, ◌∙◌}
use mathlib.Core.List.{List, ◌++◌}
use Prim.Native.Nat.{ℕ, ◌-◌, ◌<◌}
use native.Mathlib.Omega.{arith}
use lib.ListN.{set, replicate, take, drop}
use lib.Seq.{length-take-le}
use Rattle.tsc.specs.declared.State.{State}
use Rattle.tsc.specs.Constants.{most_words}
use Rattle.card_format.specs.Fields.{numbers}
use Rattle.cycle.proofs.Lists.{over, over_suc, over_all, drop-replicate}
use Rattle.records.specs.Fields.{word_field}
use Rattle.record.proofs.Words.{length-words, word_bytes}
use Rattle.record.proofs.read.state_from.Goals as goal

pub loop-k-preserved : goal.loop-k-preserved
loop-k-preserved c = let l = c.loop-k in
    let a = c.args in
    let part = a.part.now in
    let xs = numbers (word_field a.m) part in
    let size = length-take-le {A = ℕ} a.m (replicate most_words 0) (omega arith) in
    let in_size : l.k < a.m = omega (arith, size) in
    let word = c.word_at.ensures ∙ word_bytes a.m part l.k in_size in (
      omega arith,
      omega arith,
      ap₂ (λ (ws : List ℕ) (x : ℕ). set ws l.k x) l.invariant.2 word
          ∙ over_suc xs (take a.m (replicate most_words 0)) l.k (omega (arith, length-words a.m part)) (omega (arith, size)),
    )

pub returns : goal.returns
returns c = let l = c.loop-k in
    let a = c.args in
    let zeros = replicate most_words 0 in
    let xs = numbers (word_field a.m) a.part.now in
    let n = length-words a.m a.part.now in
    let size = length-take-le {A = ℕ} a.m zeros (omega arith) in
    let all : l.k ≡ a.m = omega (arith, size) in
    ap {B = State} (λ (w : List ℕ). record { words = w })
    (ap (λ (front : List ℕ). front ++ drop a.m zeros) (l.invariant.2 ∙ ap (over xs (take a.m zeros)) all ∙ over_all xs (take a.m zeros) a.m n size)
    ∙ ap (λ (r : List ℕ). xs ++ r) (drop-replicate most_words a.m 0 ∙ ap (λ (m : ℕ). replicate (most_words - m) 0) (sym n)))
