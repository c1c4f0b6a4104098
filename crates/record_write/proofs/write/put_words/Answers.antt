use mathlib.Core.Path.{◌≡◌, sym, ap, ap₂, ◌∙◌}
use mathlib.Core.List.{List, ◌++◌}
use Prim.Native.Nat.{ℕ, ◌+◌, ◌-◌, ◌*◌}
use native.Mathlib.Omega.{arith}
use lib.ListN.{length, drop, take-append-drop}
use lib.Seq.{take_all, drop-drop}
use Rattle.std.proofs.lemmas.Slice.{take-put_mid, drop-put_mid}
use Rattle.card_format.specs.Fields.{bytes_of}
use Rattle.records.specs.Fields.{word_field}
use Rattle.record_write.proofs.Bytes.{length-bytes, bytes_next}
use Rattle.record_write.proofs.write.put_words.Goals as goal

pub loop-k-preserved : goal.loop-k-preserved
loop-k-preserved c = let l = c.loop-k in
    let xs = c.args.words.now in
    let at = 4 * l.k in
    let four = c.copy_from_slice.new.self in
    let next : at + 4 ≡ 4 * (l.k + 1) = omega arith in
    record {
      room = omega arith;
      front = take-put_mid at (at + 4 - at) l.part four (4 * (l.k + 1)) (omega arith) (omega arith)
          ∙ ap₂ (λ (a b : List ℕ). a ++ b) l.invariant.front (c.copy_from_slice.ensures.after ∙ c.to_le_bytes.ensures) ∙ bytes_next xs l.k (omega arith);
      rest = drop-put_mid at (at + 4 - at) l.part four (4 * (l.k + 1)) (omega arith) (omega arith) (omega arith)
          ∙ ap (λ (n : ℕ). drop n l.part) (sym next) ∙ sym (drop-drop 4 at l.part) ∙ ap (drop 4) l.invariant.rest
          ∙ drop-drop 4 at c.args.part.now ∙ ap (λ (n : ℕ). drop n c.args.part.now) next;
    }

pub returns : goal.returns
returns c = let l = c.loop-k in
    let xs = c.args.words.now in
    let b = bytes_of (word_field (length xs)) xs in
    let e : l.k ≡ length xs = omega arith in
    sym (take-append-drop (4 * l.k) l.part) ∙ ap₂ (λ (a b : List ℕ). a ++ b) (l.invariant.front ∙ take_all (4 * l.k) b (omega (arith, length-bytes xs))) l.invariant.rest
    ∙ ap (λ (k : ℕ). b ++ drop (4 * k) c.args.part.now) e
