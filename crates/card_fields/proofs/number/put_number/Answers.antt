use mathlib.Core.Path.{◌≡◌, sym, ap, ap₂, ◌∙◌}
use mathlib.Core.List.{List, ◌++◌}
use Prim.Native.Nat.{ℕ, ◌+◌, ◌/◌, ◌%◌, ◌^◌, ◌<◌}
use native.Mathlib.Nat.{div-div-eq-div-mul, pow-suc}
use native.Mathlib.Numerals.{add-one}
use native.Mathlib.Omega.{arith}
use lib.ListN.{get_or, set, take, drop}
use lib.Seq.{length-take-le}
use Rattle.cycle.proofs.Digits.{get_d_tabulate}
use Rattle.cycle.proofs.Lists.{over, over_suc, over_all}
use Rattle.card_fields.specs.LowBytes.{low_bytes}
use Rattle.card_fields.proofs.LowBytes.{length-low_bytes}
use Rattle.card_fields.proofs.number.put_number.Goals as goal

byte : (x size i : ℕ) → i < size → get_or (low_bytes x size) i 0 ≡ x / 256 ^ i % 256
unfolding low_bytes
byte x size i l = get_d_tabulate size _ i l

next : (x i : ℕ) → x / 256 ^ i / 256 ≡ x / 256 ^ (i + 1)
next x i = div-div-eq-div-mul x (256 ^ i) 256 ∙ ap (λ (d : ℕ). x / d) (sym (ap (λ (k : ℕ). 256 ^ k) (add-one i) ∙ pow-suc 256 i))

pub loop-byte-preserved : goal.loop-byte-preserved
loop-byte-preserved c = let l = c.loop-byte in
    let a = c.args in
    let size = length-take-le a.size a.part.now c.requires in
    let in_size : l.byte-index < a.size = omega (arith, size, c.loop-byte-test.true) in (
      ap (λ (r : ℕ). r / 256) l.invariant.0 ∙ next a.x l.byte-index,
      ap₂ (λ (p : List ℕ) (b : ℕ). set p l.byte-index b) l.invariant.1 (ap (λ (r : ℕ). r % 256) l.invariant.0 ∙ sym (byte a.x a.size l.byte-index in_size))
          ∙ over_suc (low_bytes a.x a.size) (take a.size a.part.now) l.byte-index (omega (arith, length-low_bytes a.x a.size)) (omega (arith, size)),
    )

pub returns : goal.returns
returns c = let l = c.loop-byte in
    let a = c.args in
    let size = length-take-le a.size a.part.now c.requires in
    let whole : l.byte-index ≡ a.size = omega (arith, size, c.loop-byte-test.false, l.auto.byte-index-end) in
    ap (λ (front : List ℕ). front ++ drop a.size a.part.now)
    (l.invariant.1 ∙ ap (over (low_bytes a.x a.size) (take a.size a.part.now)) whole ∙ over_all (low_bytes a.x a.size) (take a.size a.part.now) a.size (length-low_bytes a.x a.size) size)
