use mathlib.Core.Path.{◌≡◌, sym, ap, ap₂, ◌∙◌}
use Prim.Native.Nat.{ℕ, ◌+◌, ◌*◌, ◌%◌, ◌<◌}
use native.Mathlib.Omega.{arith}
use lib.Dec.{eqb}
use lib.ListN.{length, get_or}
use Rattle.cycle.specs.Notation.{bit}
use Rattle.cycle.proofs.Bits.{bit_lt}
use Rattle.record_form.proofs.Places.{state_at, not_low, not_high, whole_none, too_few, too_many, whole_counted}
use Rattle.record_form.proofs.form.is_whole.Goals as goal
use Rattle.record_form.proofs.form.is_whole.Goals.{After-bit_of, After-byte_at-m, Else-bit_of-eq0, Else-map-gt31}

-- past the first two tests the map has its lowest bits, and no high one
low : (c : Else-map-gt31) → get_or c.args.bytes.now 0 0 % 4 ≡ 3
low c = sym (ap (λ (v : ℕ). v % 4) c.byte_at-map.ensures) ∙ c.if-map-ne3.false

high : (c : Else-map-gt31) → get_or c.args.bytes.now 0 0 < 32
high c = omega (arith, c.byte_at-map.ensures, c.if-map-gt31.false)

-- where the state stands, and its bit
at-is : (c : After-bit_of) → c.state_at-at.result ≡ state_at c.args.bytes.now
at-is c = c.state_at-at.ensures ∙ ap (λ (v : ℕ). 5 + bit 2 v + bit 3 v) c.byte_at-map.ensures

bit_is : (c : After-bit_of) → c.bit_of.result ≡ bit 4 (get_or c.args.bytes.now 0 0)
bit_is c = c.bit_of.ensures ∙ ap (bit 4) c.byte_at-map.ensures

-- past the third test it stands, and the count is its first byte
stands : (c : Else-bit_of-eq0) → bit 4 (get_or c.args.bytes.now 0 0) ≡ 1
stands c = omega (arith, (c.bit_of.ensures ∙ ap (bit 4) c.byte_at-map.ensures), c.if-bit_of-eq0.false, bit_lt 4 (get_or c.args.bytes.now 0 0))

count_is : (c : After-byte_at-m) → let b = c.args.bytes.now in c.byte_at-m.result ≡ get_or b (state_at b) 0
count_is c = c.byte_at-m.ensures ∙ ap (λ (i : ℕ). get_or c.args.bytes.now i 0) ((c.state_at-at.ensures ∙ ap (λ (v : ℕ). 5 + bit 2 v + bit 3 v) c.byte_at-map.ensures))

pub returns-then-map-ne3 : goal.returns-then-map-ne3
returns-then-map-ne3 c = sym (not_low _ (λ e. c.if-map-ne3.true (ap (λ (v : ℕ). v % 4) c.byte_at-map.ensures ∙ e)))

pub returns-then-map-gt31 : goal.returns-then-map-gt31
returns-then-map-gt31 c = sym (not_high _ (omega (arith, c.byte_at-map.ensures, c.if-map-gt31.true)))

pub returns-then-bit_of-eq0 : goal.returns-then-bit_of-eq0
returns-then-bit_of-eq0 c = ap (eqb (length c.args.bytes.now)) (at-is (goal.at.returns-then-bit_of-eq0 c).After-bit_of) ∙ sym (whole_none _ (low (goal.at.returns-then-bit_of-eq0 c).Else-map-gt31) (high (goal.at.returns-then-bit_of-eq0 c).Else-map-gt31) (sym (bit_is (goal.at.returns-then-bit_of-eq0 c).After-bit_of) ∙ c.if-bit_of-eq0.true))

pub returns-then-m : goal.returns-then-m
returns-then-m c = sym (too_few _ (low (goal.at.returns-then-m c).Else-map-gt31) (high (goal.at.returns-then-m c).Else-map-gt31) (stands (goal.at.returns-then-m c).Else-bit_of-eq0) (omega (arith, count_is (goal.at.returns-then-m c).After-byte_at-m, c.if-m.true)))

pub returns-then-m-gt-MOST_WORDS : goal.returns-then-m-gt-MOST_WORDS
returns-then-m-gt-MOST_WORDS c = sym (too_many _ (low (goal.at.returns-then-m-gt-MOST_WORDS c).Else-map-gt31) (high (goal.at.returns-then-m-gt-MOST_WORDS c).Else-map-gt31) (stands (goal.at.returns-then-m-gt-MOST_WORDS c).Else-bit_of-eq0) (omega (arith, count_is (goal.at.returns-then-m-gt-MOST_WORDS c).After-byte_at-m, c.if-m-gt-MOST_WORDS.true)))

pub returns : goal.returns
returns c = ap₂ (λ (a m : ℕ). eqb (length c.args.bytes.now) (a + 1 + 4 * m)) (at-is (goal.at.returns c).After-bit_of) (count_is (goal.at.returns c).After-byte_at-m)
    ∙ sym (whole_counted _ (low (goal.at.returns c).Else-map-gt31) (high (goal.at.returns c).Else-map-gt31) (stands (goal.at.returns c).Else-bit_of-eq0) (omega (arith, count_is (goal.at.returns c).After-byte_at-m, c.if-m.false)) (omega (arith, count_is (goal.at.returns c).After-byte_at-m, c.if-m-gt-MOST_WORDS.false)))
