use mathlib.Core.Path.{◌≡◌, refl, sym, ◌∙◌}
use mathlib.Core.List.{List}
use Prim.Native.Nat.{ℕ, zero, suc, ◌+◌, ◌*◌, ◌≤◌, ◌<◌}
use native.Mathlib.Nat.{le_of_eq}
use native.Mathlib.Omega.{arith}
use lib.Dec.{lit<}
use lib.ListN.{length, get_or}
use Rattle.cycle.specs.Notation.{bit}
use Rattle.cycle.proofs.Bits.{bit_lt}
use Rattle.records.proofs.Reading.{reading_torn}
use Rattle.record_form.proofs.Places.{state_at, Known}
use Rattle.record.proofs.Assembled.{assembled}
use Rattle.record.proofs.Tested.{whole, facts}
use Rattle.record.proofs.read.read_record.Goals as goal

-- the state's field ends within the record
within : (bytes : List ℕ) (at : ℕ) → Known bytes → at ≡ state_at bytes → at < length bytes → at + 1 + 4 * get_or bytes at 0 ≤ length bytes
within bytes at k e l = rw e (go (bit 4 (get_or bytes 0 0)) refl (bit_lt 4 (get_or bytes 0 0)))
  where
    go : (d : ℕ) → bit 4 (get_or bytes 0 0) ≡ d → d < 2 → state_at bytes + 1 + 4 * get_or bytes (state_at bytes) 0 ≤ length bytes
    go zero z h = absurd (omega (arith, k.none z))
    go (suc zero) o h = le_of_eq (k.ends o)
    go (suc (suc d)) x h = absurd (omega arith)

pub returns-then-not-is_whole : goal.returns-then-not-is_whole
returns-then-not-is_whole c = sym (reading_torn _ (sym c.is_whole.ensures ∙ c.if-not-is_whole.true))

pub bounds-bytes-0 : goal.bounds-bytes-0
bounds-bytes-0 c = omega (arith, (facts _ c.is_whole.ensures c.if-not-is_whole.false).long)

pub state_of-requires : goal.state_of-requires
state_of-requires c = let k = facts _ c.is_whole.ensures c.if-not-is_whole.false in
    let b = c.args.bytes.now in
    let e = c.state_at-at.ensures in
    (rw e k.few, within b _ k e)

pub half_at-requires : goal.half_at-requires
half_at-requires c = omega (arith, (facts _ c.is_whole.ensures c.if-not-is_whole.false).long)

pub half_at-requires-2 : goal.half_at-requires-2
half_at-requires-2 c = omega (arith, (facts _ c.is_whole.ensures c.if-not-is_whole.false).long)

pub optional_at-requires : goal.optional_at-requires
optional_at-requires c = (lit< tt, λ o. omega (arith, (facts _ c.is_whole.ensures c.if-not-is_whole.false).long))

pub optional_at-requires-2 : goal.optional_at-requires-2
optional_at-requires-2 c = (lit< tt, λ o. omega (arith, (facts _ c.is_whole.ensures c.if-not-is_whole.false).long, c.taken_at.ensures))

pub optional_at-requires-3 : goal.optional_at-requires-3
optional_at-requires-3 c = (lit< tt, λ o. omega (arith, (facts _ c.is_whole.ensures c.if-not-is_whole.false).ends o, c.state_at-at.ensures))

pub returns : goal.returns
returns c = assembled c.args.bytes.now (whole _ c.is_whole.ensures c.if-not-is_whole.false) c.half_at.ensures c.half_at-2.ensures c.optional_at.ensures
    c.taken_at.ensures c.optional_at-2.ensures c.state_at-at.ensures c.optional_at-3.ensures c.state_of.ensures
