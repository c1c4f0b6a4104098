use mathlib.Core.Path.{ap}
use Prim.Native.Nat.{ℕ, ◌-◌}
use native.Mathlib.Omega.{arith}
use lib.ListN.{get_or}
use Rattle.transposition.specs.Matrix.{byte}
use Rattle.transposition.proofs.Filled.{filled_none, filled_next}
use Rattle.transposition.proofs.replace.images_of.Goals as goal

pub loop-i-init : goal.loop-i-init
loop-i-init c = let a = c.args in (omega arith, filled_none (λ i. get_or a.table.now (byte i a.q) 0))

pub with_byte-r-requires : goal.with_byte-r-requires
with_byte-r-requires c = (omega arith, c.loop-i.invariant.1.0)

pub loop-i-preserved : goal.loop-i-preserved
loop-i-preserved c = let a = c.args in
    let l = c.loop-i in
    let image : ℕ → ℕ = λ n. get_or a.table.now n 0 in
    let b = c.byte_of in
    let next = filled_next l.i (λ i. image (byte i a.q)) l.r (image b.result) c.with_byte-r.result c.with_byte-r.ensures (ap image b.ensures) l.invariant.1 in
    (omega arith, next)

pub returns : goal.returns
returns c k h = c.loop-i.invariant.1.1 k (omega arith)
