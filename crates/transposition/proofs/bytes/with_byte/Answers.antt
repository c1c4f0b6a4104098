use mathlib.Core.Path.{◌≡◌, ap}
use Prim.Native.Nat.{ℕ, ◌+◌, ◌*◌, ◌%◌, ◌^◌, ◌<◌}
use native.Mathlib.Omega.{arith}
use Rattle.transposition.proofs.Filled.{place, with_byte_lt, bytes_fit}
use Rattle.transposition.proofs.bytes.with_byte.Goals as goal
use Rattle.transposition.proofs.bytes.with_byte.Goals.{Start}

-- the byte in its place, and what it makes
placed : (c : Start) → let a = c.args in
    a.b * 2 ^ (8 * a.k) % 2 ^ 64 ≡ a.b * 256 ^ a.k
placed c = let a = c.args in place a.b a.k (omega arith) c.requires.0

within : (c : Start) → let a = c.args in
    a.x + a.b * 256 ^ a.k < 256 ^ (a.k + 1)
within c = let a = c.args in with_byte_lt a.x a.b a.k c.requires.1 (omega arith)

pub overflow_add-result : goal.overflow_add-result
overflow_add-result c = omega (arith, placed c, within c, bytes_fit (c.args.k + 1) (omega arith))

pub returns : goal.returns
returns c = let a = c.args in
    let e : a.x + a.b * 2 ^ (8 * a.k) % 2 ^ 64 ≡ a.x + a.b * 256 ^ a.k = ap (λ (n : ℕ). a.x + n) (placed c) in
    (e, rw e (within c))
