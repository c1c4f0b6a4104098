use mathlib.Core.Path.{sym, ◌∙◌}
use Prim.Native.Nat.{◌^◌, ◌≤◌}
use native.Mathlib.Omega.{arith}
use borrow.Author.Tests.{le-ltb, lt-leb}
use lib.Dec.{leb}
use lib.Pow.{pow_mono}
use Rattle.card_fields.proofs.field.exceeds.Goals as goal

pub returns-else-width-lt32 : goal.returns-else-width-lt32
returns-else-width-lt32 c = let p : 2 ^ 32 ≤ 2 ^ c.args.width = pow_mono c.if-width-lt32.false in
    le-ltb c.args.width 32 c.if-width-lt32.false ∙ sym (lt-leb (2 ^ c.args.width) c.args.constant (omega arith))
