use mathlib.Core.Path.{refl}
use native.Mathlib.Omega.{arith}
use Rattle.transposition.proofs.Exchange.{transposed}
use Rattle.transposition.proofs.matrix.transpose.Goals as goal

pub exchange-y-requires : goal.exchange-y-requires
exchange-y-requires c = (omega arith, omega arith, refl)

pub exchange-z-requires : goal.exchange-z-requires
exchange-z-requires c = (omega arith, omega arith, refl)

pub exchange-requires : goal.exchange-requires
exchange-requires c = (omega arith, omega arith, refl)

pub returns : goal.returns
returns c = transposed c.args.x c.exchange-y.result c.exchange-z.result c.exchange.result c.exchange-y.ensures c.exchange-z.ensures c.exchange.ensures
