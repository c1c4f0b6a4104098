use mathlib.Core.Path.{sym, subst}
use native.Mathlib.Omega.{arith}
use Rattle.gates.specs.Tsc1.{tsc1_card}
use Rattle.stepping.specs.State.{Holds}
use Rattle.stepping.proofs.Holding.{holds}
use Rattle.pick.proofs.Passed.{rank_made}
use Rattle.pick.proofs.ranks.tsc1_rank.Goals as goal

pub load-held-requires : goal.load-held-requires
load-held-requires c = omega (arith, c.requires.0.0)

pub draw_rank-made-requires : goal.draw_rank-made-requires
draw_rank-made-requires c = let p = c.requires in
    (subst (Holds tsc1_card) (sym c.load-held.ensures) (holds tsc1_card c.args.state.now p.0), p.1, p.2)

pub store-requires : goal.store-requires
store-requires c = omega (arith, c.requires.0.0)

pub returns : goal.returns
returns c = let both = rank_made tsc1_card c.args.state.now _ c.requires.0 c.load-held.ensures c.draw_rank-made.ensures c.store.ensures in record { drawn = both.0; after = both.1 }
