use mathlib.Core.Path.{sym, subst}
use Prim.Native.Nat.{◌≤◌}
use native.Mathlib.Omega.{arith}
use lib.ListN.{length}
use Rattle.tsc.specs.declared.Card.{Card}
use Rattle.tsc.specs.Constants.{most_words}
use Rattle.tsc.specs.Coverage.{IsState}
use Rattle.stepping.specs.State.{Holds}
use Rattle.stepping.proofs.Holding.{holds}
use Rattle.pick.proofs.Passed.{rank_made}
use Rattle.pick.proofs.ranks.draw_rank.Goals as goal
use Rattle.pick.proofs.ranks.draw_rank.Goals.{Start}

-- the words lent are no more than a state has
few : (s : Start) → length s.args.state.now ≤ most_words
few s = omega (arith, s.requires.2.0, s.requires.0.few)

pub tsc1_rank-requires : goal.tsc1_rank-requires
tsc1_rank-requires c = let p = c.requires in
    (subst (λ (d : Card). IsState d c.args.state.now) (p.1 c.if-is_tsc1.true) p.2, p.3, p.4)

pub returns-then-is_tsc1 : goal.returns-then-is_tsc1
returns-then-is_tsc1 c = rw (c.requires.1 c.if-is_tsc1.true) (record { drawn = c.tsc1_rank.ensures.drawn; after = c.tsc1_rank.ensures.after })

pub load-held-requires : goal.load-held-requires
load-held-requires c = few (goal.at.load-held-requires c).Start

pub draw_rank-drawn-requires : goal.draw_rank-drawn-requires
draw_rank-drawn-requires c = let p = c.requires in
    (p.0, subst (Holds c.args.card) (sym c.load-held.ensures) (holds c.args.card c.args.state.now p.2), p.3, p.4)

pub store-requires : goal.store-requires
store-requires c = few (goal.at.store-requires c).Start

pub returns : goal.returns
returns c = let both = rank_made c.args.card c.args.state.now _ c.requires.2 c.load-held.ensures c.draw_rank-drawn.ensures c.store.ensures in record { drawn = both.0; after = both.1 }
