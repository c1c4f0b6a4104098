use mathlib.Core.Path.{ap, ◌∙◌}
use native.Mathlib.Omega.{arith}
use Rattle.ties.specs.Ties.{chosen}
use Rattle.ties.proofs.Least.{ties-some, ties_le}
use Rattle.tries.specs.declared.row.Ranked.{Ranked}
use Rattle.tries.specs.Tries.{ranked}
use Rattle.margin.proofs.chosen.pick_by.Goals as goal

pub overflow_cast-k : goal.overflow_cast-k
overflow_cast-k c = omega (arith, c.ties_of-k.ensures, ties_le c.args.times.now, c.requires.3)

pub rank_among-drawn-requires : goal.rank_among-drawn-requires
rank_among-drawn-requires c = (c.requires.0, rw c.ties_of-k.ensures (ties-some c.args.times.now c.requires.2))

pub returns : goal.returns
returns c = let a = c.args in
    let k = c.ties_of-k.ensures in
    let e = c.rank_among-drawn.ensures ∙ ap (ranked a.known.width a.known.words) k in record {
      shovel = c.chosen_by.ensures ∙ ap (λ (d : Ranked). chosen a.shovels.now a.times.now d.rank) e;
      ties = k;
      taken = ap (λ (d : Ranked). d.taken) e;
    }
