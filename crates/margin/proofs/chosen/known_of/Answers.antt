use mathlib.Core.Path.{refl, ap, ◌∙◌}
use Prim.Native.Nat.{ℕ}
use lib.ListN.{length}
use Rattle.cycle.specs.Notation.{first}
use Rattle.ties.specs.Ties.{has_rank}
use Rattle.tries.specs.declared.row.Ranked.{Ranked}
use Rattle.margin.proofs.chosen.known_of.Goals as goal

pub returns : goal.returns
returns c = let a = c.args in
    let place : Ranked → ℕ = λ d. first (length a.times.now) (has_rank a.shovels.now a.times.now d.rank) in record { width = refl; words = c.words_of-words.ensures; chosen = c.place_by.ensures ∙ ap place c.rank_among-drawn.ensures }
