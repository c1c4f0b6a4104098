use Rattle.std.proofs.Common.{refl, sym, ap, subst, ◌∙◌, rules, tests, ℕ, length, get_or, min, arith}
use Rattle.std.specs.List.{reduce}
use Rattle.std.specs.Option.{option_map}
use Rattle.std.proofs.lemmas.Iterator.{YieldsList-from_range, YieldsList-from_map}
use Rattle.std.proofs.lemmas.Iterator.Consumers.{min_from_yields_List}
use Rattle.std.proofs.lemmas.List.FromFn.{fill_by_all}
use Rattle.ties.specs.Least.{LeastOf}
use Rattle.ties.proofs.Least.{least-reduced}
use Rattle.places.specs.Around.{distances_around}
use Rattle.places.proofs.Distances.{length-distances}
use Rattle.map_pick.proofs.nearest.least_distance.Goals as goal

pub returns : goal.returns
returns c =
    let q = c.args.around.now in
    let n : ℕ = length q.xs.now in
    let ds = distances_around q in
    let long = length-distances q.x q.y q.xs.now q.ys.now in
    let all = fill_by_all (λ i. get_or ds i 0) ds n 0 long (λ k l. refl) in
    let least = least-reduced ds c.unwrap.result (sym (ap (option_map (λ y. y)) c.unwrap.ensures) ∙ min_from_yields_List _ _ c.min.ensures.ran
    (YieldsList-from_map _ (λ i. get_or ds i 0) (YieldsList-from_range 0 n n (cc) (omega arith)) c.map.ensures.closure (λ x r q k. search (rules, tests))) ∙ ap (reduce min) (sym all)) in
    subst (λ (k : ℕ). LeastOf ds k c.unwrap.result) long least
