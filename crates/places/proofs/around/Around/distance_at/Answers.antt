use Rattle.std.proofs.Common.{rules, arith}
use Rattle.places.proofs.Distances.{distance_is}
use Rattle.places.proofs.Places.{truck-mapped, shovel-mapped}
use Rattle.places.proofs.around.Around.distance_at.Goals as goal

pub squared_distance-requires : goal.squared_distance-requires
squared_distance-requires c = let a = c.args.self.now in
    let m = c.requires.0 in
    let t = truck-mapped a.x a.y a.xs.now a.ys.now m.mapped in
    let h = shovel-mapped a.x a.y a.xs.now a.ys.now m.mapped c.args.i c.requires.1 (omega (arith, m.even, c.requires.1)) in
    search (rules, t, h)

pub returns : goal.returns
returns c = let a = c.args.self.now in
    let e = distance_is a.x a.y a.xs.now a.ys.now c.args.i c.requires.1 in search (rules, e)
