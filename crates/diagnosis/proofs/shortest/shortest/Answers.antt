use Rattle.std.proofs.Common.{◌≡◌, ℕ, length, refl, subst, arith}
use Rattle.diagnosis.specs.Marks.{entry_of, Tried}
use Rattle.diagnosis.proofs.Tries.{tried-first, tried_all}
use Rattle.diagnosis.proofs.shortest.shortest.Goals as goal

pub loop-x-init : goal.loop-x-init
loop-x-init c = let t = c.requires.0 in
    let m = c.mark_cycle-steps in
    tried-first _ (entry_of c.args.table.now) (omega (arith, t.large)) t.fits t.below m.result _ _ refl m.ensures.steps m.ensures.after

pub returns : goal.returns
returns c = let f = entry_of c.args.table.now in
    let n = length c.args.table.now in
    let t = c.requires.0 in
    let l = c.loop-x in
    let e : l.x ≡ n = omega (arith, t.large) in
    tried_all n f (omega (arith, t.large)) t.fits t.below l.found l.marks (subst (λ (x : ℕ). Tried n f x l.found l.marks) e l.invariant)
