use Rattle.std.proofs.Common.{arith}
use Rattle.diagnosis.proofs.Tries.{tried-passed, tried-kept, tried_better}
use Rattle.diagnosis.proofs.shortest.try_place.Goals as goal

pub returns-then-marks-x : goal.returns-then-marks-x
returns-then-marks-x c = let a = c.args in
    let (t, inj, l, tried) = c.requires in
    tried-passed _ _ (omega arith) t.fits t.below a.x l a.found a.marks.now tried inj c.if-marks-x.true

pub returns-then-found-steps : goal.returns-then-found-steps
returns-then-found-steps c = let a = c.args in
    let (t, inj, l, tried) = c.requires in
    let m = c.mark_cycle-steps in
    tried-kept _ _ (omega arith) t.fits t.below a.x l a.found a.marks.now tried m.result _ m.ensures.steps m.ensures.after c.if-found-steps.true

pub returns : goal.returns
returns c = let a = c.args in
    let (t, inj, l, tried) = c.requires in
    let m = c.mark_cycle-steps in
    tried_better _ _ (omega arith) t.fits t.below a.x l a.found a.marks.now tried m.result _ m.ensures.steps m.ensures.after c.if-found-steps.false
