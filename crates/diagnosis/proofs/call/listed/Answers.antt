use Rattle.std.proofs.Common.{refl, sym, ap, ◌∙◌, arith}
use Rattle.cycle.specs.Notation.{one}
use Rattle.cycle.proofs.Count.{count_none, counted_next}
use Rattle.completions.specs.Sets.{members_from}
use Rattle.diagnoses.specs.BadPlaces.{most_places}
use Rattle.diagnosis.specs.Marks.{marked}
use Rattle.diagnosis.proofs.Listing.{room, listed_marked, listed_passed}
use Rattle.diagnosis.proofs.call.listed.Goals as goal
use Rattle.diagnosis.proofs.call.listed.Goals.{then-marked, else-marked}

pub loop-x-init : goal.loop-x-init
unfolding members_from
loop-x-init c = (sym (count_none _), refl)

pub bounds-places-count : goal.bounds-places-count
bounds-places-count c = omega (arith, c.loop-x.invariant.0, room most_places (marked c.args.marks.now) c.loop-x.x _ c.loop-x-test.true c.requires.1 c.if-marked.true)

pub overflow_add-count : goal.overflow_add-count
overflow_add-count c = omega (arith, c.loop-x.invariant.0, room most_places (marked c.args.marks.now) c.loop-x.x _ c.loop-x-test.true c.requires.1 c.if-marked.true)

pub loop-x-preserved : goal.loop-x-preserved
loop-x-preserved c =
    let P = marked c.args.marks.now in
    let l = c.loop-x in
    elim c.if-marked.branch [
      | then-marked w ↦ (
        w.count-is ∙ counted_next l.x P l.invariant.0 (sym (ap one w.if-marked.true)),
        w.places-is ∙ listed_marked most_places P l.x l.places l.count l.invariant.1 l.invariant.0 w.if-marked.true
            (omega (arith, l.invariant.0, room most_places P l.x _ c.loop-x-test.true c.requires.1 w.if-marked.true)),
      )
      | else-marked w ↦ (
        omega (arith, w.count-is, counted_next l.x P l.invariant.0 (sym (ap one w.if-marked.false))),
        w.places-is ∙ listed_passed most_places P l.x l.places l.invariant.1 w.if-marked.false,
      )
    ]
