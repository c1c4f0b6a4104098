use mathlib.Core.Path.{◌≡◌, sym}
use borrow.Author.Rules.{rules}
use native.Mathlib.Omega.{arith}
use lib.ListN.{length, take}
use lib.Seq.{length-take-le}
use Rattle.tsc.specs.Constants.{most_words}
use Rattle.recorded_pick.proofs.Page.{left-tie, left-none}
use Rattle.recorded_pick.proofs.call.record_tie.Goals as goal
use Rattle.recorded_pick.proofs.call.record_tie.Goals.{Start}

-- the words that are recorded
sized : (s : Start) → length s.args.held.words ≡ most_words
sized s = search rules

counted : (s : Start) → length (take s.args.m s.args.held.words) ≡ s.args.m
counted s = length-take-le s.args.m s.args.held.words (omega (arith, sized s, s.requires.0))

pub slice_bounds-put_record-end : goal.slice_bounds-put_record-end
slice_bounds-put_record-end c = sym (counted (goal.at.slice_bounds-put_record-end c).Start)

pub put_record-requires : goal.put_record-requires
put_record-requires c = (omega (arith, counted (goal.at.put_record-requires c).Start, c.requires.0), omega (arith, counted (goal.at.put_record-requires c).Start, c.requires.1))

pub returns-then-ties-ne1 : goal.returns-then-ties-ne1
returns-then-ties-ne1 c = let a = c.args in
    left-tie a.truck (take a.m a.held.words) a.page.now c.in-Shovel.is c.if-ties-ne1.true c.put_record.ensures

pub returns-else-ties-ne1 : goal.returns-else-ties-ne1
returns-else-ties-ne1 c = let a = c.args in
    left-none a.truck (take a.m a.held.words) a.page.now c.in-Shovel.is c.if-ties-ne1.false
