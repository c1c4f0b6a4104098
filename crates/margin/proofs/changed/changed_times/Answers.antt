use Rattle.changes.specs.Change.{changed}
use Rattle.margin.proofs.Front.{front_set}
use Rattle.margin.proofs.changed.changed_times.Goals as goal

pub returns : goal.returns
unfolding changed
returns c = front_set c.args.times.now _ _ c.args.c.place _ _ c.copy_from_slice.ensures.after c.moved_by.ensures c.requires.0
