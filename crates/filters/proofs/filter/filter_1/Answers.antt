use native.Mathlib.Omega.{arith}
use Rattle.tsc.specs.Word.{filter1}
use Rattle.filters.specs.Rotations.{rotations1}
use Rattle.filters.proofs.Rotated.{sum_lt, rotatable, rotated}
use Rattle.filters.proofs.filter.filter_1.Goals as goal

pub rotate_left-requires : goal.rotate_left-requires
rotate_left-requires c = rotatable c.args.t rotations1 c.requires.has_rotations _ _ (c.requires.by_index 0 (omega arith))

pub rotate_left-requires-2 : goal.rotate_left-requires-2
rotate_left-requires-2 c = rotatable c.args.t rotations1 c.requires.has_rotations _ _ (c.requires.by_index 2 (omega arith))

pub rotate_left-requires-3 : goal.rotate_left-requires-3
rotate_left-requires-3 c = rotatable c.args.t rotations1 c.requires.has_rotations _ _ (sum_lt _ _ _ _ c.add-inner.ensures)

pub returns : goal.returns
unfolding filter1
returns c = rw
    (c.add.ensures, c.rotate_left-3.ensures, c.add-inner.ensures, c.rotate_left.ensures, c.add-rest.ensures, c.rotate_left-2.ensures)
    (simp (rotated c.args.t rotations1 c.requires.has_rotations))
