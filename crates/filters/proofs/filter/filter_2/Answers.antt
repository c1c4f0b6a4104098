use native.Mathlib.Omega.{arith}
use Rattle.tsc.specs.Word.{filter2}
use Rattle.filters.specs.Rotations.{rotations2}
use Rattle.filters.proofs.Rotated.{sum_lt, rotatable, rotated}
use Rattle.filters.proofs.filter.filter_2.Goals as goal

pub rotate_left-requires : goal.rotate_left-requires
rotate_left-requires c = rotatable c.args.t rotations2 c.requires.has_rotations _ _ (c.requires.by_index 0 (omega arith))

pub rotate_left-requires-2 : goal.rotate_left-requires-2
rotate_left-requires-2 c = rotatable c.args.t rotations2 c.requires.has_rotations _ _ (c.requires.by_index 0 (omega arith))

pub rotate_left-requires-3 : goal.rotate_left-requires-3
rotate_left-requires-3 c = rotatable c.args.t rotations2 c.requires.has_rotations _ _ (c.requires.by_index 0 (omega arith))

pub rotate_left-requires-4 : goal.rotate_left-requires-4
rotate_left-requires-4 c = rotatable c.args.t rotations2 c.requires.has_rotations _ _ (sum_lt _ _ _ _ c.add-first.ensures)

pub rotate_left-requires-5 : goal.rotate_left-requires-5
rotate_left-requires-5 c = rotatable c.args.t rotations2 c.requires.has_rotations _ _ (sum_lt _ _ _ _ c.add-second.ensures)

pub returns : goal.returns
unfolding filter2
returns c = rw (
  c.add-2.ensures,
  c.add.ensures,
  c.rotate_left-5.ensures,
  c.rotate_left-4.ensures,
  c.add-first.ensures,
  c.rotate_left.ensures,
  c.add-second.ensures,
  c.rotate_left-2.ensures,
  c.add-rest.ensures,
  c.rotate_left-3.ensures,
)
    (simp (rotated c.args.t rotations2 c.requires.has_rotations))
