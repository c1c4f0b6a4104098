use mathlib.Core.Path.{refl}
use Prim.Native.Nat.{ℕ}
use native.Mathlib.Omega.{arith}
use mir.Val.{Fits}
use mir.Syntax.{w32}
use borrow.Author.Rules.{rules}
use lib.ListN.{get_or}
use Rattle.tsc.specs.Word.{filter1}
use Rattle.outputs.proofs.tsc1.word_of.Goals as goal
use Rattle.outputs.proofs.tsc1.word_of.Goals.{Start}

-- the words of a state are of 32 bits
fits : (c : Start) (k : ℕ) → Fits w32 (get_or c.args.s.words k 0)
fits c = search rules

pub rotate_left-requires : goal.rotate_left-requires
rotate_left-requires c = ((omega arith, omega arith, refl), (fits (goal.at.rotate_left-requires c).Start 0).fits, omega arith)

pub add-inner-requires : goal.add-inner-requires
add-inner-requires c = (omega arith, omega arith, refl)

pub rotate_left-requires-2 : goal.rotate_left-requires-2
rotate_left-requires-2 c = ((omega arith, omega arith, refl), (fits (goal.at.rotate_left-requires-2 c).Start 2).fits, omega arith)

pub add-rest-requires : goal.add-rest-requires
add-rest-requires c = (omega arith, omega arith, refl)

pub add-requires : goal.add-requires
add-requires c = (omega arith, omega arith, refl)

pub returns : goal.returns
unfolding filter1
returns c = rw (c.add.ensures, c.rotate_left-3.ensures, c.add-inner.ensures, c.rotate_left.ensures, c.add-rest.ensures, c.rotate_left-2.ensures) refl
