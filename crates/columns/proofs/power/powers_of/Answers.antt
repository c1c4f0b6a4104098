use mathlib.Core.Path.{◌≡◌, refl}
use Prim.Native.Nat.{ℕ, ◌+◌, ◌^◌, ◌<◌}
use native.Mathlib.Omega.{arith}
use Rattle.cycle.specs.Notation.{iterate}
use Rattle.tsc.specs.Constants.{most_words}
use Rattle.columns.proofs.Powers.{stands, stands-few, stands_next, along_none, along_next, along_all}
use Rattle.columns.proofs.power.powers_of.Goals as goal
use Rattle.columns.proofs.power.powers_of.Goals.{At-loop}

-- x, y and z are entries of the table
few : (c : At-loop) (j : ℕ) {e : ℕ} → e ≡ stands c.args.table.now j → e < 2 ^ most_words
few c j e = rw e (stands-few c.args.m c.args.table.now c.requires.2 c.requires.1 j)

few-x : (c : At-loop) → c.loop.x < 2 ^ most_words
few-x c = few c c.loop.counter c.loop.invariant.2

few-y : (c : At-loop) → c.loop.y < 2 ^ most_words
few-y c = few c (c.args.odd + c.loop.counter) c.loop.invariant.3.0

few-z : (c : At-loop) → c.loop.z < 2 ^ most_words
few-z c = few c (c.args.even + c.loop.counter) c.loop.invariant.4.0

pub entry_after-y-requires : goal.entry_after-y-requires
entry_after-y-requires c = c.requires

pub entry_after-z-requires : goal.entry_after-z-requires
entry_after-z-requires c = c.requires

pub entries-end-requires : goal.entries-end-requires
entries-end-requires c = c.requires.1

pub loop-init : goal.loop-init
unfolding iterate
loop-init c = let a = c.args in (
  c.entries-end.ensures,
  omega arith,
  refl,
  along_none a.m a.table.now a.odd c.entry_after-y.ensures,
  along_none a.m a.table.now a.even c.entry_after-z.ensures,
)

pub overflow_cast-p : goal.overflow_cast-p
overflow_cast-p c = omega (arith, few-x (goal.at.overflow_cast-p c).At-loop)

pub bounds-p-x : goal.bounds-p-x
bounds-p-x c = few-x (goal.at.bounds-p-x c).At-loop

pub overflow_cast-p-in-loop : goal.overflow_cast-p-in-loop
overflow_cast-p-in-loop c = omega (arith, few-x (goal.at.overflow_cast-p-in-loop c).At-loop)

pub bounds-p-x-in-loop : goal.bounds-p-x-in-loop
bounds-p-x-in-loop c = few-x (goal.at.bounds-p-x-in-loop c).At-loop

pub overflow_cast-x : goal.overflow_cast-x
overflow_cast-x c = omega (arith, few-x (goal.at.overflow_cast-x c).At-loop)

pub bounds-table-x : goal.bounds-table-x
bounds-table-x c = few-x (goal.at.bounds-table-x c).At-loop

pub overflow_cast-y : goal.overflow_cast-y
overflow_cast-y c = omega (arith, few-y (goal.at.overflow_cast-y c).At-loop)

pub bounds-table-y : goal.bounds-table-y
bounds-table-y c = few-y (goal.at.bounds-table-y c).At-loop

pub overflow_cast-z : goal.overflow_cast-z
overflow_cast-z c = omega (arith, few-z (goal.at.overflow_cast-z c).At-loop)

pub bounds-table-z : goal.bounds-table-z
bounds-table-z c = few-z (goal.at.bounds-table-z c).At-loop

pub loop-preserved : goal.loop-preserved
loop-preserved c = let l = c.loop in
    let a = c.args in (
      l.invariant.0,
      omega arith,
      stands_next a.table.now l.counter l.invariant.2,
      along_next a.m a.table.now c.requires.2 c.requires.1 a.odd l.counter l.p.odd l.invariant.2 l.invariant.3,
      along_next a.m a.table.now c.requires.2 c.requires.1 a.even l.counter l.p.even l.invariant.2 l.invariant.4,
    )

pub returns : goal.returns
returns c = let l = c.loop in
    let a = c.args in
    let e : l.counter ≡ 2 ^ a.m = omega arith in (
      along_all a.m a.table.now a.odd l.counter l.p.odd c.requires.2 e l.invariant.3,
      along_all a.m a.table.now a.even l.counter l.p.even c.requires.2 e l.invariant.4,
    )
