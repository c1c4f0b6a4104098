use mathlib.Core.Path.{subst}
use Prim.Native.Nat.{ℕ}
use Rattle.columns.specs.Replace.{IsPowerOf}
use Rattle.stepping.proofs.back.backward.Goals as goal

pub undoing-odd_undone-requires : goal.undoing-odd_undone-requires
undoing-odd_undone-requires c = (c.requires.0, c.requires.1)

pub undoing-even_undone-requires : goal.undoing-even_undone-requires
undoing-even_undone-requires c = (c.requires.0, c.requires.1)

pub powers_of-requires : goal.powers_of-requires
powers_of-requires c = c.requires

pub returns : goal.returns
returns c = let a = c.args in
    let p = c.powers_of.result in (
      subst (λ (k : ℕ). IsPowerOf a.m a.table.now k p.odd) c.undoing-odd_undone.ensures c.powers_of.ensures.0,
      subst (λ (k : ℕ). IsPowerOf a.m a.table.now k p.even) c.undoing-even_undone.ensures c.powers_of.ensures.1,
    )
