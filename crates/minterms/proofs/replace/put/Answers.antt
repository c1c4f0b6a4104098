use mathlib.Core.Path.{◌≡◌, refl, ap₂, ◌∙◌, subst}
use mathlib.Core.Bool.{cond}
use Prim.Native.Nat.{ℕ}
use native.Mathlib.Omega.{arith}
use borrow.Author.Rules.{rules}
use lib.Dec.{eqb}
use lib.ListN.{length-set}
use lib.Seq.{get_or-set_other}
use Rattle.cycle.specs.Notation.{bit}
use Rattle.words.specs.Masks.{HasBits}
use Rattle.columns.specs.Few.{few_words}
use Rattle.columns.specs.Replace.{HasColumns}
use Rattle.words.proofs.Words.{below_next}
use Rattle.minterms.proofs.Parted.{bit_put}
use Rattle.words.proofs.Masks.{cond_ap}
use Rattle.minterms.proofs.replace.put.Invariants.{column_put}
use Rattle.minterms.proofs.replace.put.Goals as goal

pub loop-k-init : goal.loop-k-init
loop-k-init c = (omega arith, search rules, search rules, (λ k l. absurd (omega arith)), λ j l. refl)

pub loop-k-preserved : goal.loop-k-preserved
loop-k-preserved c = let a = c.args in
    let l = c.loop-k in (
      omega arith,
      l.invariant.1,
      simp length-set l.invariant.2,
      below_next (λ k v. HasBits v (λ i. bit k (column_put a.s a.t a.selector a.odd a.even i))) l.k _ l.out.words (omega arith) l.invariant.3 (λ i h.
          let selected = eqb (bit i a.selector) 1 in
          bit_put l.k a.t c.join.result (cond selected a.odd a.even) a.s.words i
          (c.join.ensures i h ∙ ap₂ (cond selected) (c.spread-odd_bits.ensures i h) (c.spread-even_bits.ensures i h)
          ∙ cond_ap (bit l.k) selected a.odd a.even)),
      λ j h. get_or-set_other l.out.words l.k j _ 0 (λ e. omega arith) ∙ l.invariant.4 j h,
    )

pub returns : goal.returns
returns c = let a = c.args in
    let l = c.loop-k in
    let e : l.k ≡ few_words = omega arith in record { has_columns = subst (λ (k : ℕ). HasColumns k l.out.words (column_put a.s a.t a.selector a.odd a.even)) e l.invariant.3; by_index = l.invariant.4 }
