use mathlib.Core.Path.{◌≡◌, sym, ap, ap₂, ◌∙◌}
use mathlib.Core.Bool.{true}
use mathlib.Core.List.{List}
use Prim.Native.Nat.{ℕ, ◌^◌}
use borrow.Author.Tests.{eq-eqb, ne_eqb}
use lib.Dec.{eqb}
use lib.ListN.{get_or}
use Rattle.cycle.specs.Cycle.{first_return}
use Rattle.refusals.specs.Refusals.{first_of}
use Rattle.card_format.specs.Verdict.{period_checks}
use Rattle.card.proofs.check.period_refusal.Goals as goal
use Rattle.card.proofs.check.period_refusal.Goals.{Else-first_return-size, then-card-eq0-2-via-then-card-eq0-2, then-card-eq0-2-via-else-card-eq0-2+then-card-eq1}

-- the steps that were counted, against the entries
returned : (table : List ℕ) (m steps size : ℕ) → size ≡ 2 ^ m → steps ≡ first_return (λ y. get_or table y 0) size
    → eqb (first_return (λ y. get_or table y 0) (2 ^ m)) (2 ^ m) ≡ eqb steps size
returned table m steps size e f = sym (ap₂ eqb (f ∙ ap (first_return (λ y. get_or table y 0)) e) e)

-- past refusal 7
cycled : (c : Else-first_return-size) → let a = c.args.card.now in eqb (first_return (λ y. get_or a.table y 0) (2 ^ a.words)) (2 ^ a.words) ≡ true
cycled c = returned _ _ _ _ c.entries-size.ensures c.first_return.ensures ∙ eq-eqb _ _ c.if-first_return-size.false

pub returns-then-first_return-size : goal.returns-then-first_return-size
unfolding period_checks first_of
returns-then-first_return-size c = simp (returned _ _ _ _ c.entries-size.ensures c.first_return.ensures ∙ ne_eqb _ _ c.if-first_return-size.true)

pub returns-then-card-eq0 : goal.returns-then-card-eq0
unfolding period_checks first_of
returns-then-card-eq0 c = simp (cycled (goal.at.returns-then-card-eq0 c).Else-first_return-size, eq-eqb _ _ c.if-card-eq0.true)

pub returns-then-card-eq0-2 : goal.returns-then-card-eq0-2
unfolding period_checks first_of
returns-then-card-eq0-2 c = let cycle = cycled (goal.at.returns-then-card-eq0-2 c).Else-first_return-size in
    elim c.then-card-eq0-2.branch [
      | then-card-eq0-2-via-then-card-eq0-2 w ↦ simp (cycle, ne_eqb _ _ c.if-card-eq0.false, eq-eqb _ _ w.if-card-eq0-2.true)
      | then-card-eq0-2-via-else-card-eq0-2+then-card-eq1 w ↦
          simp (cycle, ne_eqb _ _ c.if-card-eq0.false, ne_eqb _ _ w.if-card-eq0-2.false, eq-eqb _ _ w.if-card-eq1.true)
    ]

pub returns : goal.returns
unfolding period_checks first_of
returns c = simp (
  cycled (goal.at.returns c).Else-first_return-size,
  ne_eqb _ _ c.if-card-eq0.false,
  ne_eqb _ _ c.if-card-eq0-2.false,
  ne_eqb _ _ c.if-card-eq1.false,
)
