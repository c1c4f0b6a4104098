use Rattle.std.proofs.Common.{refl, ap, ◌∙◌, eq-eqb, ne_eqb}
use Rattle.words.specs.declared.arithmetic.Width.{Width}
use Rattle.selectors.proofs.selector.terms_of.Goals as goal

pub returns-then-card-eq1 : goal.returns-then-card-eq1
returns-then-card-eq1 c = let width = c.width_of-width.ensures in
    record {
      words = refl;
      width = width;
      absent = c.absent_words-absent.ensures;
      constant = refl;
      doubled = ap (λ (w : Width). w.low) width ∙ simp (eq-eqb _ _ c.if-card-eq1.true) refl;
    }

pub returns-else-card-eq1 : goal.returns-else-card-eq1
returns-else-card-eq1 c = record {
  words = refl;
  width = c.width_of-width.ensures;
  absent = c.absent_words-absent.ensures;
  constant = refl;
  doubled = simp (ne_eqb _ _ c.if-card-eq1.false) refl;
}
