use Prim.Native.Nat.{◌^◌}
use mathlib.Core.Path.{◌≡◌, sym, ◌∙◌}
use lib.ListN.{length}
use Rattle.tsc.specs.Constants.{most_words}
use Rattle.refusals.specs.Refusals.{first_of}
use Rattle.card_format.specs.Verdict.{period_checks}
use Rattle.card_format.specs.Writing.{value_checks}
use Rattle.card_format.proofs.Writing.{range_formed}
use borrow.Author.Rules.{rules}
use Rattle.card_encode.proofs.values.value_refusal.Goals as goal

pub returns-then-not-in_range : goal.returns-then-not-in_range
unfolding value_checks first_of
returns-then-not-in_range c = simp (sym c.in_range.ensures ∙ c.if-not-in_range.true)

pub returns-then-exceeds : goal.returns-then-exceeds
unfolding value_checks first_of
returns-then-exceeds c = simp (sym c.in_range.ensures ∙ c.if-not-in_range.false, sym c.exceeds.ensures ∙ c.if-exceeds.true)

pub period_refusal-requires : goal.period_refusal-requires
period_refusal-requires c = let card = c.args.card in
    let z : length card.table ≡ 2 ^ most_words = search rules in
    let h = range_formed card z (sym c.in_range.ensures ∙ c.if-not-in_range.false) in
    (h.1, h.0.entries)

pub returns : goal.returns
unfolding value_checks period_checks first_of
returns c = c.period_refusal.ensures
    ∙ sym (simp (sym c.in_range.ensures ∙ c.if-not-in_range.false, sym c.exceeds.ensures ∙ c.if-exceeds.false))
