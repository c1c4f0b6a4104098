-- A state that is the step of another: what its word asks for, and with its word it is what a step answers.
use mathlib.Core.Path.{◌≡◌, ap, ap₂, ◌∙◌}
use Prim.Native.Nat.{ℕ}
use native.Mathlib.Omega.{arith}
use Rattle.tsc.specs.declared.Card.{Card}
use Rattle.tsc.specs.declared.State.{State}
use Rattle.tsc.specs.Step.{step}
use Rattle.tsc.specs.Word.{word}
use Rattle.tsc.proofs.Step.{step_in_range}
use Rattle.card_format.specs.Verdict.{Accepted}
use Rattle.filters.specs.declared.filter.Rotations.{Rotations}
use Rattle.filters.specs.Rotations.{rotations_of, Filters}
use Rattle.stepping.specs.State.{used, holding}
use Rattle.stepping.proofs.Holding.{word-holding, holding_lt, holding-past}
use Rattle.stepping.proofs.Columns.{sized}
use Rattle.outputs.specs.declared.next.Output.{Output}
use Rattle.outputs.specs.Output.{output}

module _ (card : Card) (s after : State) (e : after ≡ holding (step card (used card s))) where
  pub after_filters : (rotations : Rotations) → Accepted card → rotations ≡ rotations_of card → Filters card rotations after
  after_filters rotations ok r =
      let next = step card (used card s) in
      let inside = step_in_range card (used card s) in
      record {
        width = ((sized card ok).0, (sized card ok).1);
        rotations = r;
        words = λ k l. rw e (holding_lt card.words card.width next inside k);
        past = λ k l. rw e (holding-past next k (omega (arith, inside.0)));
      }

  pub output-made : (w : ℕ) → w ≡ word card after.words → ◌≡◌ {A = Output} (record { state = after; word = w }) (output card (used card s))
  output-made w ew =
      ap₂ {C = Output} (λ (s : State) (w : ℕ). record { state = s; word = w }) e
      (ew ∙ ap (λ (s : State). word card s.words) e ∙ word-holding card (step card (used card s)))
