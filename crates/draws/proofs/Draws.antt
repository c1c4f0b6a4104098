-- Draws one after the other. From a start that a draw does not refuse: no later draw is refused, t draws leave state number t of the orbit, and the next
-- answers the word of state number t + 1. As many steps back undo them, refused ones too. So a module that steps truly once and then stands is ruled out, from every state.
use mathlib.Core.Path.{◌≡◌, refl, sym, ap, ◌∙◌}
use mathlib.Core.Logic.{◌≢◌}
use mathlib.Core.List.{List}
use Prim.Native.Nat.{ℕ, zero, suc}
use native.Mathlib.Decide.{ℕ_discrete}
use Rattle.cycle.specs.Notation.{iterate}
use Rattle.cycle.proofs.Iterate.{iterate-undone, iterate_fixed}
use Rattle.tsc.specs.Coverage.{step_back, ListsStates}
use Rattle.tsc.specs.Step.{step, orbit}
use Rattle.tsc.specs.Word.{word_at}
use Rattle.tsc.proofs.Step.{step_in_range, orbit_in_range}
use Rattle.tsc.proofs.StepBack.{back_of_step_lem}
use Rattle.tsc.proofs.Coverage.{coverage}
use Rattle.card_format.specs.Reading.{card_of}
use Rattle.card_format.proofs.Verdict.{accepted_card}
use Rattle.std.specs.Prelude.{Ok}
use Rattle.draws.specs.Calls.{refusal_for, stepped, stepped_back, drawing}
use Rattle.draws.proofs.Opening.{passed, passes, unless_refused_lem, unless_passed}
use Rattle.draws.proofs.Called.{drawing-word}

-- a step back after a step
pub back_of_stepped : (bytes xs : List ℕ) → refusal_for bytes xs ≡ 0 → stepped_back bytes (stepped bytes xs) ≡ xs
unfolding stepped stepped_back
back_of_stepped bytes xs z =
    let card = card_of bytes in
    let p = passed bytes xs z in
    let ok = accepted_card bytes p.0 in
    ap (stepped_back bytes) (sym (unless_passed bytes xs (step card xs) z))
    ∙ sym (unless_passed bytes (step card xs) (step_back card (step card xs)) (passes bytes (step card xs) p.0 (step_in_range card xs)))
    ∙ back_of_step_lem card ok.formed ok.period xs p.1

module _ (bytes start : List ℕ) (z : refusal_for bytes start ≡ 0) where
  pub never_refused : (t : ℕ) → refusal_for bytes (orbit (card_of bytes) start t) ≡ 0
  never_refused t =
      let p = passed bytes start z in
      passes bytes (orbit (card_of bytes) start t) p.0 (orbit_in_range (card_of bytes) start p.1 t)

  pub draws-state : (t : ℕ) → iterate (stepped bytes) t start ≡ orbit (card_of bytes) start t
  unfolding iterate stepped
  draws-state zero = refl
  draws-state (suc t) =
      ap (stepped bytes) (draws-state t)
      ∙ sym (unless_passed bytes (orbit (card_of bytes) start t) (orbit (card_of bytes) start (suc t)) (never_refused t))

  pub draws-word : (t : ℕ) → drawing bytes (iterate (stepped bytes) t start) ≡ Ok (word_at (card_of bytes) start t)
  unfolding iterate
  draws-word t =
      ap (drawing bytes) (draws-state t) ∙ sym (drawing-word bytes (orbit (card_of bytes) start t) _ refl (never_refused t))

  -- the orbit lists all states
  pub orbit_lists : ListsStates (card_of bytes) (orbit (card_of bytes) start)
  orbit_lists =
      let p = passed bytes start z in
      let ok = accepted_card bytes p.0 in
      ((coverage (card_of bytes) ok.formed start p.1).1 ok.period).once

  passed-undone : (t : ℕ) → iterate (stepped_back bytes) t (iterate (stepped bytes) t start) ≡ start
  passed-undone =
      iterate-undone (stepped bytes) (stepped_back bytes) start
      (λ t. back_of_stepped bytes (iterate (stepped bytes) t start) (ap (refusal_for bytes) (draws-state t) ∙ never_refused t))

-- refused ones leave the state
pub refused-state : (bytes xs : List ℕ) → refusal_for bytes xs ≢ 0 → (t : ℕ) → iterate (stepped bytes) t xs ≡ xs
unfolding stepped
refused-state bytes xs ne = iterate_fixed (stepped bytes) xs (sym (unless_refused_lem bytes xs _ ne))

-- so for every input as many steps back undo draws
pub draws-undone : (bytes xs : List ℕ) (t : ℕ) → iterate (stepped_back bytes) t (iterate (stepped bytes) t xs) ≡ xs
unfolding stepped_back
draws-undone bytes xs t = go (ℕ_discrete (refusal_for bytes xs) 0)
  where
    go : Dec (refusal_for bytes xs ≡ 0) → iterate (stepped_back bytes) t (iterate (stepped bytes) t xs) ≡ xs
    go (yes z) = passed-undone bytes xs z t
    go (no n) =
        ap (iterate (stepped_back bytes) t) (refused-state bytes xs n t) ∙ iterate_fixed (stepped_back bytes) xs (sym (unless_refused_lem bytes xs _ n)) t
