-- A pick moves the state by as many steps as it tells words taken, and so many steps back undo it. For every input, refused or not.
use mathlib.Core.Path.{◌≡◌, refl, sym, ap, ◌∙◌}
use mathlib.Core.List.{List}
use Prim.Native.Nat.{ℕ}
use native.Mathlib.Decide.{ℕ_discrete}
use Rattle.cycle.specs.Notation.{iterate}
use Rattle.card_format.specs.Reading.{card_of}
use Rattle.draws.specs.Calls.{stepped, stepped_back}
use Rattle.draws.proofs.Draws.{draws-state, draws-undone}
use Rattle.ties.specs.Ties.{ties}
use Rattle.samples.specs.Samples.{taken}
use Rattle.picks.specs.Picks.{pick_refusal, picking, words_taken, picked}
use Rattle.picks.proofs.Picking.{pick_passed, picking-refused, picking-chosen}

module _ (bytes xs shovels times : List ℕ) where
  pub pick_steps : picked bytes xs shovels times ≡ iterate (stepped bytes) (words_taken (picking bytes xs shovels times)) xs
  unfolding iterate
  pick_steps = go (ℕ_discrete (pick_refusal bytes xs shovels times) 0)
    where
      go : Dec (pick_refusal bytes xs shovels times ≡ 0) → picked bytes xs shovels times ≡ iterate (stepped bytes) (words_taken (picking bytes xs shovels times)) xs
      go (yes z) =
          let c = picking-chosen bytes xs shovels times z in
          let t : ℕ = taken (card_of bytes) xs (ties times) in
          let told : t ≡ words_taken (picking bytes xs shovels times) = ap words_taken c.0 in
          sym c.1 ∙ sym (draws-state bytes xs (pick_passed bytes xs shovels times z).0 t) ∙ ap (λ (t : ℕ). iterate (stepped bytes) t xs) told
      go (no n) =
          let r = picking-refused bytes xs shovels times _ n refl in
          sym r.1 ∙ ap (λ (t : ℕ). iterate (stepped bytes) t xs) (ap words_taken r.0)

  pub pick_undone : iterate (stepped_back bytes) (words_taken (picking bytes xs shovels times)) (picked bytes xs shovels times) ≡ xs
  pick_undone =
      let t : ℕ = words_taken (picking bytes xs shovels times) in
      ap (iterate (stepped_back bytes) t) pick_steps ∙ draws-undone bytes xs t
