-- Demand 1 at the C interface, of recorded picks, desk and cab: an answer tells the first refusal that applies, 0 where none does; and where it is not 0, its
-- other fields are 0 and what was lent is as it was.
use mathlib.Core.Path.{◌≡◌, refl, sym, ap, ◌∙◌}
use mathlib.Core.Logic.{◌≢◌}
use mathlib.Core.Bool.{cond}
use mathlib.Core.List.{List}
use Prim.Native.Nat.{ℕ}
use native.Mathlib.Decide.{ℕ_discrete}
use borrow.Author.Tests.{ne_eqb}
use lib.Dec.{eqb}
use lib.ListN.{length}
use Rattle.refusals.specs.Refusals.{first_of}
use Rattle.picks.specs.declared.Pick.{Pick}
use Rattle.picks.specs.declared.Pick.TheVariants.{Refused}
use Rattle.picks.specs.Picks.{picking}
use Rattle.std.specs.Prelude.{Result}
use Rattle.records.specs.declared.Record.{Record}
use Rattle.records.specs.Reading.{record_checks, reading_record}
use Rattle.records.specs.Orders.{order_checks, order_for}
use Rattle.recorded_picks.specs.Recorded.{recorded_refusal, recorded_picking, recorded_state, recorded_page}
use Rattle.recorded_picks.proofs.Recorded.{not_refused, call_refused}
use Rattle.c_answers.specs.Answers.{choice}
use Rattle.c_answers.specs.Records.{record_values, no_record, record_answer, order_answer, read_record, told_to}
use Rattle.c_answers.proofs.Refused.{told, pick_told}

-- the desk's answer
module _ (bytes : List ℕ) where
  pub record_told : (read_record bytes).refusal ≡ first_of (record_checks bytes)
  unfolding reading_record
  record_told = told (λ (r : Result Record ℕ). (record_answer r).refusal) (first_of (record_checks bytes)) _ _ refl refl

  pub record_refused : (read_record bytes).refusal ≢ 0 → (read_record bytes).values ≡ record_values no_record
  unfolding reading_record
  record_refused ne = rw (ne_eqb (first_of (record_checks bytes)) 0 (λ z. ne (record_told ∙ z))) refl

-- a cab's
module _ (truck : ℕ) (bytes : List ℕ) where
  pub order_told : (told_to truck bytes).refusal ≡ first_of (order_checks truck bytes)
  unfolding order_for
  order_told = told (λ (o : Result ℕ ℕ). (order_answer o).refusal) (first_of (order_checks truck bytes)) _ _ refl refl

  pub order-refused : (told_to truck bytes).refusal ≢ 0 → (told_to truck bytes).shovel ≡ 0
  unfolding order_for
  order-refused ne = rw (ne_eqb (first_of (order_checks truck bytes)) 0 (λ z. ne (order_told ∙ z))) refl

-- a recorded pick's
module _ (bytes xs shovels times : List ℕ) (truck : ℕ) (page : List ℕ) where
  abbrev answer : Pick
  answer = recorded_picking bytes xs shovels times (length page)

  pub recorded_told : (choice answer).refusal ≡ recorded_refusal bytes xs shovels times (length page)
  unfolding recorded_picking
  recorded_told = go (ℕ_discrete (recorded_refusal bytes xs shovels times (length page)) 0)
    where
      go : Dec (recorded_refusal bytes xs shovels times (length page) ≡ 0) → let r = recorded_refusal bytes xs shovels times (length page) in
          (choice (cond (eqb r 0) (picking bytes xs shovels times) (Refused r))).refusal ≡ r
      go (yes z) = rw z (pick_told bytes xs shovels times ∙ not_refused bytes xs shovels times (length page) z)
      go (no ne) = rw (ne_eqb (recorded_refusal bytes xs shovels times (length page)) 0 ne) refl

  pub recorded_zeros : recorded_refusal bytes xs shovels times (length page) ≢ 0 → let r = recorded_refusal bytes xs shovels times (length page) in
      (choice answer ≡ record { shovel = 0; ties = 0; taken = 0; refusal = r })
      × (recorded_state bytes xs shovels times (length page) ≡ xs) × (recorded_page bytes xs shovels times truck page ≡ page)
  recorded_zeros ne =
      let c = call_refused bytes xs shovels times truck page _ ne refl in
      (sym (ap choice c.0), sym c.1.0, sym c.1.1)
