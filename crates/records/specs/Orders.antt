-- What a cab is told (document 02, Seven): the shovel, alone.
use Rattle.std.specs.Prelude.{◌≡◌, Bool, cond, not, List, [], ◌∷◌, ◌++◌, ℕ, eqb, Result, Ok, Err}
use Rattle.refusals.specs.Refusals.{Check, check, first_of, number, answered}
use Rattle.refusals.specs.declared.Refusal.TheVariants.{MalformedRecord, TruckMismatch}
use Rattle.records.specs.Reading.{Whole, record_checks, record_of}

-- what is looked at for the cab of a truck: 20, then 21
abbrev pub order_checks : ℕ → List ℕ → List Check
order_checks truck bytes = record_checks bytes ++ (check TruckMismatch (not (eqb truck (record_of bytes).truck)) ∷ [])

-- what it is told: the shovel, or the refusal
unfoldable pub order_for : ℕ → List ℕ → Result ℕ ℕ
order_for truck bytes = answered (first_of (order_checks truck bytes)) (record_of bytes).shovel

-- what is heard by the cab of a truck of a record that is whole or not and has this truck and shovel
abbrev pub heard : ℕ → Bool → ℕ → ℕ → Result ℕ ℕ
heard cab whole truck shovel =
    cond whole (cond (eqb cab truck) (Ok shovel) (Err (number TruckMismatch))) (Err (number MalformedRecord))

-- two whole records with the same truck and shovel: alike in all that a cab can tell records apart by
pub record SameOrder (a b : List ℕ) : Type 0 where
  pub whole_a : Whole a
  pub whole_b : Whole b
  pub truck : (record_of a).truck ≡ (record_of b).truck
  pub shovel : (record_of a).shovel ≡ (record_of b).shovel
