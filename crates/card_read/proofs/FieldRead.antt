-- A field's reader uses bytes of its part alone.
use mathlib.Core.Path.{◌≡◌, ap}
use mathlib.Core.List.{List}
use Prim.Native.Nat.{ℕ, ◌≤◌}
use native.Mathlib.Omega.{arith}
use borrow.Author.Tests.{ltb-false}
use lib.ListN.{length}
use Rattle.std.specs.Prelude.{Result, Ok, Err}
use Rattle.refusals.specs.declared.Refusal.{Refusal}
use Rattle.refusals.specs.Refusals.{number, numbered, first_of, NoneApplies}
use Rattle.refusals.proofs.Refusals.{none_first}
use Rattle.refusals.proofs.Answers.{of_value, of_refusal}
use Rattle.card_format.specs.Fields.{Field, extent}
use Rattle.card_format.specs.Reading.{part_checks}
use Rattle.card_values.specs.declared.values.Values.{Values}
use Rattle.card_values.specs.FieldRead.{field_refusal, field_values, field_read}

-- a field that nothing refuses has its bytes
pub part_long : (f : Field) (part : List ℕ) → first_of (part_checks f part) ≡ 0 → extent f ≤ length part
unfolding part_checks NoneApplies
part_long f part e = ltb-false (length part) (extent f) (none_first (part_checks f part) e).0

-- a value that a field's reader answers: nothing is refused, and it is the one defined
pub field_found : (k : ℕ) (part : List ℕ) (v out : Values) {a : Result Values Refusal} → numbered a ≡ field_read k part v → a ≡ Ok out
    → (field_refusal k part v ≡ 0) × (out ≡ field_values k part v)
unfolding field_read
field_found k part v out h e = of_value _ _ h e

-- and a refusal: it is the first of the field's checks
pub field_refused : (k : ℕ) (part : List ℕ) (v : Values) (e : Refusal) {a : Result Values Refusal} → numbered a ≡ field_read k part v → a ≡ Err e
    → field_refusal k part v ≡ number e
unfolding field_read
field_refused k part v e h q = of_refusal _ (field_values k part v) h q

-- a field's reader uses bytes of the part alone
pub used-fits : (k : ℕ) (part : List ℕ) (v out : Values) {a : Result Values Refusal} → numbered a ≡ field_read k part v → a ≡ Ok out → out.used ≤ length part
used-fits k part v out h e =
    let found = field_found k part v out h e in
    omega (arith, ap (λ (v : Values). v.used) found.1, part_long _ part found.0)
