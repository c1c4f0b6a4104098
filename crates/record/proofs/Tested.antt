-- What holds of the bytes of a record past the test whether they are one.
use mathlib.Core.Path.{◌≡◌, sym, ◌∙◌}
use mathlib.Core.Bool.{Bool, true}
use mathlib.Core.List.{List}
use Prim.Native.Nat.{ℕ}
use Rattle.records.specs.Reading.{is_whole, Whole}
use Rattle.record_form.proofs.Places.{Known, known}

pub whole : (bytes : List ℕ) {answer : Bool} → answer ≡ is_whole bytes → answer ≡ true → Whole bytes
whole bytes e t = sym e ∙ t

pub facts : (bytes : List ℕ) {answer : Bool} → answer ≡ is_whole bytes → answer ≡ true → Known bytes
facts bytes e t = known bytes (whole bytes e t)
