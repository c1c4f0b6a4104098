use mathlib.Core.Path.{◌≡◌, sym}
use Prim.Native.Nat.{ℕ}
use mathlib.Core.List.{List}
use Rattle.std.specs.Prelude.{Result, Ok, Err}
use Rattle.std.proofs.lemmas.Result.{err_from_is_err_and}
use Rattle.tsc.specs.declared.Card.{Card}
use Rattle.refusals.specs.declared.Refusal.{Refusal}
use Rattle.refusals.specs.Refusals.{number, numbered}
use Rattle.refusals.proofs.Answers.{of_value, of_refusal}
use Rattle.card_format.specs.Reading.{card_of}
use Rattle.card_format.specs.Verdict.{verdict, accepting}
use Rattle.card_format.proofs.Verdict.{verdict_told}
use Rattle.card.proofs.check.check.Goals as goal

-- the number of the refusal, or 0, is the verdict
refused : (bytes : List ℕ) (e : Refusal) {a : Result Card Refusal} → numbered a ≡ accepting bytes → a ≡ Err e → number e ≡ verdict bytes
unfolding accepting
refused bytes e h q = sym (of_refusal (verdict bytes) (card_of bytes) h q)

passed : (bytes : List ℕ) (card : Card) {a : Result Card Refusal} → numbered a ≡ accepting bytes → a ≡ Ok card → 0 ≡ verdict bytes
unfolding accepting
passed bytes card h q = sym (of_value (verdict bytes) (card_of bytes) h q).0

pub returns-in_err-accept-clause-told : goal.returns-in_err-accept-clause-told
returns-in_err-accept-clause-told c = let p = err_from_is_err_and c.from_residual.result c.from_residual.ensures.1 in
    rw (p.1, p.2) (refused _ _ c.accept.ensures c.in_err-accept.was)

pub returns-in_err-accept-clause-covers : goal.returns-in_err-accept-clause-covers
returns-in_err-accept-clause-covers c = let p = err_from_is_err_and c.from_residual.result c.from_residual.ensures.1 in
    rw (p.1, p.2) (verdict_told _ _ (refused _ _ c.accept.ensures c.in_err-accept.was)).1

pub returns-clause-told : goal.returns-clause-told
returns-clause-told c = passed _ _ c.accept.ensures c.in_ok-accept.was

pub returns-clause-covers : goal.returns-clause-covers
returns-clause-covers c = (verdict_told _ _ (passed _ _ c.accept.ensures c.in_ok-accept.was)).1
