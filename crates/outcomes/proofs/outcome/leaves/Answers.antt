use Rattle.std.proofs.Common.{◌≡◌, ◌≢◌, refl, sym, ◌∙◌, Result, Ok, Err, true, false, true≢false}
use borrow.Author.Tests.{le-leb, lt-leb, not-true, not-false}
use Rattle.std.specs.Result.{is_err}
use Rattle.refusals.specs.Refusals.{told}
use Rattle.refusals.specs.declared.Refusal.{Refusal}
use Rattle.refusals.proofs.Answers.{number_nonzero}
use Rattle.samples.proofs.Many.{ties-within, ties_told}
use Rattle.outcomes.proofs.outcome.leaves.Goals as goal

-- a refusal is not told as 0, and no refusal is
refused : {A : Type 0} (r : Result A Refusal) → is_err r ≡ true → told r ≢ 0
refused (Ok x) e = absurd (true≢false (sym e))
refused (Err e) h = number_nonzero e

passed : {A : Type 0} (r : Result A Refusal) → is_err r ≡ false → told r ≡ 0
passed (Ok x) e = refl
passed (Err e) h = absurd (true≢false h)

pub returns-then-is_err : goal.returns-then-is_err
returns-then-is_err c = let a = c.args in
    let many = ties_told a.known.now.width a.o.ties (λ z. refused c.ties_refusal.result (sym c.is_err.ensures.value ∙ c.if-is_err.true) (c.ties_refusal.ensures ∙ z)) in
    rw (lt-leb a.o.ties _ many) refl

pub returns-then-not-o : goal.returns-then-not-o
returns-then-not-o c = let a = c.args in
    let within = ties-within a.known.now.width a.o.ties (sym c.ties_refusal.ensures ∙ passed c.ties_refusal.result (sym c.is_err.ensures.value ∙ c.if-is_err.false)) in
    rw (le-leb a.o.ties _ within, not-true a.o.tie c.if-not-o.true) refl

pub returns : goal.returns
returns c = let a = c.args in
    let within = ties-within a.known.now.width a.o.ties (sym c.ties_refusal.ensures ∙ passed c.ties_refusal.result (sym c.is_err.ensures.value ∙ c.if-is_err.false)) in
    rw (le-leb a.o.ties _ within, not-false a.o.tie c.if-not-o.false, c.rank_among-drawn.ensures) refl
