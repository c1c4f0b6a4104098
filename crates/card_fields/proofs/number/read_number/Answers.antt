use mathlib.Core.Path.{◌≡◌, refl, sym, ◌∙◌}
use mathlib.Core.Bool.{cond, not}
use mathlib.Core.List.{List, [], ◌∷◌}
use Prim.Native.Nat.{ℕ, ◌≤◌, ◌<◌}
use native.Mathlib.Omega.{arith}
use borrow.Author.Tests.{lt-ltb, le-ltb}
use lib.ListN.{length}
use Rattle.refusals.specs.Refusals.{first_of}
use Rattle.card_format.specs.Fields.{Field, field, extent, numbers, allowed, same}
use Rattle.card_format.specs.Reading.{part_checks}
use Rattle.card_format.proofs.Fields.{part_refusal}
use Rattle.std.specs.Prelude.{Ok, Err}
use Rattle.refusals.specs.declared.Refusal.{Refusal}
use Rattle.refusals.specs.declared.Refusal.TheVariants.{Truncated, OutOfRange, Redundant}
use Rattle.refusals.specs.Refusals.{number, numbered}
use Rattle.refusals.proofs.Answers.{value_answered, refusal_answered}
use Rattle.card_fields.specs.Number.{number_read}
use Rattle.card_fields.proofs.number.read_number.Goals as goal
use Rattle.card_fields.proofs.number.read_number.Goals.{Else-not-number_allowed, Else-part-extent_of}

refused_as : (f : Field) (part : List ℕ) (e : Refusal) → first_of (part_checks f part) ≡ number e → numbered (Err e) ≡ number_read f part
unfolding number_read
refused_as f part e q = refusal_answered _ e _ q

value_as : (f : Field) (part : List ℕ) (v : ℕ) → numbers f part ≡ v ∷ [] → first_of (part_checks f part) ≡ 0 → numbered (Ok v) ≡ number_read f part
unfolding number_read
value_as f part v n e = value_answered _ v _ e (rw n refl)

-- past the first test, the field's bytes are there
there : (c : Else-part-extent_of) → let a = c.args in extent (field a.m a.k) ≤ length a.part.now
there c = omega (arith, c.extent_of.ensures, c.if-part-extent_of.false)

-- then its refusal goes by its number
by_tests : (f : Field) (part : List ℕ) (size v : ℕ) → size ≡ extent f → size ≤ length part → numbers f part ≡ v ∷ []
    → first_of (part_checks f part) ≡ cond (not (allowed f (v ∷ []))) 2 (cond (same (v ∷ []) f.absent) 3 0)
by_tests f part size v s l e =
    let fits : extent f ≤ length part = omega arith in
    part_refusal _ _ _ e ∙ simp (le-ltb _ _ fits)

-- past the second test, by its absent value
by-absent : (c : Else-not-number_allowed) → let a = c.args in let f = field a.m a.k in
    first_of (part_checks f a.part.now) ≡ cond (same (c.number_at-v.result ∷ []) f.absent) 3 0
by-absent c =
    by_tests (field c.args.m c.args.k) _ _ _ c.extent_of.ensures c.if-part-extent_of.false c.number_at-v.ensures ∙ simp (sym c.number_allowed.ensures ∙ c.if-not-number_allowed.false)

pub returns-then-part-extent_of : goal.returns-then-part-extent_of
returns-then-part-extent_of c = let a = c.args in
    let short : length a.part.now < extent (field a.m a.k) = omega (arith, c.extent_of.ensures, c.if-part-extent_of.true) in
    refused_as _ _ Truncated (part_refusal _ _ _ refl ∙ simp (lt-ltb _ _ short))

pub returns-then-not-number_allowed : goal.returns-then-not-number_allowed
returns-then-not-number_allowed c = refused_as _ _ OutOfRange
    (by_tests (field c.args.m c.args.k) _ _ _ c.extent_of.ensures c.if-part-extent_of.false c.number_at-v.ensures ∙ simp (sym c.number_allowed.ensures ∙ c.if-not-number_allowed.true))

pub returns-then-is_absent : goal.returns-then-is_absent
returns-then-is_absent c = refused_as _ _ Redundant (by-absent (goal.at.returns-then-is_absent c).Else-not-number_allowed ∙ simp (sym c.is_absent.ensures ∙ c.if-is_absent.true))

pub returns : goal.returns
returns c = let n = c.number_at-v in
    value_as _ _ n.result n.ensures (by-absent (goal.at.returns c).Else-not-number_allowed ∙ simp (sym c.is_absent.ensures ∙ c.if-is_absent.false))
