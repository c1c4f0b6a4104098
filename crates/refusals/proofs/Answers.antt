-- Answers by number: what is known of the number once a value or a refusal is found, and what a value or a refusal is by number.
use Rattle.std.proofs.Common.{◌≡◌, ◌≢◌, refl, sym, ap, ◌∙◌, ℕ, Bool, true, false, cond, eqb, eq-eqb, eqb-true, ne_eqb, arith}
use Rattle.std.specs.Prelude.{Result, Ok, Err}
use Rattle.refusals.specs.declared.Refusal.{Refusal}
use Rattle.refusals.specs.Refusals.{number, answered, numbered, told}
use Rattle.refusals.proofs.Numbers.{number_positive}

module _ {A : Type 0} where
  -- a value is answered where nothing is refused
  pub value_answered : (r : ℕ) (x y : A) → r ≡ 0 → x ≡ y → numbered (Ok x) ≡ answered r y
  value_answered r x y z e = simp (eq-eqb r 0 z) (ap Ok e)

  -- a refusal is answered by its number
  pub refusal_answered : (r : ℕ) (e : Refusal) (y : A) → r ≡ number e → numbered (Err e) ≡ answered r y
  refusal_answered r e y q = simp (ne_eqb r 0 (λ z. omega (arith, number_positive e, q, z))) (ap Err (sym q))

  -- of a value found: nothing is refused, and it is the one defined
  pub of_value : {a : Result A Refusal} {x : A} (r : ℕ) (y : A) → numbered a ≡ answered r y → a ≡ Ok x → (r ≡ 0) × (x ≡ y)
  of_value {x = x} r y h e = go (eqb r 0) refl (sym (ap numbered e) ∙ h)
    where
      go : (b : Bool) → eqb r 0 ≡ b → Ok x ≡ cond b (Ok y) (Err r) → (r ≡ 0) × (x ≡ y)
      go true q f = (eqb-true r 0 q, grind (arith, f))
      go false q f = absurd (grind (arith, f))

  -- of a refusal found: its number is told
  pub of_refusal : {a : Result A Refusal} {e : Refusal} (r : ℕ) (y : A) → numbered a ≡ answered r y → a ≡ Err e → r ≡ number e
  of_refusal {e = e} r y h q = go (eqb r 0) (sym (ap numbered q) ∙ h)
    where
      go : (b : Bool) → Err (number e) ≡ cond b (Ok y) (Err r) → r ≡ number e
      go true f = absurd (grind (arith, f))
      go false f = grind (arith, f)

  -- the same of what is told
  pub told_of_value : {r : ℕ} {a : Result A Refusal} {x : A} → told a ≡ r → a ≡ Ok x → r ≡ 0
  told_of_value h e = sym h ∙ ap told e

  pub told_of_refusal : {r : ℕ} {a : Result A Refusal} {e : Refusal} → told a ≡ r → a ≡ Err e → r ≡ number e
  told_of_refusal h e = sym h ∙ ap told e

-- a refusal is not told as 0
pub number_nonzero : (e : Refusal) → number e ≢ 0
number_nonzero e z = omega (arith, number_positive e, z)
