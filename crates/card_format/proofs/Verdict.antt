-- DEMAND 3 on the definitions: for every byte string of sound form and every start in range, the verdict is 0 exactly where the orbit covers.
use mathlib.Core.Path.{◌≡◌, refl, sym, ap, ◌∙◌, subst}
use mathlib.Core.Logic.{◌↔◌, ◌≢◌}
use mathlib.Core.List.{List}
use Prim.Native.Nat.{ℕ, ◌%◌, ◌^◌, ◌≤◌}
use native.Mathlib.Omega.{arith}
use borrow.Author.Tests.{eqb-true, eqb-false, eq-eqb, ne_eqb, not-false}
use lib.Dec.{eqb}
use Rattle.cycle.specs.Cycle.{first_return}
use Rattle.cycle.proofs.Count.{neither}
use Rattle.tsc.specs.declared.Card.{Card}
use Rattle.tsc.specs.Step.{entry}
use Rattle.tsc.specs.Coverage.{WellFormed, FullPeriod}
use Rattle.tsc.proofs.Table.{table_cycle}
use Rattle.tsc.proofs.Coverage.{coverage}
use Rattle.tsc.specs.Constants.{most_words}
use Rattle.refusals.specs.declared.Refusal.{Refusal}
use Rattle.card_format.specs.Fields.{field, fields}
use Rattle.refusals.specs.Refusals.{first_of, NoneApplies, numbered}
use Rattle.refusals.proofs.Answers.{of_value}
use Rattle.std.specs.Prelude.{Result, Ok}
use Rattle.card_format.specs.Reading.{card_of, form_checks, SoundForm, reading}
use Rattle.card_format.specs.Verdict.{period_checks, card_checks, verdict, ZeroIffCovers, accepting, Accepted}
use Rattle.refusals.proofs.Refusals.{first-none, none_first, first-append, first-left, none_left, none_right}
use Rattle.card_format.proofs.Sound.{sound-value, sound_card}

-- conditions 7 to 9 do not hold exactly where the premises of the coverage theorem do
pub period-none : (card : Card) → WellFormed card → NoneApplies (period_checks card) ↔ FullPeriod card
unfolding period_checks NoneApplies
period-none card wf = (forth, back)
  where
    forth : NoneApplies (period_checks card) → FullPeriod card
    forth h =
        let p = neither (eqb (card.odd_power % 2) 0) (eqb (card.even_power % 2) 1) h.1.1.0 in
        record {
          cycle = (table_cycle card wf).0 (eqb-true (first_return (entry card) (2 ^ card.words)) (2 ^ card.words) (not-false _ h.0));
          constant = omega (arith, eqb-false (card.constant % 2) 0 h.1.0);
          odd = omega (arith, eqb-false (card.odd_power % 2) 0 p.0);
          even = omega (arith, eqb-false (card.even_power % 2) 1 p.1);
        }

    back : FullPeriod card → NoneApplies (period_checks card)
    back f =
        let o = f.odd in
        let e = f.even in
        let c = f.constant in (
          simp (eq-eqb _ _ ((table_cycle card wf).1 f.cycle)),
          (
            ne_eqb (card.constant % 2) 0 (omega arith),
            (simp (ne_eqb (card.odd_power % 2) 0 (omega arith), ne_eqb (card.even_power % 2) 1 (omega arith)), tt),
          ),
        )

-- a card of sound form is judged by its values
pub verdict-period : (bytes : List ℕ) → SoundForm bytes → first_of (period_checks (card_of bytes)) ≡ verdict bytes
unfolding verdict
verdict-period bytes s = sym (first-append (form_checks bytes) (period_checks (card_of bytes)) s)

-- demand 3 of the verdict
pub verdict_covers : (bytes : List ℕ) → ZeroIffCovers bytes (verdict bytes)
verdict_covers bytes s start st =
    let card = card_of bytes in
    let wf = sound_card bytes s in
    let told = verdict-period bytes s in (
      λ z. (coverage card wf start st).1 ((period-none card wf).0 (none_first (period_checks card) (told ∙ z))),
      λ c. sym told ∙ first-none (period_checks card) ((period-none card wf).1 ((coverage card wf start st).0 c)),
    )

-- and of an answer that is the verdict
pub verdict_told : (bytes : List ℕ) (r : ℕ) → r ≡ verdict bytes → (r ≡ verdict bytes) × ZeroIffCovers bytes r
verdict_told bytes r e = (e, subst (ZeroIffCovers bytes) (sym e) (verdict_covers bytes))

-- ---- what the reader says of the verdict

-- a card that the reader refuses has the reader's refusal
pub verdict-form : (bytes : List ℕ) → first_of (form_checks bytes) ≢ 0 → first_of (form_checks bytes) ≡ verdict bytes
unfolding verdict
verdict-form bytes ne = sym (first-left (form_checks bytes) (period_checks (card_of bytes)) ne)

pub reading-sound : (bytes : List ℕ) {a : Result Card Refusal} {card : Card} → numbered a ≡ reading bytes → a ≡ Ok card → SoundForm bytes × (card ≡ card_of bytes)
unfolding reading
reading-sound bytes h e = let found = of_value (first_of (form_checks bytes)) (card_of bytes) h e in (none_first _ found.0, found.1)

pub words-sound : (bytes : List ℕ) → SoundForm bytes → (card_of bytes).words ≤ most_words
unfolding card_of field fields
words-sound bytes s = (sound-value bytes s 0 (omega arith) refl).1

-- ---- accepted cards

-- the values of an accepted card
pub accepted_card : (bytes : List ℕ) → verdict bytes ≡ 0 → Accepted (card_of bytes)
unfolding verdict card_of field fields
accepted_card bytes z =
    let none = none_first (card_checks bytes) z in
    let sound = none_left (form_checks bytes) (period_checks (card_of bytes)) none in
    let formed = sound_card bytes sound in
    record {
      formed = formed;
      period = (period-none (card_of bytes) formed).0 (none_right (form_checks bytes) (period_checks (card_of bytes)) none);
      few = words-sound bytes sound;
      narrow = (sound-value bytes sound 1 (omega arith) refl).1;
    }

-- the check's answer on an accepted card
pub accepting-passed : (bytes : List ℕ) {a : Result Card Refusal} {card : Card} → numbered a ≡ accepting bytes → a ≡ Ok card → (verdict bytes ≡ 0) × (card ≡ card_of bytes)
unfolding accepting
accepting-passed bytes h e = of_value (verdict bytes) (card_of bytes) h e
