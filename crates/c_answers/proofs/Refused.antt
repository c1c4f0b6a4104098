-- Demand 1 at the C interface: an answer tells the first refusal that applies, 0 where none does; and where it is not 0, its other fields are 0 and
-- what was lent is as it was.
use mathlib.Core.Path.{◌≡◌, refl, sym, ap, ◌∙◌}
use mathlib.Core.Logic.{◌≢◌}
use mathlib.Core.Bool.{Bool, true, false, cond}
use mathlib.Core.List.{List}
use Prim.Native.Nat.{ℕ}
use native.Mathlib.Decide.{ℕ_discrete}
use lib.Dec.{eqb}
use lib.ListN.{length}
use borrow.Author.Tests.{eq-eqb, ne_eqb}
use Rattle.std.specs.Prelude.{Result, Ok, Err}
use Rattle.tsc.specs.declared.Card.{Card}
use Rattle.refusals.specs.Refusals.{first_of, number}
use Rattle.refusals.specs.declared.Refusal.TheVariants.{OutOfRange, NoSuchChange}
use Rattle.card_format.specs.Reading.{form_checks, reading}
use Rattle.card_format.specs.Writing.{write_checks, writing, page_after}
use Rattle.card_format.proofs.Writing.{writing-refused}
use Rattle.draws.specs.Calls.{refusal_for, stepped, stepped_back, drawing}
use Rattle.draws.proofs.Opening.{unless_refused_lem}
use Rattle.picks.specs.declared.Pick.{Pick}
use Rattle.picks.specs.Picks.{pick_refusal, picking, picked}
use Rattle.picks.proofs.Picking.{picking-refused}
use Rattle.margins.specs.declared.Nearest.{Nearest}
use Rattle.margins.proofs.Answers.{Passed, margin_passed, margin_refused}
use Rattle.c_answers.specs.declared.MarginAnswer.{MarginAnswer}
use Rattle.c_answers.specs.Answers.{drawn, choice, margin_answer, IsMarginAnswer, card_values, no_card, card_reading, read_card, written_length, overlong, written_from, page_from}

-- what every answer is made by: a value with refusal 0 where none applies, else the refusal
pub told : {A : Type 0} (refusal : A → ℕ) (r : ℕ) (value refused : A) → refusal value ≡ 0 → refusal refused ≡ r → refusal (cond (eqb r 0) value refused) ≡ r
told refusal r value refused z e = go (ℕ_discrete r 0)
  where
    go : Dec (r ≡ 0) → refusal (cond (eqb r 0) value refused) ≡ r
    go (yes p) = rw (eq-eqb r 0 p) (z ∙ sym p)
    go (no n) = rw (ne_eqb r 0 n) e

module _ (bytes xs : List ℕ) where
  pub step-refused : refusal_for bytes xs ≢ 0 → (stepped bytes xs ≡ xs) × (stepped_back bytes xs ≡ xs)
  unfolding stepped stepped_back
  step-refused n = (sym (unless_refused_lem bytes xs _ n), sym (unless_refused_lem bytes xs _ n))

  pub draw_told : (drawn (drawing bytes xs)).refusal ≡ refusal_for bytes xs
  unfolding drawing
  draw_told = told (λ (d : Result ℕ ℕ). (drawn d).refusal) (refusal_for bytes xs) _ _ refl refl

  pub draw_refused : (drawn (drawing bytes xs)).refusal ≢ 0 → ((drawn (drawing bytes xs)).word ≡ 0) × (stepped bytes xs ≡ xs)
  unfolding drawing
  draw_refused ne =
      let n : refusal_for bytes xs ≢ 0 = λ z. ne (draw_told ∙ z) in
      (rw (ne_eqb (refusal_for bytes xs) 0 n) refl, (step-refused n).0)

module _ (bytes xs shovels times : List ℕ) where
  pub pick_told : (choice (picking bytes xs shovels times)).refusal ≡ pick_refusal bytes xs shovels times
  unfolding picking
  pick_told = told (λ (p : Pick). (choice p).refusal) (pick_refusal bytes xs shovels times) _ _ refl refl

  pub pick_refused : let c = choice (picking bytes xs shovels times) in
      c.refusal ≢ 0 → (c.shovel ≡ 0) × (c.ties ≡ 0) × (c.taken ≡ 0) × (picked bytes xs shovels times ≡ xs)
  pick_refused ne =
      let p = picking-refused bytes xs shovels times _ (λ z. ne (pick_told ∙ z)) refl in
      let c = sym (ap choice p.0) in
      (λ i. (c i).shovel, λ i. (c i).ties, λ i. (c i).taken, sym p.1)

-- a margin's: the pick's refusal, or else 19, or none
module _ (bytes xs shovels times : List ℕ) (r : MarginAnswer) (h : IsMarginAnswer bytes xs shovels times r) where
  pub margin_told : pick_refusal bytes xs shovels times ≢ 0 → r.refusal ≡ pick_refusal bytes xs shovels times
  margin_told n = ap (λ (r : MarginAnswer). r.refusal) (h.2 ∙ ap margin_answer ((margin_refused bytes xs shovels times n h.0).0 h.1))

  pub margin_nineteen : pick_refusal bytes xs shovels times ≡ 0 → r.refusal ≢ 0 → r.refusal ≡ number NoSuchChange
  margin_nineteen z = go h.0 ((margin_passed bytes xs shovels times z h.0).0 h.1) h.2
    where
      go : (m : Result Nearest ℕ) → Passed bytes xs shovels times m → r ≡ margin_answer m → r.refusal ≢ 0 → r.refusal ≡ number NoSuchChange
      go (Ok n) p e ne = absurd (ne (ap (λ (r : MarginAnswer). r.refusal) e))
      go (Err q) p e ne = ap (λ (r : MarginAnswer). r.refusal) e ∙ p.0

  pub margin_zeros : r.refusal ≢ 0 → r ≡ record { seconds = 0; changed = 0; shovel = 0; raised = 0; ties = 0; taken = 0; refusal = r.refusal }
  margin_zeros = go h.0 h.2
    where
      go : (m : Result Nearest ℕ) → r ≡ margin_answer m → r.refusal ≢ 0 → r ≡ record { seconds = 0; changed = 0; shovel = 0; raised = 0; ties = 0; taken = 0; refusal = r.refusal }
      go (Ok n) e ne = absurd (ne (ap (λ (r : MarginAnswer). r.refusal) e))
      go (Err q) e ne = e ∙ ap (λ (q : ℕ). margin_answer (Err q)) (sym (ap (λ (r : MarginAnswer). r.refusal) e))

module _ (bytes : List ℕ) where
  pub read_told : (read_card bytes).refusal ≡ first_of (form_checks bytes)
  unfolding reading
  read_told = told (λ (a : Result Card ℕ). (card_reading a).refusal) (first_of (form_checks bytes)) _ _ refl refl

  -- every value is 0
  pub read_refused : (read_card bytes).refusal ≢ 0 → (read_card bytes).card ≡ card_values no_card
  unfolding reading
  read_refused ne = rw (ne_eqb (first_of (form_checks bytes)) 0 (λ z. ne (read_told ∙ z))) refl

module _ (card : Card) (page : List ℕ) where
  -- the writer's own refusal, for a table that the array can hold
  writing_told : (written_length (writing card (length page))).refusal ≡ first_of (write_checks card (length page))
  unfolding writing
  writing_told = told (λ (w : Result ℕ ℕ). (written_length w).refusal) (first_of (write_checks card (length page))) _ _ refl refl

  pub write_told : (written_from card (length page)).refusal ≡ cond (overlong card) (number OutOfRange) (first_of (write_checks card (length page)))
  unfolding written_from
  write_told = go (overlong card)
    where
      go : (b : Bool) → (written_length (cond b (Err (number OutOfRange)) (writing card (length page)))).refusal
          ≡ cond b (number OutOfRange) (first_of (write_checks card (length page)))
      go true = refl
      go false = writing_told

  pub write_refused : (written_from card (length page)).refusal ≢ 0 → ((written_from card (length page)).length ≡ 0) × (page_from card page ≡ page)
  unfolding written_from page_from
  write_refused = go (overlong card)
    where
      go : (b : Bool) → let w = written_length (cond b (Err (number OutOfRange)) (writing card (length page))) in
          w.refusal ≢ 0 → (w.length ≡ 0) × (cond b page (page_after card page) ≡ page)
      go true ne = (refl, refl)
      go false ne =
          let w = writing-refused card page _ (λ z. ne (writing_told ∙ z)) refl in
          (ap (λ (w : Result ℕ ℕ). (written_length w).length) (sym w.0), sym w.1)
