-- What is found of the table that a card of sound form has: its used entries are the table handed down, and their least set is the card's.
use mathlib.Core.Path.{◌≡◌, sym, ap, ap₂, ◌∙◌, subst}
use mathlib.Core.Logic.{◌≢◌}
use mathlib.Core.Bool.{Bool, true, false}
use mathlib.Core.List.{List}
use Prim.Native.Nat.{ℕ, ◌^◌, ◌≤◌, ◌<◌}
use native.Mathlib.Omega.{arith}
use borrow.Author.Tests.{eq-eqb, ne_eqb}
use lib.ListN.{length, take}
use lib.Pow.{pow_mono}
use Rattle.std.proofs.lemmas.List.{get_or-take, length-take-le}
use Rattle.cycle.specs.Notation.{count, zero_filled}
use Rattle.cycle.specs.Cycle.{SingleCycle, first_return}
use Rattle.cycle.proofs.Count.{count_ext}
use Rattle.cycle.proofs.Cycle.{cycle-same}
use Rattle.cycle.proofs.Iterate.{MapsBelow}
use Rattle.cycle.proofs.FirstReturn.{first_return_cycle}
use Rattle.completions.specs.Completion.{Excludes}
use Rattle.completions.specs.Sets.{LeastSet}
use Rattle.completions.proofs.Least.{least-half}
use Rattle.completions.proofs.Members.{least-same, members_same}
use Rattle.tsc.specs.declared.Card.{Card}
use Rattle.tsc.specs.Constants.{most_words}
use Rattle.tsc.specs.Step.{entry}
use Rattle.tsc.specs.Coverage.{WellFormed}
use Rattle.refusals.specs.Refusals.{first_of}
use Rattle.card_format.specs.Reading.{card_of, SoundForm}
use Rattle.card_format.proofs.Fields.{few-entries}
use Rattle.card_format.proofs.Sound.{sound_card}
use Rattle.card_format.proofs.Verdict.{words-sound}
use Rattle.diagnoses.specs.declared.BadPlaces.{BadPlaces}
use Rattle.diagnoses.specs.BadPlaces.{bad_checks, most_places, showing, Shows}
use Rattle.diagnoses.proofs.Answers.{told, shows_least}
use Rattle.diagnosis.specs.Marks.{entry_of, IsTable, marked}
use Rattle.diagnosis.proofs.Tables.{entry_taken, table_taken, excludes_same}

-- the card that is read, and how many entries it uses
pub record OfCard (bytes : List ℕ) (card : Card) (size : ℕ) : Type 0 where
  pub sound : SoundForm bytes
  pub read : card ≡ card_of bytes
  pub entries : size ≡ 2 ^ card.words
  pub long : length card.table ≡ 2 ^ most_words

module _ (bytes : List ℕ) (card : Card) (size : ℕ) (o : OfCard bytes card size) where
  formed : WellFormed card
  formed = subst WellFormed (sym o.read) (sound_card bytes o.sound)

  pub few : card.words ≤ most_words
  few = subst (λ (c : Card). c.words ≤ most_words) (sym o.read) (words-sound bytes o.sound)

  pub large : 4 ≤ size
  large = omega (arith, o.entries, pow_mono {j = card.words} formed.words)

  pub fits : size ≤ 2 ^ most_words
  fits = omega (arith, o.entries, few-entries card.words few)

  pub below : MapsBelow size (entry card)
  below = subst (λ (n : ℕ). MapsBelow n (entry card)) (sym o.entries) formed.entries

  abbrev used : List ℕ
  used = take size card.table

  all_used : length used ≡ size
  all_used = length-take-le size card.table (omega (arith, o.long, fits))

  pub table : IsTable used
  table = table_taken size card.table large fits (omega (arith, o.long, fits)) below

  whole : size ≡ 2 ^ (card_of bytes).words
  whole = o.entries ∙ ap (λ (c : Card). 2 ^ c.words) o.read

  -- the loop's count is the first return of the card's table
  returned : first_return (entry (card_of bytes)) (2 ^ (card_of bytes).words) ≡ first_return (entry card) size
  returned = sym (ap₂ (λ (c : Card) (n : ℕ). first_return (entry c) n) o.read whole)

  pub told_sound : first_return (entry card) size ≡ size → 26 ≡ first_of (bad_checks bytes)
  told_sound r = sym (told bytes o.sound true (eq-eqb _ _ (returned ∙ r ∙ whole)))

  module _ (ne : first_return (entry card) size ≢ size) where
    pub told_none : 0 ≡ first_of (bad_checks bytes)
    told_none = sym (told bytes o.sound false (ne_eqb _ _ (λ r. ne (sym returned ∙ r ∙ sym whole))))

    pub broken : SingleCycle (length used) (entry_of used) 0 → ⊥
    broken c =
        ne ((first_return_cycle (entry card) size (omega (arith, large)) below).1
        (cycle-same size (entry_of used) (entry card) (omega (arith, large)) (λ x l. rw (entry_taken size card.table x l) (below x l)) (λ x l. sym (entry_taken size card.table x l)) (subst (λ (n : ℕ). SingleCycle n (entry_of used) 0) all_used c)))

    module _ (marks : List Bool) (long_marks : length marks ≡ 2 ^ most_words) (least : LeastSet (length used) (Excludes (length used) (entry_of used)) (marked marks)) where
      shown_marks : length (take size marks) ≡ size
      shown_marks = length-take-le size marks (omega (arith, o.long, fits))

      same_marks : (x : ℕ) → x < size → marked (take size marks) x ≡ marked marks x
      same_marks x l = get_or-take size marks x false l

      -- they fit the list that is shown
      pub room : (length (take size marks) ≤ 2 ^ most_words) × (count (length (take size marks)) (marked (take size marks)) ≤ most_places)
      room =
          rw shown_marks (
            fits,
            omega (
              arith,
              fits,
              all_used,
              count_ext size (marked (take size marks)) (marked marks) same_marks,
              ap (λ (n : ℕ). count n (marked marks)) all_used,
              least-half (length used) (entry_of used) table.large table.below broken (marked marks) least,
            ),
          )

      pub shows : (r : BadPlaces) → r ≡ showing (length (take size marks)) (marked (take size marks)) → Shows bytes r
      shows r e =
          shows_least bytes r (marked marks) (sym told_none)
          (subst (λ (c : Card). LeastSet (2 ^ (card_of bytes).words) (Excludes (2 ^ (card_of bytes).words) (entry c)) (marked marks)) o.read
          (subst (λ (n : ℕ). LeastSet n (Excludes n (entry card)) (marked marks)) whole
          (least-same size (Excludes size (entry_of used)) (Excludes size (entry card)) (excludes_same size (entry_of used) (entry card) (entry_taken size card.table)) (marked marks)
          (subst (λ (n : ℕ). LeastSet n (Excludes n (entry_of used)) (marked marks)) all_used least))))
          (e ∙ ap (λ (n : ℕ). showing n (marked (take size marks))) shown_marks
          ∙ ap₂ (λ (xs : List ℕ) (n : ℕ). record { places = zero_filled most_places xs; count = n; refusal = 0 }) (members_same size (marked (take size marks)) (marked marks) same_marks)
          (count_ext size (marked (take size marks)) (marked marks) same_marks)
          ∙ ap (λ (n : ℕ). showing n (marked marks)) whole)
