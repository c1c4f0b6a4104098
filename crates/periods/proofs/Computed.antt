-- Least periods of words, by computing the words of states and of their opposites.
--   published-periods   P1 and P2: the all-zero state has another word than its opposite
--   repeating-early     no state of the card `repeating` has
use mathlib.Core.Path.{◌≡◌, refl, sym, ap, ◌∙◌, subst}
use mathlib.Core.Bool.{Bool, true, false}
use mathlib.Core.List.{List, [], ◌∷◌}
use Prim.Native.Nat.{ℕ, ◌/◌, ◌^◌}
use borrow.Author.Tests.{eqb-true, eqb-false}
use lib.Dec.{eqb}
use Rattle.cycle.specs.Notation.{sum, every, tabulate, All, iterate}
use Rattle.cycle.specs.Cycle.{return_from, first_return}
use Rattle.cycle.specs.Period.{Period}
use Rattle.cycle.proofs.Every.{every_at}
use Rattle.tsc.specs.Columns.{column, from_columns}
use Rattle.tsc.specs.Coverage.{IsState, states}
use Rattle.tsc.specs.Word.{◌⊞◌, ◌⋘◌, filter1, filter2, further, word, word_at}
use Rattle.tsc.specs.Opposite.{opposite}
use Rattle.tsc.proofs.Number.{state_of, state_of_in_range, numbers_list}
use Rattle.tsc.proofs.ColumnPeriod.{top_moved, half-orbit}
use Rattle.tsc.proofs.WordPeriod.{words-half, word-period}
use Rattle.refusals.specs.Refusals.{first_of}
use Rattle.card_format.specs.Fields.{fields, field, numbers, allowed, same}
use Rattle.card_format.specs.Reading.{offset, values_at, words_of, card_of, part_checks, field_checks, checks_to, form_checks}
use Rattle.card_format.specs.Verdict.{period_checks, verdict}
use Rattle.card_format.specs.Examples.{p1, p2, rows}
use Rattle.periods.specs.WordPeriod.{WordPeriod, repeating}
use Rattle.card_format.proofs.Verdict.{accepted_card}
use Rattle.card_format.proofs.Examples.{rows_hold}

module _ (bytes : List ℕ) (v : verdict bytes ≡ 0) where
  -- the state of number z
  abbrev state : ℕ → List ℕ
  state z = state_of (card_of bytes).words (card_of bytes).width z

  -- whether it has the word of its opposite
  abbrev alike : ℕ → Bool
  alike z = eqb (word (card_of bytes) (state z)) (word (card_of bytes) (top_moved (card_of bytes) (state z)))

  opposite-word : (xs : List ℕ) → IsState (card_of bytes) xs → word (card_of bytes) (opposite (card_of bytes) xs) ≡ word (card_of bytes) (top_moved (card_of bytes) xs)
  opposite-word xs sx = let a = accepted_card bytes v in ap (word (card_of bytes)) (half-orbit (card_of bytes) a.formed a.period xs sx)

  -- one state that has another is enough
  period_by : (z : ℕ) → alike z ≡ false → WordPeriod bytes (states (card_of bytes))
  period_by z differ start st =
      let card = card_of bytes in
      let a = accepted_card bytes v in
      let sz = state_of_in_range card.words card.width z in
      (word-period card a.formed a.period start).1 (state z, sz, λ e. eqb-false _ _ differ (e ∙ opposite-word (state z) sz))

  -- where none has, the words repeat after half the orbit
  early_by : every (states (card_of bytes)) alike ≡ true → (start : List ℕ) → Period (word_at (card_of bytes) start) (states (card_of bytes) / 2)
  early_by h start =
      let card = card_of bytes in
      let a = accepted_card bytes v in
      words-half card a.formed a.period start (λ xs sx.
      let r = numbers_list card xs sx in
      let w : word card xs ≡ word card (top_moved card xs) =
      subst (λ (ys : List ℕ). word card ys ≡ word card (top_moved card ys)) r.2 (eqb-true _ _ (every_at (states card) alike h r.0 r.1)) in
      w ∙ sym (opposite-word xs sx))

pub published_periods : All (λ bytes. WordPeriod bytes (2 ^ 128)) (p1 ∷ p2 ∷ [])
unfolding sum tabulate iterate column from_columns ◌⊞◌ ◌⋘◌ filter1 filter2 further word state_of top_moved fields field numbers offset values_at words_of card_of rows
published_periods = (period_by p1 rows_hold.0.0 0 refl, (period_by p2 rows_hold.1.0.0 0 refl, tt))

pub repeating-accepted : (verdict repeating ≡ 0) × (states (card_of repeating) ≡ 64)
unfolding sum tabulate iterate return_from first_return first_of fields field numbers allowed same offset values_at words_of card_of part_checks field_checks checks_to form_checks period_checks verdict
repeating-accepted = (refl, refl)

pub repeating-early : (start : List ℕ) → Period (word_at (card_of repeating) start) 32
unfolding sum every tabulate iterate column from_columns ◌⊞◌ ◌⋘◌ filter1 filter2 further word state_of top_moved fields field numbers offset values_at words_of card_of
repeating-early = early_by repeating repeating-accepted.0 refl
