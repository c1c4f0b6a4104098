-- The writer's values as C hands them over: a table that the array can hold, and one that it can't.
use mathlib.Core.Path.{◌≡◌, refl, ap, ◌∙◌}
use mathlib.Core.List.{List}
use Prim.Native.Nat.{ℕ, ◌-◌, ◌^◌, ◌<◌, ◌≤◌}
use native.Mathlib.Omega.{arith}
use lib.ListN.{length, take, replicate, length-append, length-replicate}
use lib.Seq.{take_all}
use borrow.Author.Tests.{lt-ltb, le-ltb}
use Rattle.std.specs.Prelude.{Err}
use Rattle.tsc.specs.declared.Card.{Card}
use Rattle.tsc.specs.Constants.{most_words}
use Rattle.refusals.specs.Refusals.{number}
use Rattle.refusals.specs.declared.Refusal.TheVariants.{OutOfRange}
use Rattle.card_format.specs.Reading.{padded}
use Rattle.card_format.specs.Writing.{writing, page_after}
use Rattle.c_answers.specs.Answers.{written_length, written_from, page_from}

module _ (card : Card) (page : List ℕ) where
  -- an overlong table: refusal 2, and the page as it was
  pub overlong-refused : 2 ^ most_words < length card.table
      → (written_length (Err (number OutOfRange)) ≡ written_from card (length page)) × (page ≡ page_from card page)
  unfolding written_from page_from
  overlong-refused long = rw (lt-ltb (2 ^ most_words) (length card.table) long) (refl, refl)

  -- else the writer's own answer and page, for the same card
  pub fitting_written : {written : Card} → written ≡ card → length card.table ≤ 2 ^ most_words
      → (written_length (writing written (length page)) ≡ written_from card (length page)) × (page_after written page ≡ page_from card page)
  unfolding written_from page_from
  fitting_written e fits = rw (e, le-ltb (2 ^ most_words) (length card.table) fits) (refl, refl)

module _ (table : List ℕ) where
  -- zeros make no table shorter, and one that the array can hold fills it
  pub padded-long : 2 ^ most_words < length table → 2 ^ most_words < length (padded table)
  padded-long l = omega (arith, length-append table (replicate (2 ^ most_words - length table) 0))

  pub padded_full : length table ≤ 2 ^ most_words → length (padded table) ≡ 2 ^ most_words
  padded_full l = omega (arith, length-append table (replicate (2 ^ most_words - length table) 0), length-replicate {A = ℕ} (2 ^ most_words - length table) 0)

  -- a table filled from all the entries given
  pub filled_all : (filled : List ℕ) → filled ≡ padded (take (length table) table) → filled ≡ padded table
  filled_all filled e = e ∙ ap padded (take_all (length table) table (omega arith))
