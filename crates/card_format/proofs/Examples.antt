-- The P rows hold of the definitions, by computing: a `refl` for each verdict, state and word.
use mathlib.Core.Path.{◌≡◌, refl}
use mathlib.Core.List.{List, [], ◌∷◌, ◌++◌}
use Prim.Native.Nat.{ℕ, suc}
use lib.ListN.{length}
use Rattle.cycle.specs.Notation.{sum, tabulate, All, iterate}
use Rattle.cycle.specs.Cycle.{return_from, first_return}
use Rattle.tsc.specs.Constants.{most_words}
use Rattle.tsc.specs.Columns.{column, from_columns}
use Rattle.tsc.specs.Selector.{and_words, sum_words, selector}
use Rattle.tsc.specs.Step.{step}
use Rattle.tsc.specs.Word.{◌⊞◌, ◌⋘◌, filter1, filter2, further, word}
use Rattle.refusals.specs.Refusals.{first_of}
use Rattle.card_format.specs.Fields.{fields, field, most_card_bytes, numbers, allowed, same}
use Rattle.card_format.specs.Reading.{offset, values_at, words_of, card_of, part_checks, field_checks, checks_to, form_checks}
use Rattle.card_format.specs.Verdict.{period_checks, verdict}
use Rattle.card_format.specs.Examples.{rows, Holds}

pub rows_hold : All Holds rows
unfolding sum tabulate iterate return_from first_return column from_columns and_words sum_words selector step ◌⊞◌ ◌⋘◌ filter1 filter2 further word first_of fields field numbers allowed same offset values_at words_of card_of part_checks field_checks checks_to form_checks period_checks verdict rows
rows_hold = ((refl, (refl, refl)), ((refl, (refl, refl)), ((refl, tt), ((refl, tt), ((refl, tt), ((refl, (refl, refl)), ((refl, tt), ((refl, tt), ((refl, tt), ((refl, tt), ((refl, (refl, refl)), ((refl, (refl, refl)), tt))))))))))))

-- the bound of a card's length is reached: by eight words and every field
abbrev pub longest : List ℕ
longest = 0xff ∷ 8 ∷ 31 ∷ (tabulate 255 suc ++ (0 ∷ 3 ∷ 0 ∷ 1 ∷ 0 ∷ 0 ∷ 0 ∷ 2 ∷ 0 ∷ []))

pub longest_accepted : (verdict longest ≡ 0) × ((card_of longest).words ≡ most_words) × (length longest ≡ most_card_bytes)
unfolding sum tabulate iterate return_from first_return first_of fields field numbers allowed same offset values_at words_of card_of part_checks field_checks checks_to form_checks period_checks verdict
longest_accepted = (refl, refl, refl)
