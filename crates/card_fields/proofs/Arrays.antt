-- The rows and the absent values of field.rt are those of `fields`: where one is read, the check compares its numbers with the field's.
use mathlib.Core.Path.{◌≡◌, refl, ◌∙◌}
use mathlib.Core.Logic.{◌≢◌}
use mathlib.Core.Bool.{cond}
use mathlib.Core.List.{List, [], map}
use Prim.Native.Nat.{ℕ, ◌<◌}
use borrow.Author.Tests.{ne_eqb}
use lib.Dec.{eqb}
use lib.ListN.{get_or}
use Rattle.cycle.specs.Notation.{tabulate}
use Rattle.cycle.proofs.Digits.{get_d_tabulate}
use Rattle.card_format.specs.Fields.{Field, row, field, fields, field_count, table_bit}
use Rattle.card_format.proofs.Fields.{each_number}
use Rattle.card_fields.specs.declared.field.Row.{Row}

-- what `of` gives of each field of a card of m words, and 0 at the table's bit
unfoldable pub array_of : ℕ → (Field → ℕ) → List ℕ
array_of m of = tabulate field_count (λ k. cond (eqb k table_bit) 0 (of (field m k)))

pub array_of_lem : (m : ℕ) (of : Field → ℕ) (k : ℕ) → k < field_count → k ≢ table_bit → get_or (array_of m of) k 0 ≡ of (field m k)
unfolding array_of
array_of_lem m of k l ne = get_d_tabulate field_count _ k l ∙ simp (ne_eqb k table_bit ne)

-- the rows of field.rt, of no words: no number but the table's depends on m
abbrev pub row_of : Field → Row
row_of f = record { size = f.size; least = f.least; most = f.most }

abbrev pub rows : List Row
rows = map row_of (fields 0)

pub row_at : (m k : ℕ) → k < field_count → k ≢ table_bit → get_or rows k (row_of (row 0 0 0 0 [])) ≡ row_of (field m k)
unfolding field fields
row_at m = each_number (λ k. get_or rows k (row_of (row 0 0 0 0 [])) ≡ row_of (field m k)) refl refl refl refl refl refl refl
