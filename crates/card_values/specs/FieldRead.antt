-- What the functions that the reader calls answer. Only their contracts cite these; the reader's own does without.
use Rattle.std.specs.Prelude.{Bool, cond, not, ◌&&◌, List, [], ◌∷◌, ◌++◌, ℕ, ◌^◌, eqb, leb, ltb, length, get_or, set, take, drop, Result}
use Rattle.card_values.specs.declared.values.Values.{Values}
use Rattle.tsc.specs.Constants.{default_words}
use Rattle.refusals.specs.Refusals.{Check, check, first_of, answered}
use Rattle.refusals.specs.declared.Refusal.TheVariants.{TableMissing, TrailingBytes}
use Rattle.card_format.specs.Fields.{field, field_count, table_bit, extent, numbers}
use Rattle.card_format.specs.Reading.{part_checks, card_from, constant_check}

-- the first refusal of field k's checks, or 0; the field stands at the start of the part, here and below
abbrev pub field_refusal : ℕ → List ℕ → Values → ℕ
field_refusal k part v = first_of (part_checks (field (get_or v.numbers 0 0) k) part)

-- the numbers after field k
abbrev pub field_values : ℕ → List ℕ → Values → Values
field_values k part v =
    let f = field (get_or v.numbers 0 0) k in
    record { used = extent f; numbers = cond (eqb k table_bit) v.numbers (set v.numbers k (get_or (numbers f part) 0 0)) }

-- what a field's reader answers
unfoldable pub field_read : ℕ → List ℕ → Values → Result Values ℕ
field_read k part v = answered (field_refusal k part v) (field_values k part v)

-- the table after field k: where the table's bytes are there, they are its first entries, whatever they are
unfoldable pub table_read : ℕ → List ℕ → Values → List ℕ → List ℕ
table_read k part v table =
    let size = 2 ^ get_or v.numbers 0 0 in
    cond (eqb k table_bit && leb size (length part)) (take size part ++ drop size table) table

-- whether no table stands between the fields `next` and k, though m is not the default
abbrev pub missing : ℕ → ℕ → ℕ → Bool
missing next k m = leb next table_bit && ltb table_bit k && not (eqb m default_words)

-- what the end of a card of `size` bytes is refused for, where no field from `next` on is left and the last one ended at `at`
unfoldable pub end_checks : ℕ → ℕ → ℕ → Values → List Check
end_checks size next at v =
    let n : ℕ → ℕ = λ k. get_or v.numbers k 0 in
    check TableMissing (missing next field_count (n 0))
    ∷ check TrailingBytes (ltb at size)
    ∷ constant_check (card_from n [])
    ∷ []
