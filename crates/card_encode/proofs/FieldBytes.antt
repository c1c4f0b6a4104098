-- For the writer: the bytes of a field of one number.
use mathlib.Core.Path.{◌≡◌, ap, ap₂, ◌∙◌}
use mathlib.Core.Logic.{◌≢◌}
use mathlib.Core.Bool.{true}
use mathlib.Core.List.{[], ◌∷◌}
use Prim.Native.Nat.{ℕ, ◌*◌, ◌/◌, ◌%◌, ◌^◌, ◌<◌}
use native.Mathlib.Omega.{arith}
use native.Mathlib.Nat.{one-mul, div-eq_of_lt, mod-eq_of_lt}
use lib.ListN.{get_or}
use Rattle.cycle.proofs.Digits.{tabulate_ext}
use Rattle.tsc.specs.declared.Card.{Card}
use Rattle.card_format.specs.Fields.{Field, field, field_count, table_bit, extent, bytes_of}
use Rattle.card_format.specs.Writing.{numbers_of, is_written, field_bytes}
use Rattle.card_format.proofs.Fields.{count-one}
use Rattle.card_format.proofs.Writing.{byte_at}
use Rattle.card_fields.specs.LowBytes.{low_bytes}

-- a number's bytes are its digits
bytes_of-one : (f : Field) (x : ℕ) → f.count ≡ 1 → bytes_of f (x ∷ []) ≡ low_bytes x (extent f)
unfolding bytes_of low_bytes
bytes_of-one f x one =
    let s = f.size in
    let whole : extent f ≡ s = ap (λ (n : ℕ). n * s) one ∙ one-mul s in
    tabulate_ext (extent f) (byte_at s (x ∷ [])) (λ i. x / 256 ^ i % 256)
    (λ p lp. let l : p < s = omega (arith, whole) in ap₂ (λ (q r : ℕ). get_or (x ∷ []) q 0 / 256 ^ r % 256) (div-eq_of_lt l) (mod-eq_of_lt l))

pub field_bytes-one : (card : Card) (k x : ℕ) → k < field_count → k ≢ table_bit → numbers_of card k ≡ x ∷ [] → is_written card k ≡ true
    → field_bytes card k ≡ low_bytes x (extent (field card.words k))
unfolding field_bytes
field_bytes-one card k x l ne e w = rw (w, e) (bytes_of-one (field card.words k) x (count-one card.words k l ne))
