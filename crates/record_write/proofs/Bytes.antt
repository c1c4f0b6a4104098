-- The bytes of a state's words, put one word after the other.
use mathlib.Core.Path.{◌≡◌, sym, ap, ap₂, ◌∙◌}
use mathlib.Core.List.{List, ◌∷◌, [], ◌++◌}
use Prim.Native.Nat.{ℕ, ◌+◌, ◌*◌, ◌/◌, ◌%◌, ◌^◌, ◌≤◌, ◌<◌}
use native.Mathlib.Nat.{mul_comm, div-one}
use native.Mathlib.Omega.{arith}
use lib.Arith.{digits_lt, digits_div, digits_mod}
use lib.ListN.{length, get_or, take, drop, length-drop}
use lib.Seq.{get_or-drop, take-add}
use Rattle.std.specs.Int.{w32, to_le_bytes}
use Rattle.cycle.specs.Notation.{tabulate}
use Rattle.cycle.proofs.Digits.{get_d_tabulate, tabulate_ext, tabulate-get_or}
use Rattle.card_format.specs.Fields.{bytes_of}
use Rattle.card_format.proofs.Bytes.{length-bytes_of}
use Rattle.records.specs.Fields.{word_field}

pub length-bytes : (xs : List ℕ) → length (bytes_of (word_field (length xs)) xs) ≡ 4 * length xs
length-bytes xs = length-bytes_of (word_field (length xs)) xs ∙ mul_comm (length xs) 4

-- the four bytes of a word
le_bytes : (x : ℕ) → to_le_bytes w32 x ≡ tabulate 4 (λ i. x / 256 ^ i % 256)
unfolding tabulate
le_bytes x = ap (λ (y : ℕ). y % 256 ∷ x / 256 ^ 1 % 256 ∷ x / 256 ^ 2 % 256 ∷ x / 256 ^ 3 % 256 ∷ []) (sym (div-one x))

-- the bytes of the words before word k, and those of word k
pub bytes_next : (xs : List ℕ) (k : ℕ) → k < length xs → let b = bytes_of (word_field (length xs)) xs in
    take (4 * k) b ++ to_le_bytes w32 (get_or xs k 0) ≡ take (4 * (k + 1)) b
unfolding bytes_of
bytes_next xs k l =
    let b = bytes_of (word_field (length xs)) xs in
    let e : 4 * k + 4 ≡ 4 * (k + 1) = omega arith in
    let room : 4 ≤ length (drop (4 * k) b) = omega (arith, length-drop (4 * k) b, length-bytes xs) in
    ap (λ (r : List ℕ). take (4 * k) b ++ r) (le_bytes (get_or xs k 0) ∙ tabulate_ext 4 _ (λ i. get_or (drop (4 * k) b) i 0) byte ∙ tabulate-get_or 4 (drop (4 * k) b) room)
    ∙ sym (take-add (4 * k) 4 b) ∙ ap (λ (n : ℕ). take n b) e
  where
    byte : (i : ℕ) → i < 4 → get_or xs k 0 / 256 ^ i % 256 ≡ get_or (drop (4 * k) (bytes_of (word_field (length xs)) xs)) i 0
    byte i li =
        let at : k * 4 + i ≡ 4 * k + i = omega arith in
        sym (get_or-drop (4 * k) (bytes_of (word_field (length xs)) xs) i 0 ∙ ap (λ (p : ℕ). get_or (bytes_of (word_field (length xs)) xs) p 0) (sym at)
        ∙ get_d_tabulate (length xs * 4) _ (k * 4 + i) (digits_lt l li)
        ∙ ap₂ (λ (q r : ℕ). get_or xs q 0 / 256 ^ r % 256) (digits_div k li) (digits_mod k li))
