-- Lists of numbers in a field.
use Rattle.std.specs.Prelude.{Bool, cond, ◌&&◌, List, [], ◌∷◌, map, ℕ, ◌+◌, Option, Some, None, eqb, leb, ltb, length, get_or, set, replicate}
use Rattle.case_numbers.specs.Numbers.{fold, base_of, numeral}
use Rattle.case_fields.specs.Text.{parts, comma}

-- the most numbers of a list
abbrev pub room : ℕ
room = 600

-- an array of words, and how many of them count
pub record Held : Type 0 where
  pub words : List ℕ
  pub count : ℕ

abbrev pub held : List ℕ → ℕ → Held
held words count = record { words = words; count = count }

-- an empty list, with room for so many numbers
abbrev pub empty : ℕ → Held
empty n = held (replicate n 0) 0

-- a list with a number put to it; none where the number is none or above the most or the list is full, and none stays none
unfoldable pub with_number : ℕ → Option Held → Option ℕ → Option Held
with_number most None x = None
with_number most (Some h) None = None
with_number most (Some h) (Some x) = cond (leb x most && ltb h.count (length h.words)) (Some (held (set h.words h.count x) (h.count + 1))) None

-- whether a field is the sign of an empty list
unfoldable pub is_nothing : List ℕ → Bool
is_nothing xs = eqb (length xs) 1 && eqb (get_or xs 0 0) 45

-- numbers up to the most, commas between
unfoldable pub numbers_in : Bool → ℕ → ℕ → List ℕ → Option Held
numbers_in hex most n xs = cond (is_nothing xs) (Some (empty n)) (fold (with_number most) (Some (empty n)) (map (numeral (base_of hex)) (parts comma xs)))

-- two by two, the last alone where they are odd in number
unfoldable pub pairs : List ℕ → List (List ℕ)
pairs [] = []
pairs (x ∷ []) = (x ∷ []) ∷ []
pairs (x ∷ y ∷ zs) = (x ∷ y ∷ []) ∷ pairs zs

-- the byte of two hex digits
abbrev pub pair_value : List ℕ → Option ℕ
pair_value xs = cond (eqb (length xs) 2) (numeral 16 xs) None

-- bytes as pairs of hex digits
unfoldable pub bytes_in : ℕ → List ℕ → Option Held
bytes_in n xs = cond (is_nothing xs) (Some (empty n)) (cond (eqb (length xs) 0) None (fold (with_number 255) (Some (empty n)) (map pair_value (pairs xs))))
