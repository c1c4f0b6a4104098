-- The fields of a card (document 01, The card).
use Rattle.std.specs.Prelude.{Bool, true, false, ◌&&◌, List, [], ◌∷◌, ℕ, ◌+◌, ◌-◌, ◌*◌, ◌/◌, ◌%◌, ◌^◌, ◌<◌, eqb, leb, length, get_or}
use Rattle.cycle.specs.Notation.{sum, tabulate}
use Rattle.tsc.specs.Constants.{fewest_words, most_words, default_words, narrowest_width, widest_width, tsc1_constant, tsc1_table}

-- bytes: numbers below 256
abbrev pub Bytes : List ℕ → Type 0
Bytes xs = (i : ℕ) → i < length xs → get_or xs i 0 < 256

-- a field is `count` numbers of `size` bytes each, low byte first, each from `least` to `most`; `absent` is what stands for it when its bit is 0
pub record Field : Type 0 where
  pub count : ℕ
  pub size : ℕ
  pub least : ℕ
  pub most : ℕ
  pub absent : List ℕ

abbrev pub row : ℕ → ℕ → ℕ → ℕ → List ℕ → Field
row c s l h a = record { count = c; size = s; least = l; most = h; absent = a }

-- the fields of a card of m words, by their bits from 0 up. The table's absent value has 2^defaultWords entries: no table of another m equals it
unfoldable pub fields : ℕ → List Field
fields m =
    -- count, size, least, most, absent
    row 1 1 fewest_words most_words (default_words ∷ [])  -- 0 words m
    ∷ row 1 1 narrowest_width widest_width (32 ∷ [])  -- 1 width n
    ∷ row (2 ^ m) 1 0 (2 ^ m - 1) tsc1_table  -- 2 table
    ∷ row 1 1 0 255 (1 ∷ [])  -- 3 odd power a
    ∷ row 1 1 0 255 (2 ∷ [])  -- 4 even power b
    ∷ row 1 4 0 0xffffffff (tsc1_constant ∷ [])  -- 5 constant C
    ∷ row 1 1 1 2 (1 ∷ [])  -- 6 filter
    ∷ row 1 1 0 1 (1 ∷ [])  -- 7 sum term
    ∷ []

-- field k
unfoldable pub field : ℕ → ℕ → Field
field m k = get_or (fields m) k (row 0 0 0 0 [])

-- how many they are
abbrev pub field_count : ℕ
field_count = 8

-- no accepted card is longer
abbrev pub most_card_bytes : ℕ
most_card_bytes = 267

abbrev pub table_bit : ℕ
table_bit = 2

abbrev pub constant_bit : ℕ
constant_bit = 5

-- the bytes of a field
abbrev pub extent : Field → ℕ
extent f = f.count * f.size

-- the numbers of a field whose bytes are the first of `part`
unfoldable pub numbers : Field → List ℕ → List ℕ
numbers f part = tabulate f.count (λ j. sum f.size (λ i. get_or part (j * f.size + i) 0 * 256 ^ i))

-- the bytes of a field that holds these numbers
unfoldable pub bytes_of : Field → List ℕ → List ℕ
bytes_of f xs = tabulate (extent f) (λ p. get_or xs (p / f.size) 0 / 256 ^ (p % f.size) % 256)

-- whether each number is allowed
unfoldable pub allowed : Field → List ℕ → Bool
allowed f [] = true
allowed f (x ∷ xs) = leb f.least x && leb x f.most && allowed f xs

-- whether two lists are the same
unfoldable pub same : List ℕ → List ℕ → Bool
same [] [] = true
same [] (y ∷ ys) = false
same (x ∷ xs) [] = false
same (x ∷ xs) (y ∷ ys) = eqb x y && same xs ys
