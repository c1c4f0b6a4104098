-- Numbers by their digits, up to 32 bits.
use Rattle.std.specs.Prelude.{Bool, cond, ◌&&◌, List, [], ◌∷◌, ℕ, ◌+◌, ◌-◌, ◌*◌, Option, Some, None, eqb, leb, ltb, length, get_or, drop}

-- from the left: f of the start and the first, then of that and the second, and so on
unfoldable pub fold : {A B : Type 0} → (A → B → A) → A → List B → A
fold f a [] = a
fold f a (x ∷ xs) = fold f (f a x) xs

-- a hex digit's value, of either case; 16 for any other byte
unfoldable pub digit_of : ℕ → ℕ
digit_of b =
    cond (leb 48 b && leb b 57) (b - 48)  -- 0 to 9
    (cond (leb 65 b && leb b 70) (b - 55)  -- A to F
    (cond (leb 97 b && leb b 102) (b - 87) 16))  -- a to f

abbrev pub most_number : ℕ
most_number = 0xffffffff

-- a number with a digit put to it; none where it is too large or the digit is none of the base, and none stays none
unfoldable pub with_digit : ℕ → Option ℕ → ℕ → Option ℕ
with_digit base None d = None
with_digit base (Some x) d = cond (ltb d base && leb (x * base + d) most_number) (Some (x * base + d)) None

-- the number that digits say, of which there is one at least
unfoldable pub numeral : ℕ → List ℕ → Option ℕ
numeral base xs = cond (eqb (length xs) 0) None (fold (λ x c. with_digit base x (digit_of c)) (Some 0) xs)

abbrev pub base_of : Bool → ℕ
base_of hex = cond hex 16 10

-- whether 0x stands in front
unfoldable pub is_hex : List ℕ → Bool
is_hex xs = leb 2 (length xs) && eqb (get_or xs 0 0) 48 && eqb (get_or xs 1 0) 120

-- a constant: in hex behind 0x, else decimal
unfoldable pub constant_in : List ℕ → Option ℕ
constant_in xs = cond (is_hex xs) (numeral 16 (drop 2 xs)) (numeral 10 xs)
