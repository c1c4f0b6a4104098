-- Text as bytes: where a byte stands, and the parts between separators.
use Rattle.std.specs.Prelude.{cond, List, [], ◌∷◌, ℕ, suc, eqb}

-- where a byte first stands; the length where it doesn't
unfoldable pub index_of : ℕ → List ℕ → ℕ
index_of b [] = 0
index_of b (x ∷ xs) = cond (eqb x b) 0 (suc (index_of b xs))

-- x put before the first part
unfoldable pub before : ℕ → List (List ℕ) → List (List ℕ)
before x [] = []
before x (p ∷ ps) = (x ∷ p) ∷ ps

-- the parts of a text between separators, one more than there are separators
unfoldable pub parts : ℕ → List ℕ → List (List ℕ)
parts separator [] = [] ∷ []
parts separator (x ∷ xs) = cond (eqb x separator) ([] ∷ parts separator xs) (before x (parts separator xs))

abbrev pub blank : ℕ
blank = 32

abbrev pub comma : ℕ
comma = 44
