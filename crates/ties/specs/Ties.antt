-- The shovels with the least time and their ranks (document 01, Step, word and pick). Entry i of a list is shovel i's number, or its time, or what stands for times (document 02, Ten).
use Rattle.std.specs.Prelude.{◌≡◌, Bool, true, not, ◌&&◌, List, ℕ, ◌<◌, eqb, leb, ltb, length, get_or}
use Rattle.cycle.specs.Notation.{every, count, first}

-- the most shovels of a list
abbrev pub most_shovels : ℕ
most_shovels = 64

-- whether shovel i is one of the ties (document 01: the equals): no time is less than its own
unfoldable pub is_tie : List ℕ → ℕ → Bool
is_tie times i = every (length times) (λ j. leb (get_or times i 0) (get_or times j 0))

-- k, how many ties there are
unfoldable pub ties : List ℕ → ℕ
ties times = count (length times) (is_tie times)

-- the rank of number x: how many ties have a lower one
unfoldable pub rank : List ℕ → List ℕ → ℕ → ℕ
rank shovels times x = count (length times) (λ i. is_tie times i && ltb (get_or shovels i 0) x)

-- shovel i is a tie, and its rank is r
pub record TieAt (shovels times : List ℕ) (r i : ℕ) : Type 0 where
  pub listed : i < length times
  pub tie : is_tie times i ≡ true
  pub ranked : rank shovels times (get_or shovels i 0) ≡ r

-- the same as a test
unfoldable pub has_rank : List ℕ → List ℕ → ℕ → ℕ → Bool
has_rank shovels times r i = is_tie times i && eqb (rank shovels times (get_or shovels i 0)) r

-- the number of the tie of rank r
unfoldable pub chosen : List ℕ → List ℕ → ℕ → ℕ
chosen shovels times r = get_or shovels (first (length times) (has_rank shovels times r)) 0

-- how often x stands in a list
abbrev pub occurs : List ℕ → ℕ → ℕ
occurs xs x = count (length xs) (λ j. eqb (get_or xs j 0) x)

-- whether a number stands twice: not each stands once at most
unfoldable pub twice : List ℕ → Bool
twice shovels = not (every (length shovels) (λ i. leb (occurs shovels (get_or shovels i 0)) 1))
