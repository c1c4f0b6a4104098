-- Picks one after the other, as over a shift: each begins with the state that the one before it left.
use Rattle.std.specs.Prelude.{List, [], ◌∷◌, ℕ}
use Rattle.ties.specs.Order.{SameShovels}
use Rattle.picks.specs.declared.Pick.{Pick}
use Rattle.picks.specs.Picks.{picking, picked}

-- what a server hands over for a truck: the shovels and their times
pub record Request : Type 0 where
  pub shovels : List ℕ
  pub times : List ℕ

-- the answers, and the state words at the end
unfoldable pub answers : List ℕ → List ℕ → List Request → List Pick
answers bytes xs [] = []
answers bytes xs (q ∷ qs) = picking bytes xs q.shovels q.times ∷ answers bytes (picked bytes xs q.shovels q.times) qs

unfoldable pub state_after : List ℕ → List ℕ → List Request → List ℕ
state_after bytes xs [] = xs
state_after bytes xs (q ∷ qs) = state_after bytes (picked bytes xs q.shovels q.times) qs

-- the same requests, each list in an order of its own
unfoldable pub Alike : List Request → List Request → Type 0
Alike [] [] = Unit {0}
Alike [] (r ∷ rs) = ⊥
Alike (q ∷ qs) [] = ⊥
Alike (q ∷ qs) (r ∷ rs) = SameShovels q.shovels q.times r.shovels r.times × Alike qs rs
