use mathlib.Core.List.{List, [], ◌∷◌}
use Prim.Native.Nat.{ℕ}
use Rattle.tsc.specs.declared.Card.{Card}
use lib.ListN.{get_or}
use Rattle.card_format.proofs.Writing.{numbers_of_single}
use Rattle.card_encode.proofs.values.number_of.Goals as goal

-- the array of a card's numbers
abbrev numbers_array : Card → List ℕ
numbers_array card =
    card.words ∷ card.width ∷ 0 ∷ card.odd_power ∷ card.even_power ∷ card.constant ∷ card.filter ∷ card.sum_term ∷ []

pub returns : goal.returns
returns c = let p = c.requires in
    numbers_of_single (λ k. get_or (numbers_array c.args.card) k 0)
    c.args.card.table c.args.k p.0 p.1
