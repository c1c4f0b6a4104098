-- Recorded picks one after the other, as over a shift: each begins with the state that the one before it left.
use Rattle.std.specs.Prelude.{◌≡◌, List, [], ◌∷◌, map, ℕ, length}
use Rattle.ties.specs.Order.{SameShovels}
use Rattle.picks.specs.declared.Pick.{Pick}
use Rattle.picks.specs.Shift.{Request}
use Rattle.recorded_picks.specs.Recorded.{recorded_picking, recorded_state, record_left, recorded_page}

-- what a server hands over for a truck: its number, the shovels and their times, and a page
pub record Dispatch : Type 0 where
  pub truck : ℕ
  pub request : Request
  pub page : List ℕ

abbrev pub pages_lent : List Dispatch → List (List ℕ)
pages_lent ds = map (λ (d : Dispatch). d.page) ds

-- what it comes to from a state: the answer and the record, empty where none is left
pub record Outcome : Type 0 where
  pub answer : Pick
  pub left : List ℕ

module _ (bytes xs : List ℕ) (d : Dispatch) where
  abbrev pub answer_to : Pick
  answer_to = recorded_picking bytes xs d.request.shovels d.request.times (length d.page)

  abbrev pub state_left : List ℕ
  state_left = recorded_state bytes xs d.request.shovels d.request.times (length d.page)

  abbrev pub page_left : List ℕ
  page_left = recorded_page bytes xs d.request.shovels d.request.times d.truck d.page

  abbrev pub outcome : Outcome
  outcome = record { answer = answer_to; left = record_left d.truck xs answer_to }

-- over a shift: the outcomes, the pages, and the state words at its end
unfoldable pub outcomes : List ℕ → List ℕ → List Dispatch → List Outcome
outcomes bytes xs [] = []
outcomes bytes xs (d ∷ ds) = outcome bytes xs d ∷ outcomes bytes (state_left bytes xs d) ds

unfoldable pub pages_after : List ℕ → List ℕ → List Dispatch → List (List ℕ)
pages_after bytes xs [] = []
pages_after bytes xs (d ∷ ds) = page_left bytes xs d ∷ pages_after bytes (state_left bytes xs d) ds

unfoldable pub end_state : List ℕ → List ℕ → List Dispatch → List ℕ
end_state bytes xs [] = xs
end_state bytes xs (d ∷ ds) = end_state bytes (state_left bytes xs d) ds

-- the same dispatches, each list in an order of its own, and on pages of the same length, whatever they hold
pub record SameDispatch (d e : Dispatch) : Type 0 where
  pub truck : e.truck ≡ d.truck
  pub request : SameShovels d.request.shovels d.request.times e.request.shovels e.request.times
  pub room : length e.page ≡ length d.page

unfoldable pub AlikeDispatches : List Dispatch → List Dispatch → Type 0
AlikeDispatches [] [] = Unit {0}
AlikeDispatches [] (e ∷ es) = ⊥
AlikeDispatches (d ∷ ds) [] = ⊥
AlikeDispatches (d ∷ ds) (e ∷ es) = SameDispatch d e × AlikeDispatches ds es
