-- THE ORDER MAKES NO DIFFERENCE to a recorded pick: the same shovels with the same times in any order, the same answer, state, record and page; and the standby's
-- records over a shift are the server's.
use mathlib.Core.Path.{◌≡◌, refl, sym, ap, ap₂, ◌∙◌}
use mathlib.Core.Bool.{cond}
use mathlib.Core.List.{List, [], ◌∷◌}
use Prim.Native.Nat.{ℕ}
use native.Mathlib.Decide.{ℕ_discrete}
use borrow.Author.Tests.{eq-eqb, ne_eqb}
use lib.Dec.{eqb, ltb}
use lib.ListN.{length}
use Rattle.card_format.specs.Reading.{card_of}
use Rattle.ties.specs.Order.{SameShovels}
use Rattle.records.specs.Fields.{record_bytes}
use Rattle.picks.specs.declared.Pick.{Pick}
use Rattle.picks.specs.declared.Pick.TheVariants.{Refused}
use Rattle.picks.specs.Picks.{pick_refusal}
use Rattle.picks.proofs.Choice.{refusal-reordered, pick_order}
use Rattle.records.specs.Writing.{recorded_on}
use Rattle.recorded_picks.specs.Recorded.{recorded_refusal, recorded_picking, recorded_state, record_left, recorded_page}
use Rattle.recorded_picks.specs.Shift.{Dispatch, pages_lent, Outcome, answer_to, state_left, page_left, outcome, outcomes, end_state, pages_after, SameDispatch, AlikeDispatches}
use Rattle.recorded_picks.proofs.Recorded.{told_pick, told_room}

-- a recorded pick's refusal, by the pick's and the room
refusal_by_pick : (bytes xs shovels times : List ℕ) (room : ℕ) → let r = pick_refusal bytes xs shovels times in
    recorded_refusal bytes xs shovels times room ≡ cond (eqb r 0) (cond (ltb room (record_bytes (card_of bytes).words)) 16 0) r
refusal_by_pick bytes xs shovels times room = go (ℕ_discrete (pick_refusal bytes xs shovels times) 0)
  where
    go : Dec (pick_refusal bytes xs shovels times ≡ 0) → let r = pick_refusal bytes xs shovels times in
        recorded_refusal bytes xs shovels times room ≡ cond (eqb r 0) (cond (ltb room (record_bytes (card_of bytes).words)) 16 0) r
    go (yes z) = told_room bytes xs shovels times room z ∙ rw (eq-eqb (pick_refusal bytes xs shovels times) 0 z) refl
    go (no ne) = told_pick bytes xs shovels times room ne ∙ rw (ne_eqb (pick_refusal bytes xs shovels times) 0 ne) refl

module _ (bytes xs shovels times shovels₂ times₂ : List ℕ) (h : SameShovels shovels times shovels₂ times₂) where
  same-refusal : (room : ℕ) → recorded_refusal bytes xs shovels₂ times₂ room ≡ recorded_refusal bytes xs shovels times room
  same-refusal room =
      let e : pick_refusal bytes xs shovels₂ times₂ ≡ pick_refusal bytes xs shovels times =
      rw (h.numbers, h.durations) (refusal-reordered h.order shovels times h.permutes bytes xs) in
      refusal_by_pick bytes xs shovels₂ times₂ room ∙ ap (λ (r : ℕ). cond (eqb r 0) (cond (ltb room (record_bytes (card_of bytes).words)) 16 0) r) e
      ∙ sym (refusal_by_pick bytes xs shovels times room)

  pub recorded_order : (room : ℕ) → (recorded_picking bytes xs shovels₂ times₂ room ≡ recorded_picking bytes xs shovels times room)
      × (recorded_state bytes xs shovels₂ times₂ room ≡ recorded_state bytes xs shovels times room)
  unfolding recorded_picking recorded_state
  recorded_order room =
      let o = pick_order bytes xs shovels times shovels₂ times₂ h in
      let e = same-refusal room in
      (λ i. cond (eqb (e i) 0) (o.0 i) (Refused (e i)), λ i. cond (eqb (e i) 0) (o.1 i) xs)

  pub page-order : (truck : ℕ) (page : List ℕ) → recorded_page bytes xs shovels₂ times₂ truck page ≡ recorded_page bytes xs shovels times truck page
  unfolding recorded_page
  page-order truck page = ap (λ (p : Pick). recorded_on (record_left truck xs p) page) (recorded_order (length page)).0

-- ---- over a shift

-- by the page's length, then by the list
same_answer : (bytes xs : List ℕ) (d e : Dispatch) → SameDispatch d e → (answer_to bytes xs e ≡ answer_to bytes xs d) × (state_left bytes xs e ≡ state_left bytes xs d)
same_answer bytes xs d e h =
    let q = e.request in
    let o = recorded_order bytes xs d.request.shovels d.request.times q.shovels q.times h.request (length d.page) in (
      ap (recorded_picking bytes xs q.shovels q.times) h.room ∙ o.0,
      ap (recorded_state bytes xs q.shovels q.times) h.room ∙ o.1,
    )

same_outcome : (bytes xs : List ℕ) (d e : Dispatch) → SameDispatch d e → outcome bytes xs e ≡ outcome bytes xs d
same_outcome bytes xs d e h =
    let a = (same_answer bytes xs d e h).0 in
    λ i. record { answer = a i; left = record_left (h.truck i) xs (a i) }

pub standby_records : (bytes xs : List ℕ) (ds es : List Dispatch) → AlikeDispatches ds es
    → (outcomes bytes xs es ≡ outcomes bytes xs ds) × (end_state bytes xs es ≡ end_state bytes xs ds)
unfolding outcomes end_state AlikeDispatches
standby_records bytes xs [] [] h = (refl, refl)
standby_records bytes xs [] (e ∷ es) h = absurd h
standby_records bytes xs (d ∷ ds) [] h = absurd h
standby_records bytes xs (d ∷ ds) (e ∷ es) h =
    let s = (same_answer bytes xs d e h.0).1 in
    let ih = standby_records bytes (state_left bytes xs d) ds es h.1 in (
      ap₂ (λ (o : Outcome) (rest : List Outcome). o ∷ rest) (same_outcome bytes xs d e h.0) (ap (λ (ys : List ℕ). outcomes bytes ys es) s ∙ ih.0),
      ap (λ (ys : List ℕ). end_state bytes ys es) s ∙ ih.1,
    )

-- the pages after a shift have these records at their fronts
with_records : List Outcome → List (List ℕ) → List (List ℕ)
with_records [] pages = []
with_records (o ∷ os) [] = []
with_records (o ∷ os) (p ∷ pages) = recorded_on o.left p ∷ with_records os pages

pages_recorded : (bytes xs : List ℕ) (ds : List Dispatch) → pages_after bytes xs ds ≡ with_records (outcomes bytes xs ds) (pages_lent ds)
unfolding pages_after with_records outcomes recorded_page
pages_recorded bytes xs [] = refl
pages_recorded bytes xs (d ∷ ds) = ap (λ (rest : List (List ℕ)). page_left bytes xs d ∷ rest) (pages_recorded bytes (state_left bytes xs d) ds)

pub standby_pages : (bytes xs : List ℕ) (ds es : List Dispatch) → AlikeDispatches ds es → pages_lent es ≡ pages_lent ds
    → pages_after bytes xs es ≡ pages_after bytes xs ds
standby_pages bytes xs ds es h e =
    pages_recorded bytes xs es ∙ ap₂ with_records (standby_records bytes xs ds es h).0 e ∙ sym (pages_recorded bytes xs ds)
