-- What the checks of a recorded pick come to, and what it answers and leaves then.
use mathlib.Core.Path.{◌≡◌, refl, sym, ap, ◌∙◌}
use mathlib.Core.Logic.{◌≢◌}
use mathlib.Core.Bool.{Bool, true, false, cond, ◌||◌, true≢false}
use mathlib.Core.List.{List}
use Prim.Native.Nat.{ℕ, ◌<◌, ◌≤◌}
use native.Mathlib.Decide.{ℕ_discrete}
use native.Mathlib.Omega.{arith}
use borrow.Author.Tests.{ltb-true, ltb-false, lt-ltb, le-ltb, ne_eqb}
use lib.Dec.{ltb}
use lib.ListN.{length}
use Rattle.refusals.specs.declared.Refusal.{Refusal}
use Rattle.refusals.specs.declared.Refusal.TheVariants.{BufferTooSmall}
use Rattle.refusals.specs.Refusals.{number, first_of}
use Rattle.refusals.proofs.Answers.{number_nonzero}
use Rattle.refusals.proofs.Refusals.{first-left, first_right}
use Rattle.tsc.specs.Constants.{most_words}
use Rattle.card_format.specs.Reading.{card_of}
use Rattle.card_format.proofs.Verdict.{accepted_card}
use Rattle.draws.proofs.Opening.{passed}
use Rattle.picks.specs.declared.Pick.{Pick}
use Rattle.picks.specs.declared.Pick.TheVariants.{Refused}
use Rattle.picks.specs.Picks.{pick_checks, pick_refusal, picking, picked}
use Rattle.picks.proofs.Picking.{pick_passed, picking-refused}
use Rattle.records.specs.Fields.{record_bytes, lacks_room}
use Rattle.records.specs.Writing.{recorded_on}
use Rattle.recorded_picks.specs.Recorded.{recorded_refusal, recorded_picking, recorded_state, record_left, recorded_page}

-- ---- room

neither : (a b : Bool) → (a || b) ≡ false → (a ≡ false) × (b ≡ false)
neither true b e = absurd (true≢false e)
neither false b e = (refl, e)

pub has_room : (m room : ℕ) → {b : Bool} → b ≡ lacks_room m room → b ≡ false → (m ≤ most_words) × (record_bytes m ≤ room)
has_room m room eb f = let n = neither _ _ (sym eb ∙ f) in (ltb-false most_words m n.0, ltb-false room (record_bytes m) n.1)

no_room : (m room : ℕ) → m ≤ most_words → lacks_room m room ≡ true → room < record_bytes m
no_room m room few e = ltb-true room (record_bytes m) (sym (ap (λ (b : Bool). b || ltb room (record_bytes m)) (le-ltb most_words m few)) ∙ e)

-- ---- the checks

-- a state of a pick that is not refused has the card's size
module _ (bytes xs shovels times : List ℕ) where
  pub word_size : pick_refusal bytes xs shovels times ≡ 0 → length xs ≡ (card_of bytes).words
  word_size z = (passed bytes xs (pick_passed bytes xs shovels times z).0).1.0

  pub word-few : pick_refusal bytes xs shovels times ≡ 0 → length xs ≤ most_words
  word-few z =
      let ok = accepted_card bytes (passed bytes xs (pick_passed bytes xs shovels times z).0).0 in
      omega (arith, word_size z, ok.few)

module _ (bytes xs shovels times : List ℕ) (room : ℕ) where
  -- what the pick refuses is told first; then the room decides
  pub told_pick : pick_refusal bytes xs shovels times ≢ 0 → recorded_refusal bytes xs shovels times room ≡ pick_refusal bytes xs shovels times
  unfolding recorded_refusal pick_refusal
  told_pick ne = first-left (pick_checks bytes xs shovels times) _ ne

  pub told_room : pick_refusal bytes xs shovels times ≡ 0
      → recorded_refusal bytes xs shovels times room ≡ cond (ltb room (record_bytes (card_of bytes).words)) 16 0
  unfolding recorded_refusal pick_refusal first_of
  told_room z = first_right (pick_checks bytes xs shovels times) _ z

  -- no refusal: the pick is not refused
  pub not_refused : recorded_refusal bytes xs shovels times room ≡ 0 → pick_refusal bytes xs shovels times ≡ 0
  not_refused z = go (ℕ_discrete (pick_refusal bytes xs shovels times) 0)
    where
      go : Dec (pick_refusal bytes xs shovels times ≡ 0) → pick_refusal bytes xs shovels times ≡ 0
      go (yes e) = e
      go (no ne) = absurd (ne (sym (told_pick ne) ∙ z))

  -- 16, for a page without room
  pub told_small : pick_refusal bytes xs shovels times ≡ 0 → room < record_bytes (length xs) → recorded_refusal bytes xs shovels times room ≡ 16
  told_small z l = told_room z ∙ ap (λ (b : Bool). cond b 16 0) (lt-ltb room _ (rw (word_size bytes xs shovels times z) at l))

  pub recorded_passed : recorded_refusal bytes xs shovels times room ≡ 0
      → (recorded_picking bytes xs shovels times room ≡ picking bytes xs shovels times) × (recorded_state bytes xs shovels times room ≡ picked bytes xs shovels times)
  unfolding recorded_picking recorded_state
  recorded_passed z = rw z (refl, refl)

  pub recorded_refused : (r : ℕ) → r ≢ 0 → recorded_refusal bytes xs shovels times room ≡ r
      → (recorded_picking bytes xs shovels times room ≡ Refused r) × (recorded_state bytes xs shovels times room ≡ xs)
  unfolding recorded_picking recorded_state
  recorded_refused r ne e = rw (e, ne_eqb r 0 ne) (refl, refl)

  -- with room it is the pick
  pub recorded_as_pick : record_bytes (length xs) ≤ room
      → (recorded_picking bytes xs shovels times room ≡ picking bytes xs shovels times) × (recorded_state bytes xs shovels times room ≡ picked bytes xs shovels times)
  recorded_as_pick l = go (ℕ_discrete (pick_refusal bytes xs shovels times) 0)
    where
      go : Dec (pick_refusal bytes xs shovels times ≡ 0)
          → (recorded_picking bytes xs shovels times room ≡ picking bytes xs shovels times) × (recorded_state bytes xs shovels times room ≡ picked bytes xs shovels times)
      go (yes z) = recorded_passed (told_room z ∙ ap (λ (b : Bool). cond b 16 0) (le-ltb room _ (rw (word_size bytes xs shovels times z) at l)))
      go (no ne) =
          let a = recorded_refused _ ne (told_pick ne) in
          let b = picking-refused bytes xs shovels times _ ne refl in
          (a.0 ∙ b.0, a.1 ∙ b.1)

-- ---- as the call ends

-- refused: what is lent is left
pub call_refused : (bytes xs shovels times : List ℕ) (truck : ℕ) (page : List ℕ) (r : ℕ) → r ≢ 0
    → recorded_refusal bytes xs shovels times (length page) ≡ r
    → (Refused r ≡ recorded_picking bytes xs shovels times (length page)) × ((xs ≡ recorded_state bytes xs shovels times (length page))
    × (page ≡ recorded_page bytes xs shovels times truck page))
unfolding recorded_page
call_refused bytes xs shovels times truck page r ne e =
    let a = recorded_refused bytes xs shovels times (length page) r ne e in
    (sym a.0, (sym a.1, sym (ap (λ (p : Pick). recorded_on (record_left truck xs p) page) a.0)))

-- by what the pick refuses; or, where that is nothing, by 16
module _ (bytes xs shovels times : List ℕ) (truck : ℕ) (page : List ℕ) where
  pub call_told : (e : Refusal) → pick_refusal bytes xs shovels times ≡ number e
      → (Refused (number e) ≡ recorded_picking bytes xs shovels times (length page)) × ((xs ≡ recorded_state bytes xs shovels times (length page))
      × (page ≡ recorded_page bytes xs shovels times truck page))
  call_told e q =
      call_refused bytes xs shovels times truck page (number e) (number_nonzero e) (told_pick bytes xs shovels times (length page) (λ z. number_nonzero e (sym q ∙ z)) ∙ q)

  pub call_small : pick_refusal bytes xs shovels times ≡ 0 → lacks_room (length xs) (length page) ≡ true
      → (Refused (number BufferTooSmall) ≡ recorded_picking bytes xs shovels times (length page)) × ((xs ≡ recorded_state bytes xs shovels times (length page))
      × (page ≡ recorded_page bytes xs shovels times truck page))
  call_small none t =
      let small = no_room (length xs) (length page) (word-few bytes xs shovels times none) t in
      call_refused bytes xs shovels times truck page (number BufferTooSmall) (number_nonzero BufferTooSmall) (told_small bytes xs shovels times (length page) none small)

-- made: the pick answers p and leaves ys, and its record is put on the page
pub call_made : (bytes xs shovels times : List ℕ) (truck : ℕ) (page : List ℕ) {p : Pick} {ys left : List ℕ} → record_bytes (length xs) ≤ length page
    → p ≡ picking bytes xs shovels times → ys ≡ picked bytes xs shovels times → left ≡ recorded_on (record_left truck xs p) page
    → (p ≡ recorded_picking bytes xs shovels times (length page)) × ((ys ≡ recorded_state bytes xs shovels times (length page))
    × (left ≡ recorded_page bytes xs shovels times truck page))
unfolding recorded_page
call_made bytes xs shovels times truck page l ep ey el =
    let a = recorded_as_pick bytes xs shovels times (length page) l in
    let told = ep ∙ sym a.0 in
    (told, (ey ∙ sym a.1, el ∙ ap (λ (p : Pick). recorded_on (record_left truck xs p) page) told))
