-- THE DESK READS BACK what a recorded pick wrote of a tie, and a pick from the state that it reads goes the same way.
use mathlib.Core.Path.{◌≡◌, refl, sym, ap, ◌∙◌, subst}
use mathlib.Core.Logic.{◌≢◌}
use mathlib.Core.Bool.{Bool, true, false, cond, true≢false}
use mathlib.Core.List.{List, []}
use Prim.Native.Nat.{ℕ, ◌^◌, ◌≤◌, ◌<◌}
use native.Mathlib.Decide.{ℕ_discrete}
use native.Mathlib.Nat.{lt_of_lt_of_le}
use native.Mathlib.Omega.{arith}
use borrow.Author.Tests.{ne_eqb}
use lib.ListN.{length, get_or, take, drop}
use lib.Pow.{pow_mono}
use lib.Seq.{take_at, drop_at}
use Rattle.tsc.specs.Constants.{fewest_words, most_words}
use Rattle.card_format.specs.Reading.{card_of}
use Rattle.card_format.proofs.Verdict.{accepted_card}
use Rattle.draws.proofs.Opening.{passed}
use Rattle.ties.specs.Ties.{ties}
use Rattle.samples.proofs.Tried.{taken-few}
use Rattle.picks.specs.declared.Pick.{Pick}
use Rattle.picks.specs.declared.Pick.TheVariants.{Shovel, Refused}
use Rattle.picks.specs.Picks.{pick_refusal, picking, words_taken, picked}
use Rattle.picks.proofs.Picking.{shovel_of, ties_of, pick_passed, ties-few}
use Rattle.picks.proofs.Choice.{pick_chooses}
use Rattle.records.specs.Fields.{record_bytes}
use Rattle.std.specs.Prelude.{Ok}
use Rattle.records.specs.Reading.{Whole, record_of, reading_record}
use Rattle.records.specs.Writing.{state_of, encoded, Fits, full_record, recorded_on}
use Rattle.records.proofs.Full.{state_full, length_full, full_fits}
use Rattle.records.proofs.Reading.{reading_whole}
use Rattle.records.proofs.Writing.{encoded_whole, encoded_back}
use Rattle.recorded_picks.specs.Recorded.{Halves, recorded_refusal, recorded_picking, recorded_state, record_left, recorded_page}
use Rattle.recorded_picks.proofs.Recorded.{not_refused, word_size, recorded_passed, recorded_refused}

-- whether an answer is one
abbrev is_shovel : Pick → Bool
is_shovel (Shovel s k t) = true
is_shovel (Refused r) = false

module _ (bytes xs shovels times : List ℕ) (room s k t : ℕ) (answer : recorded_picking bytes xs shovels times room ≡ Shovel s k t) where
  none : recorded_refusal bytes xs shovels times room ≡ 0
  none = go (ℕ_discrete (recorded_refusal bytes xs shovels times room) 0)
    where
      go : Dec (recorded_refusal bytes xs shovels times room ≡ 0) → recorded_refusal bytes xs shovels times room ≡ 0
      go (yes z) = z
      go (no ne) = absurd (true≢false (sym (ap is_shovel answer) ∙ ap is_shovel (recorded_refused bytes xs shovels times room _ ne refl).0))

  unrefused : pick_refusal bytes xs shovels times ≡ 0
  unrefused = not_refused bytes xs shovels times room none

  -- the pick answers the same
  as_picked : (picking bytes xs shovels times ≡ Shovel s k t) × (recorded_state bytes xs shovels times room ≡ picked bytes xs shovels times)
  as_picked = let p = recorded_passed bytes xs shovels times room none in (sym p.0 ∙ answer, p.1)

  -- what it answers fits the fields
  fields_fit : Halves shovels → (s < 65536) × (k < 256) × (t < 256)
  fields_fit h =
      let c = pick_chooses bytes xs shovels times unrefused in
      let e = sym c.2 ∙ as_picked.0 in
      let ok = (pick_passed bytes xs shovels times unrefused).1 in (
        subst (λ (x : ℕ). x < 65536) (ap shovel_of e) (h c.0 (omega (arith, c.1.listed, ok.paired))),
        omega (arith, ap ties_of e, (ties-few ok).1),
        omega (arith, ap words_taken e, taken-few (card_of bytes) xs (ties times)),
      )

  -- and so does the state
  state-fits : (fewest_words ≤ length xs) × (length xs ≤ most_words) × ((i : ℕ) → i < length xs → get_or xs i 0 < 2 ^ 32)
  state-fits =
      let call = passed bytes xs (pick_passed bytes xs shovels times unrefused).0 in
      let ok = accepted_card bytes call.0 in
      let size = call.1.0 in (
        omega (arith, size, ok.formed.words),
        omega (arith, size, ok.few),
        λ i l. lt_of_lt_of_le (call.1.1 i (omega (arith, size))) (pow_mono ok.narrow),
      )

  module _ (truck : ℕ) (lt : truck < 65536) (h : Halves shovels) (tie : k ≢ 1) where
    -- the record
    abbrev left : List ℕ
    left = record_left truck xs (recorded_picking bytes xs shovels times room)

    left_is : left ≡ encoded (full_record truck s k t xs)
    left_is = ap (record_left truck xs) answer ∙ ap (λ (b : Bool). cond b [] (encoded (full_record truck s k t xs))) (ne_eqb k 1 tie)

    fits : Fits (full_record truck s k t xs)
    fits =
        let f = fields_fit h in
        let z = state-fits in
        full_fits truck s k t xs lt f.0 f.1 f.2 (omega (arith, z.1)) z.0 z.1 z.2

    record_whole : Whole left
    record_whole = rw left_is (encoded_whole _ fits)

    record_back : record_of left ≡ full_record truck s k t xs
    record_back = ap record_of left_is ∙ encoded_back _ fits

    record_length : length left ≡ record_bytes (card_of bytes).words
    record_length =
        let f = fields_fit h in
        let z = state-fits in
        ap length left_is ∙ length_full truck s k t xs lt f.0 f.1 f.2 (omega (arith, z.1)) ∙ ap record_bytes (word_size bytes xs shovels times unrefused)

    pub record_read : Whole left × (reading_record left ≡ Ok (full_record truck s k t xs))
    record_read = (record_whole, reading_whole left record_whole ∙ ap Ok record_back)

    -- it stands at the front of the page
    pub page-left : (page : List ℕ) → length page ≡ room → let n = record_bytes (card_of bytes).words in let after = recorded_page bytes xs shovels times truck page in
        (take n after ≡ left) × (drop n after ≡ drop n page)
    unfolding recorded_page
    page-left page e = rw e (take_at left _ _ record_length, drop_at left _ _ record_length ∙ ap (λ (n : ℕ). drop n page) record_length)

    -- a pick from the state that is read
    pub record_replayed : let ys = state_of (full_record truck s k t xs) in
        (picking bytes ys shovels times ≡ Shovel s k t) × (picked bytes ys shovels times ≡ recorded_state bytes xs shovels times room)
    record_replayed = rw (state_full truck s k t xs) (as_picked.0, sym as_picked.1)

-- without a tie the page is as it was
pub page-kept : (bytes xs shovels times : List ℕ) (truck : ℕ) (page : List ℕ) (s t : ℕ) → recorded_picking bytes xs shovels times (length page) ≡ Shovel s 1 t
    → recorded_page bytes xs shovels times truck page ≡ page
unfolding recorded_page
page-kept bytes xs shovels times truck page s t e = ap (λ (p : Pick). recorded_on (record_left truck xs p) page) e
