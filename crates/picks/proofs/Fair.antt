-- PICKS ARE FAIR: over the whole orbit the first words send equally many trucks to each of the tied shovels.
use mathlib.Core.Path.{◌≡◌, refl, sym, ap, ◌∙◌}
use mathlib.Core.Logic.{◌≢◌}
use mathlib.Core.Bool.{Bool, true, ◌&&◌}
use mathlib.Core.List.{List}
use Prim.Native.Nat.{ℕ, ◌-◌, ◌*◌, ◌/◌, ◌^◌, ◌<◌}
use borrow.Author.Tests.{eqb-true, eq-eqb}
use lib.Dec.{eqb}
use lib.ListN.{length, get_or}
use Rattle.cycle.specs.Notation.{count}
use Rattle.cycle.proofs.Count.{same_test, count_ext}
use Rattle.tsc.specs.declared.Card.{Card}
use Rattle.tsc.specs.Step.{orbit}
use Rattle.tsc.specs.Coverage.{states}
use Rattle.card_format.specs.Reading.{card_of}
use Rattle.card_format.proofs.Verdict.{accepted_card}
use Rattle.draws.specs.Calls.{refusal_for}
use Rattle.draws.proofs.Opening.{passed}
use Rattle.draws.proofs.Draws.{never_refused, orbit_lists}
use Rattle.ties.specs.Ties.{is_tie, ties, rank, TieAt, chosen}
use Rattle.ties.proofs.Rank.{rank_lt, tie_of_rank, chosen_is}
use Rattle.tie_list.proofs.Allowed.{Allowed}
use Rattle.samples.specs.Samples.{limit, taken, drawn_rank}
use Rattle.samples.proofs.Fair.{first-words_fair}
use Rattle.picks.specs.Picks.{pick_refusal, picking}
use Rattle.picks.specs.Fair.{sent_by_first}
use Rattle.picks.proofs.Picking.{refusal_later, pick_passed, picking-chosen, ties-few}
use Rattle.picks.proofs.Choice.{drawn-rank_lt}

-- a rank below k chooses shovel i exactly where it is that shovel's
chosen_test : (shovels times : List ℕ) → Allowed shovels times → (i : ℕ) → i < length times → is_tie times i ≡ true → (r : ℕ) → r < ties times
    → eqb (chosen shovels times r) (get_or shovels i 0) ≡ eqb r (rank shovels times (get_or shovels i 0))
chosen_test shovels times ok i l t r lr =
    let j = tie_of_rank shovels times ok.once ok.paired r lr in
    let number = chosen_is shovels times r j.0 j.1 in
    let own : TieAt shovels times (rank shovels times (get_or shovels i 0)) i = record { listed = l; tie = t; ranked = refl } in
    same_test _ _
    (λ h. eq-eqb r _ (sym j.1.ranked ∙ ap (rank shovels times) (sym number ∙ eqb-true (chosen shovels times r) (get_or shovels i 0) h)))
    (λ h. eq-eqb _ (get_or shovels i 0) (ap (chosen shovels times) (eqb-true r _ h) ∙ chosen_is shovels times _ i own))

module _ (bytes xs shovels times : List ℕ) (none : pick_refusal bytes xs shovels times ≡ 0) where
  abbrev card : Card
  card = card_of bytes

  abbrev k : ℕ
  k = ties times

  call : refusal_for bytes xs ≡ 0
  call = (pick_passed bytes xs shovels times none).0

  allowed : Allowed shovels times
  allowed = (pick_passed bytes xs shovels times none).1

  -- the pick from a state of the orbit
  module _ (t : ℕ) where
    abbrev ys : List ℕ
    ys = orbit card xs t

    clear : pick_refusal bytes ys shovels times ≡ 0
    clear = sym (refusal_later bytes ys shovels times (never_refused bytes xs call t)) ∙ refusal_later bytes xs shovels times call ∙ none

    sent : (i : ℕ) → i < length times → is_tie times i ≡ true → let number = get_or shovels i 0 in
        sent_by_first number (picking bytes ys shovels times) ≡ (eqb (taken card ys k) 1 && eqb (drawn_rank card ys k) (rank shovels times number))
    sent i l e =
        ap (sent_by_first (get_or shovels i 0)) (sym (picking-chosen bytes ys shovels times clear).0)
        ∙ ap (λ (b : Bool). eqb (taken card ys k) 1 && b)
        (chosen_test shovels times allowed i l e (drawn_rank card ys k) (drawn-rank_lt card ys k (ties-few allowed).0))

  -- among two ties or more
  pub picks_fair : ties times ≢ 1 → (i : ℕ) → i < length times → is_tie times i ≡ true
      → count (states (card_of bytes)) (λ t. sent_by_first (get_or shovels i 0) (picking bytes (orbit (card_of bytes) xs t) shovels times))
      ≡ limit (card_of bytes) (ties times) / ties times * 2 ^ (((card_of bytes).words - 1) * (card_of bytes).width)
  picks_fair n i l e =
      let ok = accepted_card bytes (passed bytes xs call).0 in
      count_ext (states card) _ _ (λ t lt. sent t i l e)
      ∙ first-words_fair card ok.formed ok.formed.words ok.period (orbit card xs) (orbit_lists bytes xs call) k _ n (rank_lt shovels times i l e)
