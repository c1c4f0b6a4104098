-- Which shovel a pick chooses, and that the order of the list makes no difference to the answer and the state after.
use mathlib.Core.Path.{◌≡◌, refl, sym, ap, ◌∙◌, subst}
use mathlib.Core.List.{List, ◌++◌}
use Prim.Native.Nat.{ℕ, ◌≤◌, ◌<◌}
use native.Mathlib.Nat.{mod-lt}
use native.Mathlib.Decide.{ℕ_discrete}
use lib.ListN.{length, get_or}
use Rattle.tsc.specs.declared.Card.{Card}
use Rattle.tsc.specs.Word.{word}
use Rattle.refusals.specs.Refusals.{Check, first_of}
use Rattle.refusals.proofs.Refusals.{first-left, first_ext}
use Rattle.card_format.specs.Reading.{card_of}
use Rattle.draws.specs.Calls.{call_checks}
use Rattle.ties.specs.Ties.{most_shovels, ties, TieAt, chosen}
use Rattle.ties.specs.Least.{SameTies}
use Rattle.ties.specs.Order.{Permutes, reordered, SameShovels}
use Rattle.ties.proofs.Rank.{tie_of_rank, chosen_is}
use Rattle.ties.proofs.Order.{length-reordered, ties-reordered, chosen-reordered, twice-reordered}
use Rattle.ties.proofs.Alike.{same_count, same_chosen}
use Rattle.tie_list.specs.Checks.{list_checks}
use Rattle.tie_list.proofs.Allowed.{Allowed, list_allowed}
use Rattle.samples.specs.Samples.{taken, drawn_rank, drawn_state, tie_checks}
use Rattle.picks.specs.declared.Pick.TheVariants.{Shovel}
use Rattle.picks.specs.Picks.{pick_refusal, picking, picked}
use Rattle.picks.proofs.Picking.{pick_passed, picking-refused, picking-chosen, ties-few}

-- ---- the choice

-- the rank drawn is one of the ties' ranks
pub drawn-rank_lt : (card : Card) (xs : List ℕ) (k : ℕ) → 0 < k → drawn_rank card xs k < k
drawn-rank_lt card xs k = mod-lt (word card (drawn_state card xs k))

module _ (bytes xs shovels times : List ℕ) (none : pick_refusal bytes xs shovels times ≡ 0) where
  allowed : Allowed shovels times
  allowed = (pick_passed bytes xs shovels times none).1

  -- k is from 1 to 64
  pub ties_from_one : (0 < ties times) × (ties times ≤ most_shovels)
  ties_from_one = ties-few allowed

  -- the chosen shovel is one of the ties, and has as many ties below it as the rank drawn says
  pub pick_chooses : let card = card_of bytes in
      let k = ties times in
      (i : ℕ) × TieAt shovels times (drawn_rank card xs k) i × (picking bytes xs shovels times ≡ Shovel (get_or shovels i 0) k (taken card xs k))
  pick_chooses =
      let card = card_of bytes in
      let k : ℕ = ties times in
      let r : ℕ = drawn_rank card xs k in
      let t = tie_of_rank shovels times allowed.once allowed.paired r (drawn-rank_lt card xs k ties_from_one.0) in (
        t.0,
        t.1,
        sym (picking-chosen bytes xs shovels times none).0 ∙ ap (λ (s : ℕ). Shovel s k (taken card xs k)) (chosen_is shovels times r t.0 t.1),
      )

-- ---- the order

module _ (f : ℕ → ℕ) (shovels times : List ℕ) (s : Permutes (length shovels) f) where
  checks_reordered : list_checks (reordered f shovels) (reordered f times) ≡ list_checks shovels times
  unfolding list_checks
  checks_reordered = rw (length-reordered f shovels, length-reordered f times, twice-reordered f shovels s) refl

  -- a list that is not refused has as many times as shovels
  permutes-times : Allowed shovels times → Permutes (length times) f
  permutes-times ok = subst (λ (n : ℕ). Permutes n f) ok.paired s

  module _ (bytes xs : List ℕ) where
    pub refusal-reordered : pick_refusal bytes xs (reordered f shovels) (reordered f times) ≡ pick_refusal bytes xs shovels times
    unfolding pick_refusal
    refusal-reordered = first_ext (call_checks bytes xs) _ _ (rw checks_reordered (go (ℕ_discrete (first_of (list_checks shovels times)) 0)))
      where
        many : List ℕ → List Check
        many times = tie_checks (card_of bytes).width (ties times)

        go : Dec (first_of (list_checks shovels times) ≡ 0)
            → first_of (list_checks shovels times ++ many (reordered f times)) ≡ first_of (list_checks shovels times ++ many times)
        go (yes z) =
            ap (λ (k : ℕ). first_of (list_checks shovels times ++ tie_checks (card_of bytes).width k)) (ties-reordered f times (permutes-times (list_allowed shovels times z)))
        go (no n) = first-left (list_checks shovels times) _ n ∙ sym (first-left (list_checks shovels times) _ n)

    pick_reordered : (picking bytes xs (reordered f shovels) (reordered f times) ≡ picking bytes xs shovels times)
        × (picked bytes xs (reordered f shovels) (reordered f times) ≡ picked bytes xs shovels times)
    pick_reordered = go (ℕ_discrete (pick_refusal bytes xs shovels times) 0)
      where
        go : Dec (pick_refusal bytes xs shovels times ≡ 0)
            → (picking bytes xs (reordered f shovels) (reordered f times) ≡ picking bytes xs shovels times)
            × (picked bytes xs (reordered f shovels) (reordered f times) ≡ picked bytes xs shovels times)
        go (yes z) =
            let ok = (pick_passed bytes xs shovels times z).1 in
            let p = permutes-times ok in
            let card = card_of bytes in
            let k : ℕ = ties times in
            let e = ties-reordered f times p in
            let same = chosen-reordered f times p shovels ok.paired ok.once (drawn_rank card xs k) (drawn-rank_lt card xs k (ties-few ok).0) in
            let a = picking-chosen bytes xs (reordered f shovels) (reordered f times) (refusal-reordered ∙ z) in
            let b = picking-chosen bytes xs shovels times z in (
              sym a.0 ∙ ap (λ (k : ℕ). Shovel (chosen (reordered f shovels) (reordered f times) (drawn_rank card xs k)) k (taken card xs k)) e
                  ∙ ap (λ (s : ℕ). Shovel s k (taken card xs k)) same ∙ b.0,
              sym a.1 ∙ ap (drawn_state card xs) e ∙ b.1,
            )
        go (no n) =
            let a = picking-refused bytes xs (reordered f shovels) (reordered f times) _ n (sym refusal-reordered) in
            let b = picking-refused bytes xs shovels times _ n refl in
            (sym a.0 ∙ b.0, sym a.1 ∙ b.1)

-- THE ORDER MAKES NO DIFFERENCE: the same shovels with the same times in any order, the same answer and the same state, refusals included
pub pick_order : (bytes xs shovels times shovels₂ times₂ : List ℕ) → SameShovels shovels times shovels₂ times₂
    → (picking bytes xs shovels₂ times₂ ≡ picking bytes xs shovels times) × (picked bytes xs shovels₂ times₂ ≡ picked bytes xs shovels times)
pick_order bytes xs shovels times shovels₂ times₂ h = rw (h.numbers, h.durations) (pick_reordered h.order shovels times h.permutes bytes xs)

-- nothing of the times matters but which shovels tie
pub pick_alike : (bytes xs shovels times times₂ : List ℕ) → SameTies times times₂
    → (picking bytes xs shovels times ≡ picking bytes xs shovels times₂) × (picked bytes xs shovels times ≡ picked bytes xs shovels times₂)
unfolding pick_refusal picking picked list_checks
pick_alike bytes xs shovels times times₂ s =
    let k = same_count times times₂ s in
    (rw (s.size, k, same_chosen times times₂ s shovels (drawn_rank (card_of bytes) xs (ties times₂))) refl, rw (s.size, k) refl)
