-- What the checks of a pick come to, and its answer and state words then.
use mathlib.Core.Path.{◌≡◌, refl, sym, ap, ◌∙◌}
use mathlib.Core.Logic.{◌≢◌}
use mathlib.Core.List.{List, ◌++◌}
use Prim.Native.Nat.{ℕ, ◌^◌, ◌≤◌, ◌<◌}
use native.Mathlib.Omega.{arith}
use borrow.Author.Tests.{ne_eqb}
use Rattle.tsc.specs.declared.Card.{Card}
use Rattle.refusals.specs.declared.Refusal.{Refusal}
use Rattle.refusals.specs.Refusals.{Check, number, first_of}
use Rattle.refusals.proofs.Answers.{number_nonzero}
use Rattle.card_format.specs.Reading.{card_of}
use Rattle.refusals.proofs.Refusals.{first-left, first_right, first_both}
use Rattle.draws.specs.Calls.{call_checks, refusal_for}
use Rattle.draws.proofs.Opening.{Clear}
use Rattle.ties.specs.Ties.{most_shovels, ties, chosen}
use Rattle.ties.proofs.Least.{ties-some, ties_le}
use Rattle.tie_list.specs.Checks.{list_checks}
use Rattle.tie_list.proofs.Allowed.{Allowed, list_allowed}
use Rattle.samples.specs.Samples.{taken, drawn_rank, drawn_state, tie_checks}
use Rattle.samples.proofs.Many.{ties-within}
use Rattle.picks.specs.declared.Pick.{Pick}
use Rattle.picks.specs.declared.Pick.TheVariants.{Shovel, Refused}
use Rattle.picks.specs.Picks.{pick_refusal, picking, picked}

-- the shovel and the ties that an answer tells; `words_taken` are the words
abbrev pub shovel_of : Pick → ℕ
shovel_of (Shovel s k t) = s
shovel_of (Refused r) = 0

abbrev pub ties_of : Pick → ℕ
ties_of (Shovel s k t) = k
ties_of (Refused r) = 0

module _ (bytes xs shovels times : List ℕ) where
  -- 18, and all that a pick looks at behind 11
  abbrev many_checks : List Check
  many_checks = tie_checks (card_of bytes).width (ties times)

  abbrev later : List Check
  later = list_checks shovels times ++ many_checks

  -- the card or the state is refused, or else the list, or else the count of ties
  pub told_call : (e : Refusal) → refusal_for bytes xs ≡ number e → pick_refusal bytes xs shovels times ≡ number e
  unfolding refusal_for pick_refusal
  told_call e r = first-left (call_checks bytes xs) later (λ z. number_nonzero e (sym r ∙ z)) ∙ r

  pub refusal_later : refusal_for bytes xs ≡ 0 → first_of later ≡ pick_refusal bytes xs shovels times
  unfolding refusal_for pick_refusal
  refusal_later z = sym (first_right (call_checks bytes xs) later z)

  -- as it is looked at
  pub told_later : {card : Card} → Clear bytes xs card → {n r : ℕ} → n ≡ card.width → r ≡ first_of (list_checks shovels times ++ tie_checks n (ties times))
      → r ≡ pick_refusal bytes xs shovels times
  told_later c en er =
      let width = en ∙ ap (λ (card : Card). card.width) c.card_is in
      er ∙ ap (λ (n : ℕ). first_of (list_checks shovels times ++ tie_checks n (ties times))) width ∙ refusal_later c.none

  -- no refusal: all of them are passed
  pub pick_passed : pick_refusal bytes xs shovels times ≡ 0 → (refusal_for bytes xs ≡ 0) × Allowed shovels times × (ties times ≤ 2 ^ (card_of bytes).width)
  unfolding refusal_for pick_refusal
  pick_passed z =
      let b = first_both (call_checks bytes xs) later z in
      let l = first_both (list_checks shovels times) many_checks b.1 in
      (b.0, list_allowed shovels times l.0, ties-within (card_of bytes).width (ties times) l.1)

  pub picking-refused : (r : ℕ) → r ≢ 0 → r ≡ pick_refusal bytes xs shovels times
      → (Refused r ≡ picking bytes xs shovels times) × (xs ≡ picked bytes xs shovels times)
  unfolding picking picked
  picking-refused r ne e = rw (sym e) (simp (ne_eqb r 0 ne), simp (ne_eqb r 0 ne))

  -- as the code refuses
  pub refused_pick : (e : Refusal) → pick_refusal bytes xs shovels times ≡ number e → (Refused (number e) ≡ picking bytes xs shovels times) × (xs ≡ picked bytes xs shovels times)
  refused_pick e q = picking-refused (number e) (number_nonzero e) (sym q)

  pub picking-chosen : pick_refusal bytes xs shovels times ≡ 0 → let card = card_of bytes in let k = ties times in
      (Shovel (chosen shovels times (drawn_rank card xs k)) k (taken card xs k) ≡ picking bytes xs shovels times)
      × (drawn_state card xs k ≡ picked bytes xs shovels times)
  unfolding picking picked
  picking-chosen z = rw z (refl, refl)

-- a list that is not refused has a tie at least, and no more than shovels
pub ties-few : {shovels times : List ℕ} → Allowed shovels times → (0 < ties times) × (ties times ≤ most_shovels)
ties-few {shovels} {times} ok = (ties-some times ok.some, omega (arith, ties_le times, ok.few))
