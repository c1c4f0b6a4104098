-- The pick of changed times: it can be refused by 18 alone, and it goes elsewhere exactly where it is not refused and the chosen shovel has not the rank drawn then.
use mathlib.Core.Path.{◌≡◌, refl, sym, ap, ◌∙◌, subst}
use mathlib.Core.Logic.{◌↔◌, ◌≢◌}
use mathlib.Core.Bool.{Bool, true, false, not, ◌&&◌, and-eq-true_iff, true≢false}
use mathlib.Core.List.{List}
use Prim.Native.Nat.{ℕ, ◌^◌, ◌≤◌, ◌<◌}
use native.Mathlib.Decide.{ℕ_discrete}
use native.Mathlib.Omega.{arith}
use borrow.Author.Tests.{eqb-true, eq-eqb, leb-true, le-leb, not-true}
use lib.Dec.{eqb, leb}
use lib.ListN.{length, get_or}
use Rattle.tsc.specs.declared.Card.{Card}
use Rattle.refusals.specs.Refusals.{first_of}
use Rattle.refusals.proofs.Refusals.{first_right}
use Rattle.card_format.specs.Reading.{card_of}
use Rattle.draws.specs.Calls.{refusal_for}
use Rattle.ties.specs.Ties.{is_tie, ties, rank, TieAt, has_rank, chosen}
use Rattle.ties.proofs.Rank.{numbers_apart, tie_of_rank, chosen_is}
use Rattle.tie_list.specs.Checks.{list_checks}
use Rattle.tie_list.proofs.Allowed.{Allowed, allowed_list}
use Rattle.samples.specs.Samples.{taken, drawn_rank, tie_checks}
use Rattle.samples.proofs.Many.{ties_fit, ties-within}
use Rattle.picks.specs.declared.Pick.{Pick}
use Rattle.picks.specs.declared.Pick.TheVariants.{Shovel}
use Rattle.picks.specs.Picks.{pick_refusal, picking}
use Rattle.picks.proofs.Picking.{refusal_later, pick_passed, picking-refused, picking-chosen, ties-few}
use Rattle.picks.proofs.Choice.{drawn-rank_lt}
use Rattle.margins.specs.Margins.{Apart, Elsewhere}

-- ---- whether a rank is a shovel's

pub rank_at : (shovels times : List ℕ) (r i : ℕ) → TieAt shovels times r i → has_rank shovels times r i ≡ true
unfolding has_rank
rank_at shovels times r i a = (and-eq-true_iff (is_tie times i) _).1 (a.tie, eq-eqb _ r a.ranked)

pub at_rank : (shovels times : List ℕ) (r i : ℕ) → i < length times → has_rank shovels times r i ≡ true → TieAt shovels times r i
unfolding has_rank
at_rank shovels times r i l h =
    let b = (and-eq-true_iff (is_tie times i) (eqb (rank shovels times (get_or shovels i 0)) r)).0 h in
    record { listed = l; tie = b.0; ranked = eqb-true (rank shovels times (get_or shovels i 0)) r b.1 }

-- it is where the shovel is chosen
chosen-rank : (shovels times : List ℕ) → Allowed shovels times → (r i : ℕ) → r < ties times → i < length times → chosen shovels times r ≡ get_or shovels i 0
    → has_rank shovels times r i ≡ true
chosen-rank shovels times ok r i lr li e =
    let j = tie_of_rank shovels times ok.once ok.paired r lr in
    let same = numbers_apart shovels ok.once j.0 i (omega (arith, ok.paired, j.1.listed)) (omega (arith, ok.paired)) (sym (chosen_is shovels times r j.0 j.1) ∙ e) in
    subst (λ (i : ℕ). has_rank shovels times r i ≡ true) same (rank_at shovels times r j.0 j.1)

module _ (bytes xs shovels times : List ℕ) (none : pick_refusal bytes xs shovels times ≡ 0) where
  abbrev card : Card
  card = card_of bytes

  call : refusal_for bytes xs ≡ 0
  call = (pick_passed bytes xs shovels times none).0

  allowed : Allowed shovels times
  allowed = (pick_passed bytes xs shovels times none).1

  -- the place of the unchanged pick's shovel
  module _ (p : ℕ) (at : TieAt shovels times (drawn_rank card xs (ties times)) p) where
    unchanged : picking bytes xs shovels times ≡ Shovel (get_or shovels p 0) (ties times) (taken card xs (ties times))
    unchanged = sym (picking-chosen bytes xs shovels times none).0 ∙ ap (λ (s : ℕ). Shovel s (ties times) (taken card xs (ties times))) (chosen_is shovels times _ p at)

    module _ (ys : List ℕ) (size : length ys ≡ length times) where
      still : Allowed shovels ys
      still = record { paired = allowed.paired ∙ sym size; some = omega (arith, allowed.some); few = omega (arith, allowed.few); once = allowed.once }

      -- 12 to 15 look at the count of the times alone
      lists : first_of (list_checks shovels ys) ≡ 0
      lists = allowed_list shovels ys still

      refusal_now : first_of (tie_checks card.width (ties ys)) ≡ pick_refusal bytes xs shovels ys
      refusal_now = sym (first_right (list_checks shovels ys) _ lists) ∙ refusal_later bytes xs shovels ys call

      pub changed_pick_lem : ties ys ≤ 2 ^ card.width → Shovel (chosen shovels ys (drawn_rank card xs (ties ys))) (ties ys) (taken card xs (ties ys)) ≡ picking bytes xs shovels ys
      changed_pick_lem l = (picking-chosen bytes xs shovels ys (sym refusal_now ∙ ties_fit card.width (ties ys) l)).0

      -- the rank drawn then
      abbrev r : ℕ
      r = drawn_rank card xs (ties ys)

      drawn : r < ties ys
      drawn = drawn-rank_lt card xs (ties ys) (ties-few still).0

      apart : ties ys ≤ 2 ^ card.width → chosen shovels ys r ≢ get_or shovels p 0 → Elsewhere bytes xs shovels times ys
      unfolding Apart
      apart l n = subst (λ (q : Pick). Apart q (picking bytes xs shovels ys)) (sym unchanged) (subst (Apart (Shovel (get_or shovels p 0) (ties times) (taken card xs (ties times)))) (changed_pick_lem l) n)

      not_apart : ties ys ≤ 2 ^ card.width → Elsewhere bytes xs shovels times ys → chosen shovels ys r ≢ get_or shovels p 0
      unfolding Apart
      not_apart l h =
          subst (Apart (Shovel (get_or shovels p 0) (ties times) (taken card xs (ties times)))) (sym (changed_pick_lem l)) (subst (λ (q : Pick). Apart q (picking bytes xs shovels ys)) unchanged h)

      within : Elsewhere bytes xs shovels times ys → ties ys ≤ 2 ^ card.width
      unfolding Apart
      within h = go (ℕ_discrete (first_of (tie_checks card.width (ties ys))) 0)
        where
          go : Dec (first_of (tie_checks card.width (ties ys)) ≡ 0) → ties ys ≤ 2 ^ card.width
          go (yes z) = ties-within card.width (ties ys) z
          go (no n) =
              let refused = subst (λ (q : Pick). Apart q (picking bytes xs shovels ys)) unchanged h in
              absurd (subst (Apart (Shovel (get_or shovels p 0) (ties times) (taken card xs (ties times)))) (sym (picking-refused bytes xs shovels ys _ n refusal_now).0) refused)

      pub elsewhere_test : Elsewhere bytes xs shovels times ys ↔ ((leb (ties ys) (2 ^ card.width) && not (has_rank shovels ys r p)) ≡ true)
      elsewhere_test = (λ h. (and-eq-true_iff _ _).1 (le-leb _ _ (within h), go h (has_rank shovels ys r p) refl), back)
        where
          go : Elsewhere bytes xs shovels times ys → (b : Bool) → has_rank shovels ys r p ≡ b → not b ≡ true
          go h false q = refl
          go h true q = absurd (not_apart (within h) h (chosen_is shovels ys r p (at_rank shovels ys r p (omega (arith, size, at.listed)) q)))

          back : (leb (ties ys) (2 ^ card.width) && not (has_rank shovels ys r p)) ≡ true → Elsewhere bytes xs shovels times ys
          back t =
              let b = (and-eq-true_iff (leb (ties ys) (2 ^ card.width)) (not (has_rank shovels ys r p))).0 t in
              apart (leb-true (ties ys) _ b.0) (λ e. true≢false (sym (chosen-rank shovels ys still r p drawn (omega (arith, size, at.listed)) e) ∙ not-true _ b.1))
