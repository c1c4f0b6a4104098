-- THE ORDER MAKES NO DIFFERENCE to a margin: the same shovels with the same times in any order, the same answer.
use mathlib.Core.Path.{◌≡◌, sym, ap, ◌∙◌, subst}
use mathlib.Core.Logic.{◌↔◌}
use mathlib.Core.List.{List}
use Prim.Native.Nat.{ℕ, ◌<◌}
use native.Mathlib.Decide.{ℕ_discrete}
use native.Mathlib.Omega.{arith}
use lib.ListN.{length}
use Rattle.ties.specs.Order.{Permutes, reordered, SameShovels}
use Rattle.ties.proofs.Order.{length-reordered, get_or-reordered}
use Rattle.tie_list.proofs.Allowed.{Allowed}
use Rattle.changes.specs.declared.Change.{Change}
use Rattle.changes.specs.Change.{changed}
use Rattle.changes.proofs.Listing.{there, changed-reordered, counts_back, least_there}
use Rattle.picks.specs.declared.Pick.{Pick}
use Rattle.picks.specs.Picks.{pick_refusal, picking}
use Rattle.picks.proofs.Picking.{pick_passed}
use Rattle.picks.proofs.Choice.{refusal-reordered, pick_order}
use Rattle.margins.specs.declared.Nearest.{Nearest}
use Rattle.std.specs.Prelude.{Result, Ok, Err}
use Rattle.margins.specs.Margins.{Apart, Elsewhere, Tells, IsMargin}
use Rattle.margins.proofs.Answers.{Passed, margin_passed, margin_refused, margin_one}

module _ (bytes xs : List ℕ) (f : ℕ → ℕ) (shovels times : List ℕ) (s : Permutes (length shovels) f) where
  -- a pick of these shovels with any times
  same_pick : (ys : List ℕ) → picking bytes xs (reordered f shovels) (reordered f ys) ≡ picking bytes xs shovels ys
  same_pick ys = (pick_order bytes xs shovels ys (reordered f shovels) (reordered f ys) (record { order = f; permutes = s; numbers = λ i. reordered f shovels; durations = λ i. reordered f ys })).0

  abbrev Here : List ℕ → Type 0
  Here = Elsewhere bytes xs (reordered f shovels) (reordered f times)

  abbrev There : List ℕ → Type 0
  There = Elsewhere bytes xs shovels times

  same_elsewhere : (ys : List ℕ) → Here (reordered f ys) ↔ There ys
  same_elsewhere ys = (λ h. there_of (same_pick times) (same_pick ys) h, λ h. there_of (sym (same_pick times)) (sym (same_pick ys)) h)
    where
      there_of : {p q p₂ q₂ : Pick} → p ≡ p₂ → q ≡ q₂ → Apart p q → Apart p₂ q₂
      there_of {p} {q} {p₂} {q₂} a b h = subst (Apart p₂) b (subst (λ (p : Pick). Apart p q) a h)

  module _ (allowed : Allowed shovels times) where
    permutes : Permutes (length times) f
    permutes = subst (λ (n : ℕ). Permutes n f) allowed.paired s

    same : (ys : List ℕ) → length ys ≡ length times → Here (reordered f ys) ↔ There ys
    same ys l = same_elsewhere ys

    tells_there : (c : Change) (n : Nearest) → c.place < length (reordered f times) → Tells bytes xs (reordered f shovels) (reordered f times) c n
        → Tells bytes xs shovels times (there f c) n
    tells_there c n l t =
        let lc : c.place < length times = omega (arith, length-reordered f times) in
        record {
          seconds = t.seconds;
          shovel = t.shovel ∙ get_or-reordered f shovels c.place (omega (arith, allowed.paired));
          direction = t.direction;
          changed_pick = sym (same_pick (changed times (there f c))) ∙ sym (ap (picking bytes xs (reordered f shovels)) (changed-reordered f times permutes c lc)) ∙ t.changed_pick;
        }

    passed_there : (m : Result Nearest ℕ) → Passed bytes xs (reordered f shovels) (reordered f times) m → Passed bytes xs shovels times m
    passed_there (Err r) h = (h.0, λ g k. let b = counts_back f times permutes There Here same g k in h.1 b.0 b.2)
    passed_there (Ok n) h =
        (there f h.0, least_there f times permutes There Here same shovels allowed.paired h.0 h.1, tells_there h.0 n h.1.counts.listed h.2)

  same-refusal : pick_refusal bytes xs (reordered f shovels) (reordered f times) ≡ pick_refusal bytes xs shovels times
  same-refusal = refusal-reordered f shovels times s bytes xs

  is_there : (m : Result Nearest ℕ) → IsMargin bytes xs (reordered f shovels) (reordered f times) m → IsMargin bytes xs shovels times m
  is_there m h = go (ℕ_discrete (pick_refusal bytes xs shovels times) 0)
    where
      go : Dec (pick_refusal bytes xs shovels times ≡ 0) → IsMargin bytes xs shovels times m
      go (yes z) = (margin_passed bytes xs shovels times z m).1 (passed_there (pick_passed bytes xs shovels times z).1 m ((margin_passed bytes xs (reordered f shovels) (reordered f times) (same-refusal ∙ z) m).0 h))
      go (no n) =
          let refused = (margin_refused bytes xs (reordered f shovels) (reordered f times) (λ z. n (sym same-refusal ∙ z)) m).0 h in
          (margin_refused bytes xs shovels times n m).1 (refused ∙ ap Err same-refusal)

-- the same shovels with the same times in any order, the same answer
pub margin_order : (bytes xs shovels times shovels₂ times₂ : List ℕ) → SameShovels shovels times shovels₂ times₂
    → (m m₂ : Result Nearest ℕ) → IsMargin bytes xs shovels times m → IsMargin bytes xs shovels₂ times₂ m₂ → m₂ ≡ m
margin_order bytes xs shovels times shovels₂ times₂ h m m₂ a b =
    margin_one bytes xs shovels times m₂ m (is_there bytes xs h.order shovels times h.permutes m₂ (rw (h.numbers, h.durations) at b)) a
