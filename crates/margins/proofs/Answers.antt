-- What an answer comes to where the pick is refused, and where it is not; that there is one answer; THE LEAST CHANGE and 19.
use mathlib.Core.Path.{◌≡◌, refl, sym, ap, ◌∙◌, subst}
use mathlib.Core.Logic.{◌↔◌, ◌≢◌}
use mathlib.Core.List.{List}
use Prim.Native.Nat.{ℕ}
use native.Mathlib.Decide.{ℕ_discrete}
use Rattle.refusals.specs.Refusals.{number}
use Rattle.refusals.specs.declared.Refusal.TheVariants.{NoSuchChange}
use Rattle.tie_list.proofs.Allowed.{Allowed}
use Rattle.changes.specs.declared.Change.{Change}
use Rattle.changes.specs.Change.{Counts, LeastChange}
use Rattle.changes.proofs.Listing.{least-one}
use Rattle.picks.specs.declared.Pick.{Pick}
use Rattle.picks.specs.Picks.{pick_refusal, words_taken}
use Rattle.picks.proofs.Picking.{shovel_of, ties_of, pick_passed, picking-refused, picking-chosen}
use Rattle.margins.specs.declared.Nearest.{Nearest}
use Rattle.std.specs.Prelude.{Result, Ok, Err}
use Rattle.margins.specs.Margins.{Elsewhere, Tells, Answer, IsMargin}

module _ (bytes xs shovels times : List ℕ) where
  -- a change is told in one way
  pub tells-one : (c : Change) (n n₂ : Nearest) → Tells bytes xs shovels times c n → Tells bytes xs shovels times c n₂ → n ≡ n₂
  tells-one c n n₂ a b =
      let same = sym a.changed_pick ∙ b.changed_pick in
      let seconds = a.seconds ∙ sym b.seconds in
      let number = a.shovel ∙ sym b.shovel in
      let direction = a.direction ∙ sym b.direction in
      λ i. record {
        seconds = seconds i;
        changed = number i;
        raised = direction i;
        shovel = ap shovel_of same i;
        ties = ap ties_of same i;
        taken = ap words_taken same i;
      }

  -- what is answered where the pick is not refused
  abbrev pub Passed : Result Nearest ℕ → Type 0
  Passed (Err r) = (r ≡ number NoSuchChange) × ((c : Change) → Counts times (Elsewhere bytes xs shovels times) c → ⊥)
  Passed (Ok n) = (c : Change) × LeastChange shovels times (Elsewhere bytes xs shovels times) c × Tells bytes xs shovels times c n

  -- the answer by another pick
  by_pick : (m : Result Nearest ℕ) {p q : Pick} → p ≡ q → Answer bytes xs shovels times p m → Answer bytes xs shovels times q m
  by_pick m e = subst (λ (p : Pick). Answer bytes xs shovels times p m) e

  pub margin_passed : pick_refusal bytes xs shovels times ≡ 0 → (m : Result Nearest ℕ) → IsMargin bytes xs shovels times m ↔ Passed m
  unfolding IsMargin
  margin_passed z (Err r) = let e = (picking-chosen bytes xs shovels times z).0 in (by_pick (Err r) (sym e), by_pick (Err r) e)
  margin_passed z (Ok n) = let e = (picking-chosen bytes xs shovels times z).0 in (by_pick (Ok n) (sym e), by_pick (Ok n) e)

  pub margin_refused : pick_refusal bytes xs shovels times ≢ 0 → (m : Result Nearest ℕ) → IsMargin bytes xs shovels times m ↔ (m ≡ Err (pick_refusal bytes xs shovels times))
  unfolding IsMargin
  margin_refused n m = let e = (picking-refused bytes xs shovels times _ n refl).0 in (by_pick m (sym e), by_pick m e)

  -- ---- where the pick is not refused

  module _ (none : pick_refusal bytes xs shovels times ≡ 0) where
    allowed : Allowed shovels times
    allowed = (pick_passed bytes xs shovels times none).1

    passed-one : (m m₂ : Result Nearest ℕ) → Passed m → Passed m₂ → m ≡ m₂
    passed-one (Err r) (Err r₂) a b = ap Err (a.0 ∙ sym b.0)
    passed-one (Err r) (Ok n₂) a b = absurd (a.1 b.0 b.1.counts)
    passed-one (Ok n) (Err r₂) a b = absurd (b.1 a.0 a.1.counts)
    passed-one (Ok n) (Ok n₂) a b =
        let same = least-one shovels times allowed.once allowed.paired (Elsewhere bytes xs shovels times) a.0 b.0 a.1 b.1 in
        ap Ok (tells-one b.0 n n₂ (subst (λ (c : Change). Tells bytes xs shovels times c n) same a.2) b.2)

  -- THERE IS ONE ANSWER
  pub margin_one : (m m₂ : Result Nearest ℕ) → IsMargin bytes xs shovels times m → IsMargin bytes xs shovels times m₂ → m ≡ m₂
  margin_one m m₂ a b = go (ℕ_discrete (pick_refusal bytes xs shovels times) 0)
    where
      go : Dec (pick_refusal bytes xs shovels times ≡ 0) → m ≡ m₂
      go (yes z) = passed-one z m m₂ ((margin_passed z m).0 a) ((margin_passed z m₂).0 b)
      go (no n) = (margin_refused n m).0 a ∙ sym ((margin_refused n m₂).0 b)

  -- an answer that is no refusal is of a pick that is not refused
  pub margin_pick : (n : Nearest) → IsMargin bytes xs shovels times (Ok n) → pick_refusal bytes xs shovels times ≡ 0
  margin_pick n a = go (ℕ_discrete (pick_refusal bytes xs shovels times) 0)
    where
      go : Dec (pick_refusal bytes xs shovels times ≡ 0) → pick_refusal bytes xs shovels times ≡ 0
      go (yes z) = z
      go (no ne) = absurd (is_least ((margin_refused ne (Ok n)).0 a))
        where
          told : Result Nearest ℕ → Type 0
          told (Ok n) = Unit {0}
          told (Err r) = ⊥

          is_least : {r : ℕ} → Ok n ≡ Err r → ⊥
          is_least e = subst told e tt
