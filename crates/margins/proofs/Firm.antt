-- THE LEAST CHANGE, AND 19: no change that counts comes before the one that is told, and 19 is told exactly where none counts, as for a list of one.
use mathlib.Core.Path.{◌≡◌, refl, sym, ap, ◌∙◌, subst}
use mathlib.Core.Logic.{◌↔◌}
use mathlib.Core.Bool.{true, not, true≢false, and-eq-true_iff}
use mathlib.Core.List.{List}
use Prim.Native.Nat.{ℕ, ◌^◌, ◌≤◌}
use native.Mathlib.Decide.{ℕ_discrete}
use native.Mathlib.Omega.{arith}
use borrow.Author.Tests.{not-true}
use lib.Dec.{leb}
use lib.ListN.{length, get_or}
use Rattle.refusals.specs.Refusals.{number}
use Rattle.refusals.specs.declared.Refusal.TheVariants.{NoSuchChange}
use Rattle.card_format.specs.Reading.{card_of}
use Rattle.ties.specs.Ties.{ties, has_rank}
use Rattle.ties.proofs.Least.{ties-some}
use Rattle.ties.proofs.Rank.{tie_of_rank}
use Rattle.samples.specs.Samples.{drawn_rank}
use Rattle.changes.specs.declared.Change.{Change}
use Rattle.changes.specs.Change.{changed, Counts}
use Rattle.changes.proofs.Listing.{length-changed}
use Rattle.picks.specs.declared.Pick.{Pick}
use Rattle.picks.specs.declared.Pick.TheVariants as pick
use Rattle.picks.specs.Picks.{pick_refusal, picking}
use Rattle.picks.proofs.Picking.{pick_passed, picking-refused}
use Rattle.picks.proofs.Choice.{drawn-rank_lt, pick_chooses}
use Rattle.margins.specs.declared.Nearest.{Nearest}
use Rattle.std.specs.Prelude.{Result, Ok, Err}
use Rattle.margins.specs.Margins.{Apart, Elsewhere, Tells, IsMargin}
use Rattle.margins.proofs.Changed.{rank_at, elsewhere_test}
use Rattle.margins.proofs.Answers.{Passed, margin_passed, margin_pick}

-- a pick that is refused sends the truck nowhere
apart-refused : (p : Pick) (r : ℕ) → Apart p (pick.Refused r) → ⊥
unfolding Apart
apart-refused (pick.Shovel s k t) r h = h
apart-refused (pick.Refused q) r h = h

module _ (bytes xs shovels times : List ℕ) where
  pub counts-unrefused : (c : Change) → Counts times (Elsewhere bytes xs shovels times) c → pick_refusal bytes xs shovels (changed times c) ≡ 0
  counts-unrefused c k = go (ℕ_discrete (pick_refusal bytes xs shovels (changed times c)) 0)
    where
      go : Dec (pick_refusal bytes xs shovels (changed times c) ≡ 0) → pick_refusal bytes xs shovels (changed times c) ≡ 0
      go (yes z) = z
      go (no n) =
          absurd (apart-refused (picking bytes xs shovels times) _ (subst (Apart (picking bytes xs shovels times)) (sym (picking-refused bytes xs shovels (changed times c) _ n refl).0) k.wanted))

  -- ---- what is told

  told : (n : Nearest) → IsMargin bytes xs shovels times (Ok n) → Passed bytes xs shovels times (Ok n)
  told n h = (margin_passed bytes xs shovels times (margin_pick bytes xs shovels times n h) (Ok n)).0 h

  pub told_counts : (n : Nearest) → IsMargin bytes xs shovels times (Ok n)
      → (c : Change) × Counts times (Elsewhere bytes xs shovels times) c × Tells bytes xs shovels times c n
  told_counts n h = let t = told n h in (t.0, t.1.counts, t.2)

  pub told_least : (n : Nearest) → IsMargin bytes xs shovels times (Ok n) → (e : Change) → Counts times (Elsewhere bytes xs shovels times) e
      → let number = get_or shovels e.place 0 in
      (n.seconds ≤ e.seconds) × (n.seconds ≡ e.seconds → n.changed ≤ number)
      × (n.seconds ≡ e.seconds → n.changed ≡ number → n.raised ≡ true → e.raised ≡ true)
  told_least n h e k =
      let t = told n h in
      let l = t.1.least e k in
      let d = t.2 in (
        omega (arith, l.seconds, d.seconds),
        λ q. omega (arith, l.number (sym d.seconds ∙ q), d.shovel),
        λ q w r. l.direction (sym d.seconds ∙ q) (sym d.shovel ∙ w) (sym d.direction ∙ r),
      )

  -- ---- 19

  module _ (none : pick_refusal bytes xs shovels times ≡ 0) where
    pub firm-exactly : (m : Result Nearest ℕ) → IsMargin bytes xs shovels times m
        → (m ≡ Err (number NoSuchChange)) ↔ ((c : Change) → Counts times (Elsewhere bytes xs shovels times) c → ⊥)
    firm-exactly m h = (λ e. ((margin_passed bytes xs shovels times none (Err (number NoSuchChange))).0 (subst (IsMargin bytes xs shovels times) e h)).1, back m ((margin_passed bytes xs shovels times none m).0 h))
      where
        back : (m : Result Nearest ℕ) → Passed bytes xs shovels times m → ((c : Change) → Counts times (Elsewhere bytes xs shovels times) c → ⊥) → m ≡ Err (number NoSuchChange)
        back (Err r) p f = ap Err p.0
        back (Ok n) p f = absurd (f p.0 p.1.counts)

    -- of one shovel every pick is to that
    pub alone-firm : length times ≡ 1 → (c : Change) → Counts times (Elsewhere bytes xs shovels times) c → ⊥
    alone-firm one c k =
        let card = card_of bytes in
        let ys : List ℕ = changed times c in
        let size : length ys ≡ length times = length-changed times c in
        let ok = (pick_passed bytes xs shovels times none).1 in
        let p = pick_chooses bytes xs shovels times none in
        let r : ℕ = drawn_rank card xs (ties ys) in
        let j = tie_of_rank shovels ys ok.once (ok.paired ∙ sym size) r (drawn-rank_lt card xs (ties ys) (ties-some ys (omega (arith, size)))) in
        let here : j.0 ≡ p.0 = omega (arith, size, j.1.listed, p.1.listed) in
        let t = (elsewhere_test bytes xs shovels times none p.0 p.1 ys size).0 k.wanted in
        true≢false (sym (subst (λ (i : ℕ). has_rank shovels ys r i ≡ true) here (rank_at shovels ys r j.0 j.1)) ∙ not-true (has_rank shovels ys r p.0) ((and-eq-true_iff (leb (ties ys) (2 ^ card.width)) (not (has_rank shovels ys r p.0))).0 t).1)
