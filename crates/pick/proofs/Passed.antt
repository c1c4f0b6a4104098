-- What is known once a pick is not refused, and what it comes to.
use mathlib.Core.Path.{◌≡◌, refl, sym, ap, ap₂, ◌∙◌}
use mathlib.Core.List.{List, ◌++◌}
use Prim.Native.Nat.{ℕ, ◌≤◌, ◌<◌}
use lib.ListN.{length, take}
use Rattle.tsc.specs.declared.Card.{Card}
use Rattle.tsc.specs.declared.State.{State}
use Rattle.tsc.specs.Coverage.{IsState}
use Rattle.tsc.proofs.Step.{orbit_in_range}
use Rattle.stepping.specs.State.{used, holding}
use Rattle.stepping.proofs.Holding.{held}
use Rattle.std.specs.Prelude.{Result, Ok, Err}
use Rattle.refusals.specs.declared.Refusal.{Refusal}
use Rattle.refusals.specs.Refusals.{number, first_of, told}
use Rattle.refusals.proofs.Answers.{told_of_value, told_of_refusal}
use Rattle.draws.proofs.Opening.{Clear}
use Rattle.draws.proofs.Called.{stored}
use Rattle.ties.specs.Ties.{most_shovels, ties, chosen}
use Rattle.ties.specs.Least.{LeastOf}
use Rattle.tie_list.specs.Checks.{list_checks}
use Rattle.tie_rank.specs.Listed.{Listed}
use Rattle.samples.specs.Samples.{taken, drawn_rank, drawn_state, tie_checks}
use Rattle.samples.proofs.Tried.{taken_none, alone}
use Rattle.sample.specs.declared.draw.Sample.{Sample}
use Rattle.sample.specs.Drawn.{sample}
use Rattle.picks.specs.declared.Pick.TheVariants.{Shovel}
use Rattle.picks.specs.Picks.{pick_refusal, picking, picked}
use Rattle.picks.proofs.Picking.{told_later, pick_passed, picking-chosen, ties-few}
use Rattle.pick.specs.declared.listing.Listing.{Listing}

-- what a call goes on with once nothing is refused: the values, the list and its least time, and the ties
pub record Free (bytes xs shovels times : List ℕ) (card : Card) (l : Listing) : Type 0 where
  pub none : pick_refusal bytes xs shovels times ≡ 0
  pub clear : Clear bytes xs card
  pub listed : Listed shovels times l.least
  pub tied : l.ties ≡ ties times
  pub some : 0 < l.ties
  pub few : l.ties ≤ most_shovels

-- once the card and the state are not refused, what is found of the list is the pick's refusal, or that there is none
module _ (bytes xs shovels times : List ℕ) {card : Card} (clear : Clear bytes xs card) {a : Result Listing Refusal}
    (checked : told a ≡ first_of (list_checks shovels times ++ tie_checks card.width (ties times))) where
  pub told_by_list : {e : Refusal} → a ≡ Err e → pick_refusal bytes xs shovels times ≡ number e
  told_by_list q = told_of_refusal (told_later bytes xs shovels times clear refl checked) q

  pub free : {l : Listing} → a ≡ Ok l → LeastOf times (length times) l.least × (l.ties ≡ ties times) → Free bytes xs shovels times card l
  free q t =
      let none = told_of_value (told_later bytes xs shovels times clear refl checked) q in
      let allowed = (pick_passed bytes xs shovels times none).1 in
      let tied = rw (sym t.1) at (ties-few allowed) in
      record {
        none = none;
        clear = clear;
        listed = record { paired = allowed.paired; least = t.0 };
        tied = t.1;
        some = tied.0;
        few = tied.1;
      }

-- made: a rank is drawn among the ties, and so many words are taken; the words ys are left and the shovel of that rank is s
pub made : {bytes xs shovels times ys : List ℕ} {given : Card} {l : Listing} {r t s : ℕ} → Free bytes xs shovels times given l
    → r ≡ drawn_rank given xs l.ties → t ≡ taken given xs l.ties → ys ≡ drawn_state given xs l.ties → s ≡ chosen shovels times r
    → (Shovel s l.ties t ≡ picking bytes xs shovels times) × (ys ≡ picked bytes xs shovels times)
made {bytes} {xs} {shovels} {times} f er et ey es =
    let c = f.clear.card_is in
    let shovel = es ∙ ap (chosen shovels times) (er ∙ ap₂ (λ (d : Card) (k : ℕ). drawn_rank d xs k) c f.tied) in
    let words = et ∙ ap₂ (λ (d : Card) (k : ℕ). taken d xs k) c f.tied in
    let left = ey ∙ ap₂ (λ (d : Card) (k : ℕ). drawn_state d xs k) c f.tied in
    let answer = picking-chosen bytes xs shovels times f.none in
    ((λ i. Shovel (shovel i) (f.tied i) (words i)) ∙ answer.0, left ∙ answer.1)

-- for one alone nothing is drawn
pub made_alone : {bytes xs shovels times : List ℕ} {given : Card} {l : Listing} {s : ℕ} → Free bytes xs shovels times given l → l.ties ≡ 1 → s ≡ chosen shovels times 0
    → (Shovel s l.ties 0 ≡ picking bytes xs shovels times) × (xs ≡ picked bytes xs shovels times)
made_alone {xs} {given} {l} f one es =
    let h = alone given xs l.ties one in
    made f (sym h.0) (sym (taken_none given xs l.ties one)) (sym h.1) es

-- a rank drawn by value: the state held the words xs, and as many are stored
pub rank_made : (card : Card) (xs : List ℕ) (k : ℕ) → IsState card xs → {lent : State} {d : Sample} {ys : List ℕ} → lent ≡ holding xs
    → d ≡ sample card (used card lent) k → ys ≡ take (length xs) d.state.words
    → (d ≡ sample card xs k) × (ys ≡ drawn_state card xs k)
rank_made card xs k sx el ed ey =
    let e : _ ≡ sample card xs k = ed ∙ ap (λ (s : State). sample card (used card s) k) el ∙ ap (λ (ws : List ℕ). sample card ws k) (held card xs sx) in
    (e, ey ∙ stored card (length xs) (drawn_state card xs k) _ sx.0 (orbit_in_range card xs sx _) (ap (λ (d : Sample). d.state) e))
