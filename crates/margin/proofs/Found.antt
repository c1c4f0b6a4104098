-- What the search finds is what margin answers: its test is that of the pick, by the words that the pick would try.
use mathlib.Core.Path.{◌≡◌, refl, sym, ap, ap₂, ◌∙◌, subst}
use mathlib.Core.Logic.{◌↔◌}
use mathlib.Core.Bool.{true, not, ◌&&◌, and-eq-true_iff}
use mathlib.Core.List.{List}
use Prim.Native.Nat.{ℕ, ◌^◌, ◌≤◌, ◌<◌}
use borrow.Author.Tests.{leb-true}
use lib.Dec.{leb}
use lib.ListN.{length, get_or}
use Rattle.cycle.specs.Notation.{first}
use Rattle.cycle.proofs.First.{first_meets}
use Rattle.tsc.specs.declared.Card.{Card}
use Rattle.tsc.specs.declared.State.{State}
use Rattle.tsc.specs.Word.{orbit_words}
use Rattle.refusals.specs.Refusals.{number}
use Rattle.refusals.specs.declared.Refusal.TheVariants.{NoSuchChange}
use Rattle.card_format.specs.Reading.{card_of}
use Rattle.stepping.specs.State.{used, holding}
use Rattle.draws.proofs.Called.{accepted, of_values}
use Rattle.ties.specs.Ties.{ties, TieAt, has_rank, chosen}
use Rattle.ties.proofs.Rank.{tie_of_rank}
use Rattle.tie_list.proofs.Allowed.{Allowed}
use Rattle.samples.specs.Samples.{most_taken, taken, drawn_rank}
use Rattle.tries.specs.declared.row.Ranked.{Ranked}
use Rattle.tries.specs.Tries.{ranked}
use Rattle.tries.proofs.Ranks.{ranked-row}
use Rattle.changes.specs.declared.Change.{Change}
use Rattle.changes.specs.Change.{changed, Counts, LeastChange}
use Rattle.changes.proofs.Listing.{length-changed, counts_same, least-same}
use Rattle.outcomes.specs.declared.Known.{Known}
use Rattle.outcomes.specs.Elsewhere.{elsewhere, Listed}
use Rattle.candidates.specs.Best.{Sound, LeadsOver, BestOf}
use Rattle.picks.specs.declared.Pick.TheVariants.{Shovel}
use Rattle.picks.specs.Picks.{picking}
use Rattle.picks.proofs.Picking.{pick_passed}
use Rattle.picks.proofs.Choice.{ties_from_one, drawn-rank_lt}
use Rattle.pick.specs.declared.listing.Listing.{Listing}
use Rattle.pick.proofs.Passed.{Free}
use Rattle.margins.specs.declared.Nearest.{Nearest}
use Rattle.std.specs.Prelude.{Ok, Err, None, Some}
use Rattle.margins.specs.Margins.{Elsewhere, Tells, IsMargin}
use Rattle.margins.proofs.Changed.{rank_at, at_rank, changed_pick_lem, elsewhere_test}
use Rattle.margins.proofs.Answers.{margin_passed}

-- what the search is given: the width and the words of the state, and the first place of the rank drawn
pub record Draws (xs shovels times : List ℕ) (given : Card) (l : Listing) (known : Known) : Type 0 where
  pub width : known.width ≡ given.width
  pub state : State
  pub lent : state ≡ holding xs
  pub words : known.words ≡ orbit_words given (used given state) most_taken
  pub chosen : known.chosen ≡ first (length times) (has_rank shovels times (ranked known.width known.words l.ties).rank)

module _ (bytes xs shovels times : List ℕ) (given : Card) (l : Listing) (f : Free bytes xs shovels times given l) (known : Known)
    (d : Draws xs shovels times given l known) where
  abbrev card : Card
  card = card_of bytes

  width : known.width ≡ card.width
  width = d.width ∙ ap (λ (card : Card). card.width) f.clear.card_is

  -- ranks by the words are those that are drawn from the state
  by_row : (k : ℕ) → ranked known.width known.words k ≡ record { rank = drawn_rank card xs k; taken = taken card xs k }
  by_row k =
      ap₂ (λ (n : ℕ) (row : List ℕ). ranked n row k) width (d.words ∙ of_values f.clear d.lent (λ card xs. orbit_words card xs most_taken))
      ∙ ranked-row card xs k

  rank_by : (k : ℕ) → (ranked known.width known.words k).rank ≡ drawn_rank card xs k
  rank_by k = ap (λ (r : Ranked). r.rank) (by_row k)

  allowed : Allowed shovels times
  allowed = (pick_passed bytes xs shovels times f.none).1

  -- the chosen shovel
  found : (known.chosen < length times) × (has_rank shovels times (ranked known.width known.words (ties times)).rank known.chosen ≡ true)
  found =
      let r : ℕ = (ranked known.width known.words (ties times)).rank in
      let low : r < ties times = rw (rank_by (ties times)) (drawn-rank_lt card xs (ties times) (ties_from_one bytes xs shovels times f.none).0) in
      let t = tie_of_rank shovels times allowed.once allowed.paired r low in
      let m = first_meets (length times) (has_rank shovels times r) t.0 t.1.listed (rank_at shovels times r t.0 t.1) in
      subst (λ (p : ℕ). (p < length times) × (has_rank shovels times r p ≡ true)) (sym place) m
    where
      place : known.chosen ≡ first (length times) (has_rank shovels times (ranked known.width known.words (ties times)).rank)
      place = d.chosen ∙ ap (λ (k : ℕ). first (length times) (has_rank shovels times (ranked known.width known.words k).rank)) f.tied

  tie : TieAt shovels times (drawn_rank card xs (ties times)) known.chosen
  tie = subst (λ (r : ℕ). TieAt shovels times r known.chosen) (rank_by (ties times)) (at_rank shovels times _ known.chosen found.0 found.1)

  pub listed : Listed known shovels times
  listed =
      record {
        width = rw d.width (accepted f.clear).narrow;
        paired = allowed.paired;
        few = allowed.few;
        place = found.0;
        chosen = found.1;
      }

  -- ---- the test

  same_test : (ys : List ℕ) → elsewhere known shovels ys ≡ (leb (ties ys) (2 ^ card.width) && not (has_rank shovels ys (drawn_rank card xs (ties ys)) known.chosen))
  unfolding elsewhere
  same_test ys = ap₂ (λ (n r : ℕ). leb (ties ys) (2 ^ n) && not (has_rank shovels ys r known.chosen)) width (rank_by (ties ys))

  wanted : (ys : List ℕ) → length ys ≡ length times → (elsewhere known shovels ys ≡ true) ↔ Elsewhere bytes xs shovels times ys
  wanted ys l =
      let t = elsewhere_test bytes xs shovels times f.none known.chosen tie ys l in
      (λ e. t.1 (sym (same_test ys) ∙ e), λ h. same_test ys ∙ t.0 h)

  -- ---- the answers

  abbrev Test : List ℕ → Type 0
  Test ys = elsewhere known shovels ys ≡ true

  pub found_nothing : BestOf shovels times Test (length times) None → IsMargin bytes xs shovels times (Err (number NoSuchChange))
  unfolding LeadsOver
  found_nothing h =
      (margin_passed bytes xs shovels times f.none (Err (number NoSuchChange))).1
      (refl, λ c k. h.leads c k.listed ((counts_same times Test (Elsewhere bytes xs shovels times) wanted c).1 k))

  module _ (c : Change) (h : BestOf shovels times Test (length times) (Some c)) where
    pub found_counts : Counts times Test c
    unfolding Sound
    found_counts = h.sound

    least : LeastChange shovels times (Elsewhere bytes xs shovels times) c
    unfolding LeadsOver
    least = least-same times Test (Elsewhere bytes xs shovels times) wanted shovels c (record { counts = found_counts; least = λ e k. h.leads e k.listed k })

    -- told with the pick by the words
    pub found_least : (n : Nearest) → let ys = changed times c in let r = ranked known.width known.words (ties ys) in
        (n.seconds ≡ c.seconds) × (n.changed ≡ get_or shovels c.place 0) × (n.raised ≡ c.raised)
        → n.shovel ≡ chosen shovels ys r.rank → n.ties ≡ ties ys → n.taken ≡ r.taken → IsMargin bytes xs shovels times (Ok n)
    found_least n t es ek et = (margin_passed bytes xs shovels times f.none (Ok n)).1 (c, least, tells)
      where
        ys : List ℕ
        ys = changed times c

        within : ties ys ≤ 2 ^ card.width
        within = leb-true (ties ys) _ ((and-eq-true_iff _ _).0 (sym (same_test ys) ∙ found_counts.wanted)).0

        made : picking bytes xs shovels ys ≡ Shovel n.shovel n.ties n.taken
        made =
            let number = ap (λ (r : ℕ). chosen shovels ys r) (sym (rank_by (ties ys))) ∙ sym es in
            let words = ap (λ (r : Ranked). r.taken) (sym (by_row (ties ys))) ∙ sym et in
            sym (changed_pick_lem bytes xs shovels times f.none known.chosen tie ys (length-changed times c) within) ∙ (λ i. Shovel (number i) (sym ek i) (words i))

        tells : Tells bytes xs shovels times c n
        tells = record { seconds = t.0; shovel = t.1; direction = t.2; changed_pick = made }
