-- RANKS ARE FAIR: among all states, as many draw one rank with the first word as any other.
use mathlib.Core.Path.{◌≡◌, refl, ◌∙◌}
use mathlib.Core.Logic.{◌≢◌}
use mathlib.Core.Bool.{Bool, true, false, cond, ◌&&◌}
use mathlib.Core.List.{List}
use Prim.Native.Nat.{ℕ, suc, ◌-◌, ◌*◌, ◌/◌, ◌%◌, ◌^◌, ◌≤◌, ◌<◌}
use native.Mathlib.Omega.{arith}
use borrow.Author.Tests.{ne_eqb}
use lib.Dec.{eqb, ltb}
use Rattle.cycle.specs.Notation.{iterate, count, first}
use Rattle.cycle.specs.Fair.{gives_rank}
use Rattle.cycle.proofs.Count.{count_ext}
use Rattle.tsc.specs.declared.Card.{Card}
use Rattle.tsc.specs.Step.{step, orbit}
use Rattle.tsc.specs.Word.{word}
use Rattle.tsc.specs.Coverage.{states, ListsStates, WellFormed, FullPeriod}
use Rattle.tsc.proofs.Balanced.{rank_balanced}
use Rattle.samples.specs.Samples.{limit, tried, taken, drawn_rank}
use Rattle.samples.proofs.Tried.{taken-tried}

-- the first word decides where it is below L
first_word : (card : Card) (xs : List ℕ) (k r : ℕ) → k ≢ 1
    → (eqb (taken card xs k) 1 && eqb (drawn_rank card xs k) r) ≡ gives_rank (2 ^ card.width) k r (word card (step card xs))
unfolding tried first iterate
first_word card xs k r n = rw (taken-tried card xs k n) (go (ltb (word card (step card xs)) (limit card k)) _)
  where
    go : (b : Bool) (t : ℕ) → let d = suc (cond b 0 (suc t)) in
        (eqb d 1 && eqb (word card (orbit card xs d) % k) r) ≡ (b && eqb (word card (step card xs) % k) r)
    go true t = refl
    go false t = rw (ne_eqb (suc (suc t)) 1 (λ e. omega arith)) refl

pub first-words_fair : (card : Card) → WellFormed card → 2 ≤ card.words → FullPeriod card → (s : ℕ → List ℕ) → ListsStates card s → (k r : ℕ) → k ≢ 1 → r < k
    → count (states card) (λ t. eqb (taken card (s t) k) 1 && eqb (drawn_rank card (s t) k) r) ≡ limit card k / k * 2 ^ ((card.words - 1) * card.width)
first-words_fair card wf two ok s lists k r n l =
    count_ext (states card) _ _ (λ t lt. first_word card (s t) k r n) ∙ rank_balanced card wf two ok s lists k r l
