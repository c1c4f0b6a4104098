-- Words tried one after the other: what holds once t of them are passed over, after one more, and of the one that decides.
use mathlib.Core.Path.{◌≡◌, sym, ap, ◌∙◌}
use mathlib.Core.Logic.{◌≢◌}
use mathlib.Core.Bool.{Bool, true, false, ◌||◌}
use mathlib.Core.List.{List}
use Prim.Native.Nat.{ℕ, suc, ◌+◌, ◌%◌}
use native.Mathlib.Numerals.{add-one}
use lib.Dec.{eqb, ltb}
use Rattle.cycle.specs.Notation.{iterate}
use Rattle.tsc.specs.declared.Card.{Card}
use Rattle.tsc.specs.declared.State.{State}
use Rattle.tsc.specs.Coverage.{IsState}
use Rattle.tsc.specs.Step.{orbit}
use Rattle.tsc.specs.Word.{word}
use Rattle.tsc.proofs.Step.{orbit_in_range}
use Rattle.stepping.specs.State.{used, Holds, holding}
use Rattle.stepping.proofs.Holding.{held, holds}
use Rattle.outputs.specs.declared.next.Output.{Output}
use Rattle.outputs.specs.Output.{output}
use Rattle.samples.specs.Samples.{most_taken, limit}
use Rattle.samples.proofs.Tried.{Over, over_none, over_next, kept, taken_next}
use Rattle.sample.specs.declared.draw.Sample.{Sample}
use Rattle.sample.specs.Drawn.{sample}

-- the first t words from xs are passed over, and s is state number t
pub record Passed (card : Card) (xs : List ℕ) (k t : ℕ) (s : State) : Type 0 where
  pub over : Over (kept card xs k) t
  pub state : s ≡ holding (orbit card xs t)

module _ (card : Card) (xs : List ℕ) (k : ℕ) where
  pub passed_none : (s : State) → s ≡ holding xs → Passed card xs k 0 s
  unfolding iterate
  passed_none s e = record { over = over_none _; state = e }

  -- state number t with its word
  abbrev number : ℕ → Output
  number t = record { state = holding (orbit card xs t); word = word card (orbit card xs t) }

  module _ (sx : IsState card xs) (t : ℕ) (s : State) (h : Passed card xs k t s) where
    pub passed-holds : Holds card s
    passed-holds = rw h.state (holds card (orbit card xs t) (orbit_in_range card xs sx t))

    -- the next word, o: whether it decides
    module _ (o : Output) (e : o ≡ output card (used card s)) where
      abbrev deciding : Bool
      deciding = eqb (t + 1) most_taken || ltb o.word (limit card k)

      next : o ≡ number (suc t)
      unfolding iterate
      next = e ∙ ap (λ (s : State). output card (used card s)) h.state ∙ ap (output card) (held card (orbit card xs t) (orbit_in_range card xs sx t))

      next_number : o ≡ number (t + 1)
      next_number = next ∙ ap number (sym (add-one t))

      same : deciding ≡ (eqb (t + 1) most_taken || kept card xs k t)
      same = ap (λ (o : Output). eqb (t + 1) most_taken || ltb o.word (limit card k)) next

      pub passed_next : deciding ≡ false → Passed card xs k (t + 1) o.state
      passed_next d = record { over = over_next _ t h.over (sym same ∙ d); state = ap (λ (o : Output). o.state) next_number }

      pub passed_all : k ≢ 1 → deciding ≡ true → record { state = o.state; rank = o.word % k; taken = t + 1 } ≡ sample card xs k
      passed_all several d =
          let n = taken_next card xs k several t h.over (sym same ∙ d) in
          let made : Output → ℕ → Sample = λ o t. record { state = o.state; rank = o.word % k; taken = t } in
          ap (λ (o : Output). made o (t + 1)) next_number ∙ ap (λ (t : ℕ). made (number t) t) (sym n)
