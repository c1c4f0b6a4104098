-- THE WORDS' PERIOD. Where the premises of coverage hold, from any start: the words repeat after as many draws as there are states; where they do so earlier,
-- they repeat after half as many; and the first is the least period exactly where some state has another word than its opposite. General in m and n.
-- Document 002 (Period) compares the words of 2^m states, each a round of the columns below the top one after the last; two are enough.
--   words-return      the count of states is a period
--   words-halved      half of it is one where a shorter one is
--   words-half        and where no state differs from its opposite
--   word-period       it is the least exactly where some state differs
use mathlib.Core.Path.{◌≡◌, sym, ap, ◌∙◌}
use mathlib.Core.Logic.{◌↔◌, ◌≢◌}
use mathlib.Core.List.{List}
use Prim.Native.Nat.{ℕ, suc, ◌+◌, ◌*◌, ◌/◌, ◌<◌}
use native.Mathlib.Nat.{mul-pos}
use native.Mathlib.Numerals.{add-one}
use native.Mathlib.Omega.{arith}
use Rattle.cycle.specs.Notation.{iterate}
use Rattle.cycle.specs.Period.{Period, LeastPeriod}
use Rattle.cycle.proofs.Iterate.{iterate_add}
use Rattle.cycle.proofs.Period.{period-half, least-period}
use Rattle.tsc.specs.declared.Card.{Card}
use Rattle.tsc.specs.Step.{step, orbit}
use Rattle.tsc.specs.Word.{word, word_at}
use Rattle.tsc.specs.Coverage.{IsState, states, Covers, WellFormed, FullPeriod}
use Rattle.tsc.specs.Opposite.{opposite, Differs}
use Rattle.tsc.proofs.Step.{step_in_range}
use Rattle.tsc.proofs.Coverage.{period_covers}

-- word number t + d is that of the state d steps after the one of word number t
word_later : (card : Card) (start : List ℕ) (t d : ℕ) → word_at card start (t + d) ≡ word card (orbit card (orbit card start (suc t)) d)
word_later card start t d =
    let later : suc (t + d) ≡ d + suc t = omega arith in
    ap (word card) (ap (orbit card start) later ∙ iterate_add (step card) d (suc t) start)

module _ (card : Card) (wf : WellFormed card) (ok : FullPeriod card) (start : List ℕ) where
  covers : (xs : List ℕ) → Covers card (step card xs)
  covers xs = period_covers card wf ok (step card xs) (step_in_range card xs)

  pub words_return : Period (word_at card start) (states card)
  unfolding iterate
  words_return t = word_later card start t (states card) ∙ ap (word card) (covers (orbit card start t)).returns

  pub words-halved : (d : ℕ) → 0 < d → d < states card → Period (word_at card start) d → Period (word_at card start) (states card / 2)
  words-halved d pos l p = period-half (word_at card start) (card.words * card.width) d words_return pos l p

  pub words-half : ((xs : List ℕ) → IsState card xs → word card xs ≡ word card (opposite card xs)) → Period (word_at card start) (states card / 2)
  unfolding iterate
  words-half same t =
      word_later card start t (states card / 2) ∙ sym (same (orbit card start (suc t)) (step_in_range card (orbit card start t)))

  -- a word of each state is drawn
  drawn : (xs : List ℕ) → IsState card xs → (t : ℕ) × (orbit card start (suc t) ≡ xs)
  unfolding iterate
  drawn xs sx =
      let r = (covers start).once xs sx in
      (r.0, ap (orbit card start) (sym (add-one r.0)) ∙ iterate_add (step card) r.0 1 start ∙ r.2)

  -- somewhere the words differ from those half the orbit on exactly where some state differs from its opposite
  differ_somewhere : ((t : ℕ) × (word_at card start t ≢ word_at card start (t + states card / 2))) ↔ ((xs : List ℕ) × IsState card xs × Differs card xs)
  unfolding iterate
  differ_somewhere = (
    λ (t, ne). (orbit card start (suc t), step_in_range card (orbit card start t), λ e. ne (e ∙ sym (word_later card start t (states card / 2)))),
    λ (xs, sx, ne).
        let r = drawn xs sx in
        let later = word_later card start r.0 (states card / 2) ∙ ap (λ (ys : List ℕ). word card (opposite card ys)) r.1 in
        (r.0, λ e. ne (ap (word card) (sym r.1) ∙ e ∙ later)),
  )

  pub word-period : LeastPeriod (word_at card start) (states card) ↔ ((xs : List ℕ) × IsState card xs × Differs card xs)
  word-period =
      let some : 0 < card.words * card.width = mul-pos (omega (arith, wf.words)) (omega (arith, wf.width)) in
      let least = least-period (word_at card start) (card.words * card.width) some words_return in
      (λ l. differ_somewhere.0 (least.0 l), λ d. least.1 (differ_somewhere.1 d))
