-- A set of places is fatal exactly where two of them have the same entry or they hold a cycle shorter than the table.
use mathlib.Core.Path.{◌≡◌, refl, sym, ap, ◌∙◌, subst}
use mathlib.Core.Logic.{◌↔◌, ◌⊎◌}
use mathlib.Core.Bool.{Bool, true, false, cond, ◌||◌}
use Prim.Native.Nat.{ℕ, ◌%◌, ◌^◌, ◌<◌}
use native.Mathlib.Omega.{arith}
use borrow.Author.Tests.{eq-eqb, ne_eqb}
use lib.Dec.{eqb}
use lib.Pow.{pow_pos}
use Rattle.cycle.specs.Notation.{tabulate}
use Rattle.cycle.specs.Cycle.{SingleCycle}
use Rattle.cycle.proofs.Digits.{get_d_tabulate}
use Rattle.cycle.proofs.Iterate.{MapsBelow}
use Rattle.cycle.proofs.Cycle.{cycle-same}
use Rattle.completions.specs.Completion.{Excludes, RepeatIn, ShortCycleIn}
use Rattle.completions.specs.Sets.{LeastSet}
use Rattle.completions.proofs.Completion.{excludes_iff}
use Rattle.completions.proofs.Members.{least-same}
use Rattle.tsc.specs.declared.Card.{Card}
use Rattle.tsc.specs.Step.{entry}
use Rattle.tsc.proofs.Table.{table_below}
use Rattle.refusals.specs.Refusals.{first_of, number}
use Rattle.refusals.specs.declared.Refusal.TheVariants.{NotSingleCycle}
use Rattle.card_format.specs.Verdict.{period_checks}
use Rattle.diagnoses.specs.BadPlaces.{Fatal}

-- 7 is told exactly where the table is no single cycle
pub seven_iff : (card : Card) → MapsBelow (2 ^ card.words) (entry card)
    → (first_of (period_checks card) ≡ number NotSingleCycle) ↔ (SingleCycle (2 ^ card.words) (entry card) 0 → ⊥)
unfolding first_of period_checks
seven_iff card below = (λ h c. later even parity (simp (eq-eqb _ _ ((table_below card below).1 c)) at h), λ none. simp (ne_eqb _ _ (λ e. none ((table_below card below).0 e))))
  where
    even : Bool
    even = eqb (card.constant % 2) 0

    parity : Bool
    parity = eqb (card.odd_power % 2) 0 || eqb (card.even_power % 2) 1

    later : (a b : Bool) → ◌≡◌ {A = ℕ} (cond a 8 (cond b 9 0)) 7 → ⊥
    later true b e = omega arith
    later false true e = omega arith
    later false false e = omega arith

-- fatal is what excludes a single cycle
pub fatal_excludes : (card : Card) (P : ℕ → Bool) → Excludes (2 ^ card.words) (entry card) P ↔ Fatal card P
fatal_excludes card P = (forth, back)
  where
    N : ℕ
    N = 2 ^ card.words

    forth : Excludes N (entry card) P → Fatal card P
    forth none other c =
        let e : 2 ^ other.words ≡ N = ap (λ (m : ℕ). 2 ^ m) c.words in
        (seven_iff other (subst (λ (n : ℕ). MapsBelow n (entry other)) (sym e) c.allowed)).1
        (λ s. none (entry other) (record { below = c.allowed; agrees = c.agrees }) (subst (λ (n : ℕ). SingleCycle n (entry other) 0) e s))

    back : Fatal card P → Excludes N (entry card) P
    back fatal g k s =
        (seven_iff other below).0 (fatal other (record { words = refl; allowed = below; agrees = λ x l h. at x l ∙ k.agrees x l h }))
        (cycle-same N g (entry other) (pow_pos card.words) k.below at s)
      where
        other : Card
        other =
            record {
              words = card.words;
              width = card.width;
              table = tabulate N g;
              odd_power = card.odd_power;
              even_power = card.even_power;
              constant = card.constant;
              filter = card.filter;
              sum_term = card.sum_term;
            }

        at : (x : ℕ) → x < N → entry other x ≡ g x
        at x l = get_d_tabulate N g x l

        below : MapsBelow N (entry other)
        below x l = rw (at x l) (k.below x l)

-- THE THEOREM THAT FINDS IT
pub fatal_iff : (card : Card) → MapsBelow (2 ^ card.words) (entry card) → (P : ℕ → Bool)
    → Fatal card P ↔ (RepeatIn (2 ^ card.words) (entry card) P ⊎ ShortCycleIn (2 ^ card.words) (entry card) P)
fatal_iff card below P =
    let same = fatal_excludes card P in
    let rule = excludes_iff (2 ^ card.words) (entry card) P (pow_pos card.words) below in
    (λ h. rule.0 (same.1 h), λ r. same.0 (rule.1 r))

-- so the least set that excludes a single cycle is the least that is fatal
pub least_fatal : (card : Card) (P : ℕ → Bool) → LeastSet (2 ^ card.words) (Excludes (2 ^ card.words) (entry card)) P → LeastSet (2 ^ card.words) (Fatal card) P
least_fatal card = least-same (2 ^ card.words) (Excludes (2 ^ card.words) (entry card)) (Fatal card) (fatal_excludes card)
