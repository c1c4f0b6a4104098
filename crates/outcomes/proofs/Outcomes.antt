-- The ties once the time at place i is v, by what the others come to: v is less than their least time, the same, or more.
use mathlib.Core.Path.{◌≡◌, refl, sym, ap, ◌∙◌}
use mathlib.Core.Bool.{Bool, true, false, cond, not, ◌&&◌, ◌||◌, and-true}
use mathlib.Core.List.{List}
use Prim.Native.Nat.{ℕ, ◌+◌, ◌^◌, ◌≤◌, ◌<◌}
use native.Mathlib.Omega.{arith}
use borrow.Author.Tests.{lt-ltb, le-ltb, eq-eqb, ne_eqb}
use lib.Dec.{eqb, leb, ltb}
use lib.ListN.{length, get_or, set}
use Rattle.cycle.specs.Notation.{one}
use Rattle.cycle.proofs.Count.{count_ext}
use Rattle.ties.specs.Ties.{is_tie, ties, rank, has_rank}
use Rattle.ties.proofs.Least.{ties-some, ties_le}
use Rattle.tries.specs.Tries.{ranked}
use Rattle.changes.proofs.After.{LeastOther, tie_after, tie_after_lem, count_after}
use Rattle.outcomes.specs.declared.Known.{Known}
use Rattle.tie_others.specs.declared.others.Others.{Others}
use Rattle.outcomes.specs.declared.outcome.Outcome.{Outcome}
use Rattle.tie_others.specs.Others.{IsOthers}
use Rattle.outcomes.specs.Elsewhere.{IsOutcome, elsewhere}
use Rattle.tie_others.proofs.Joined.{having_all, others-least}

module _ (shovels times : List ℕ) (i p v : ℕ) (li : i < length times) (lp : p < length times) (two : 1 < length times) (o : Others)
    (h : IsOthers shovels times i (get_or shovels p 0) (length times) o) where
  abbrev x : ℕ
  x = o.time

  abbrev ys : List ℕ
  ys = set times i v

  abbrev lower : ℕ → Bool
  lower j = ltb (get_or shovels j 0) (get_or shovels p 0)

  least : LeastOther times i x
  least = others-least shovels times i (get_or shovels p 0) o h two

  ties-after : ties ys ≡ cond (ltb v x) 1 (o.ties + cond (eqb v x) 1 0)
  unfolding ties
  ties-after =
      count_ext (length ys) _ _ (λ j l. sym (and-true (is_tie ys j))) ∙ count_after times i x li least v (λ j. true)
      ∙ ap (λ (c : ℕ). cond (ltb v x) 1 (c + cond (eqb v x) 1 0)) (having_all times i (length times) x ∙ sym h.ties)

  rank-after : rank shovels ys (get_or shovels p 0) ≡ cond (ltb v x) (one (lower i)) (o.lower + cond (eqb v x) (one (lower i)) 0)
  unfolding rank
  rank-after = count_after times i x li least v lower ∙ ap (λ (c : ℕ). cond (ltb v x) (one (lower i)) (c + cond (eqb v x) (one (lower i)) 0)) (sym h.lower)

  tie-now : is_tie ys p ≡ tie_after times i x v p
  tie-now = tie_after_lem times i x li least v p lp

  pub outcome-below : v < x → IsOutcome shovels ys p (record { ties = 1; tie = eqb p i; rank = one (lower i) })
  outcome-below l =
      let a = lt-ltb v x l in
      record { ties = sym (ties-after ∙ rw a refl); tie = sym (tie-now ∙ rw a refl); rank = sym (rank-after ∙ rw a refl) }

  pub outcome-at : v ≡ x → IsOutcome shovels ys p (record { ties = o.ties + 1; tie = cond (eqb p i) true (eqb (get_or times p 0) x); rank = o.lower + one (lower i) })
  outcome-at e =
      let a = le-ltb v x (omega arith) in
      let b = eq-eqb v x e in
      record {
        ties = sym (ties-after ∙ rw (a, b) refl);
        tie = sym (tie-now ∙ rw (a, b) (either (eqb p i) (eqb (get_or times p 0) x)));
        rank = sym (rank-after ∙ rw (a, b) refl);
      }
    where
      either : (own same : Bool) → (not own && same || (true && own)) ≡ cond own true same
      either true same = refl
      either false true = refl
      either false false = refl

  pub outcome-above : x < v → IsOutcome shovels ys p (record { ties = o.ties; tie = cond (eqb p i) false (eqb (get_or times p 0) x); rank = o.lower })
  outcome-above l =
      let a = le-ltb v x (omega arith) in
      let b = ne_eqb v x (omega arith) in
      record {
        ties = sym (ties-after ∙ rw (a, b) (omega arith));
        tie = sym (tie-now ∙ rw (a, b) (only (eqb p i) (eqb (get_or times p 0) x)));
        rank = sym (rank-after ∙ rw (a, b) (omega arith));
      }
    where
      only : (own same : Bool) → (not own && same || (false && own)) ≡ cond own false same
      only true same = refl
      only false true = refl
      only false false = refl

-- what is tested of an outcome
pub outcome_test : (known : Known) (shovels ys : List ℕ) (r : Outcome) → IsOutcome shovels ys known.chosen r
    → (leb r.ties (2 ^ known.width) && not (r.tie && eqb r.rank (ranked known.width known.words r.ties).rank)) ≡ elsewhere known shovels ys
unfolding elsewhere has_rank
outcome_test known shovels ys r h = rw (h.ties, h.tie, h.rank) refl

pub outcome-few : (shovels ys : List ℕ) (p n : ℕ) (r : Outcome) → IsOutcome shovels ys p r → 0 < length ys → length ys ≤ n → (0 < r.ties) × (r.ties ≤ n)
outcome-few shovels ys p n r h some few = rw h.ties (ties-some ys some, omega (arith, ties_le ys))
