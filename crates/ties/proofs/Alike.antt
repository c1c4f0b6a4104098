-- Nothing of the times matters but which shovels tie; so whether a time is the least one serves as well as the time.
use mathlib.Core.Path.{◌≡◌, refl, sym, ap, ap₂, ◌∙◌}
use mathlib.Core.Bool.{Bool, true, false, not, ◌&&◌}
use mathlib.Core.List.{List}
use Prim.Native.Nat.{ℕ, ◌<◌}
use native.Mathlib.Omega.{arith}
use borrow.Author.Tests.{eq-eqb}
use lib.Dec.{eqb, ltb}
use lib.ListN.{length, get_or}
use Rattle.cycle.specs.Notation.{one, tabulate}
use Rattle.cycle.proofs.Count.{count_ext}
use Rattle.cycle.proofs.First.{first_ext}
use Rattle.cycle.proofs.Digits.{length-tabulate, get_d_tabulate}
use Rattle.ties.specs.Ties.{is_tie, ties, rank, has_rank, chosen}
use Rattle.ties.specs.Least.{LeastOf, SameTies}
use Rattle.ties.proofs.Least.{tie_least}

module _ (times times₂ : List ℕ) (s : SameTies times times₂) where
  pub same_count : ties times ≡ ties times₂
  unfolding ties
  same_count = rw (← s.size) (count_ext (length times) (is_tie times) (is_tie times₂) s.same)

  pub same_rank : (shovels : List ℕ) (y : ℕ) → rank shovels times y ≡ rank shovels times₂ y
  unfolding rank
  same_rank shovels y =
      rw (← s.size)
      (count_ext (length times) _ (λ j. is_tie times₂ j && ltb (get_or shovels j 0) y) (λ j l. ap (λ (b : Bool). b && ltb (get_or shovels j 0) y) (s.same j l)))

  -- the chosen number depends on the ties alone
  pub same_chosen : (shovels : List ℕ) (r : ℕ) → chosen shovels times r ≡ chosen shovels times₂ r
  unfolding chosen has_rank
  same_chosen shovels r =
      rw (← s.size)
      (ap (λ (j : ℕ). get_or shovels j 0)
      (first_ext (length times) (has_rank shovels times r) (has_rank shovels times₂ r)
      (λ j l. ap₂ (λ (b : Bool) (k : ℕ). b && eqb k r) (s.same j l) (same_rank shovels (get_or shovels j 0)))))

-- 0 for the least time, 1 for any other
abbrev pub marks : List ℕ → ℕ → List ℕ
marks times x = tabulate (length times) (λ i. one (not (eqb (get_or times i 0) x)))

module _ (times : List ℕ) (x : ℕ) (h : LeastOf times (length times) x) where
  mark_is : (i : ℕ) → i < length times → get_or (marks times x) i 0 ≡ one (not (eqb (get_or times i 0) x))
  mark_is = get_d_tabulate (length times) (λ i. one (not (eqb (get_or times i 0) x)))

  -- 0 is the least mark, where a least time stands
  least_mark : LeastOf (marks times x) (length (marks times x)) 0
  least_mark =
      let w = h.stands in
      let n = length-tabulate (length times) (λ i. one (not (eqb (get_or times i 0) x))) in
      record {
        stands = (w.0, omega (arith, n, w.1), mark_is w.0 w.1 ∙ ap (λ (b : Bool). one (not b)) (eq-eqb (get_or times w.0 0) x w.2));
        least = λ j l. omega arith;
      }

  is_zero : (b : Bool) → eqb (one (not b)) 0 ≡ b
  is_zero true = refl
  is_zero false = refl

  pub marks_alike : SameTies times (marks times x)
  marks_alike =
      let n = length-tabulate (length times) (λ i. one (not (eqb (get_or times i 0) x))) in
      record {
        size = sym n;
        same = λ i l.
            tie_least times x h i l
            ∙ sym (tie_least (marks times x) 0 least_mark i (omega (arith, n)) ∙ ap (λ (k : ℕ). eqb k 0) (mark_is i l) ∙ is_zero (eqb (get_or times i 0) x));
      }
