-- The order of the list makes no difference to ties, ranks, the chosen number, and whether a number stands twice.
use mathlib.Core.Path.{◌≡◌, sym, ap, ap₂, ◌∙◌, subst}
use mathlib.Core.Bool.{Bool, false, ◌&&◌, not}
use mathlib.Core.List.{List}
use Prim.Native.Nat.{ℕ, ◌<◌}
use native.Mathlib.Omega.{arith}
use lib.Dec.{eqb, leb, ltb}
use lib.ListN.{length, get_or}
use Rattle.cycle.specs.Notation.{every, one, count}
use Rattle.cycle.proofs.Every.{every_at, every_of}
use Rattle.cycle.proofs.Count.{same_test, count_ext}
use Rattle.cycle.proofs.Pigeonhole.{sum_permute}
use Rattle.cycle.proofs.Digits.{length-tabulate, get_d_tabulate}
use Rattle.ties.specs.Ties.{is_tie, ties, rank, TieAt, chosen, occurs, twice}
use Rattle.ties.specs.Order.{Permutes, reordered}
use Rattle.ties.proofs.Rank.{tie_of_rank, chosen_is}

pub count_permute : (n : ℕ) (f : ℕ → ℕ) (p q : ℕ → Bool) → Permutes n f → ((i : ℕ) → i < n → p i ≡ q (f i)) → count n p ≡ count n q
unfolding count
count_permute n f p q s h = count_ext n p (λ i. q (f i)) h ∙ sum_permute n f (λ i. one (q i)) s.below s.onto

pub every_permute : (n : ℕ) (f : ℕ → ℕ) (p q : ℕ → Bool) → Permutes n f → ((i : ℕ) → i < n → p i ≡ q (f i)) → every n p ≡ every n q
every_permute n f p q s h =
    same_test (every n p) (every n q)
    (λ e. every_of n q (λ j l. let r = s.onto j l in ap q (sym r.2) ∙ sym (h r.0 r.1) ∙ every_at n p e r.0 r.1))
    (λ e. every_of n p (λ i l. h i l ∙ every_at n q e (f i) (s.below i l)))

pub length-reordered : (f : ℕ → ℕ) (xs : List ℕ) → length (reordered f xs) ≡ length xs
length-reordered f xs = length-tabulate (length xs) (λ i. get_or xs (f i) 0)

pub get_or-reordered : (f : ℕ → ℕ) (xs : List ℕ) (i : ℕ) → i < length xs → get_or (reordered f xs) i 0 ≡ get_or xs (f i) 0
get_or-reordered f xs i l = get_d_tabulate (length xs) (λ i. get_or xs (f i) 0) i l

module _ (f : ℕ → ℕ) (times : List ℕ) (s : Permutes (length times) f) where
  tie-reordered : (i : ℕ) → i < length times → is_tie (reordered f times) i ≡ is_tie times (f i)
  unfolding is_tie
  tie-reordered i l =
      rw (length-reordered f times, get_or-reordered f times i l)
      (every_permute (length times) f (λ j. leb (get_or times (f i) 0) (get_or (reordered f times) j 0)) (λ j. leb (get_or times (f i) 0) (get_or times j 0)) s
      (λ j lj. ap (leb (get_or times (f i) 0)) (get_or-reordered f times j lj)))

  pub ties-reordered : ties (reordered f times) ≡ ties times
  unfolding ties
  ties-reordered = rw (length-reordered f times) (count_permute (length times) f (is_tie (reordered f times)) (is_tie times) s tie-reordered)

  module _ (shovels : List ℕ) (e : length shovels ≡ length times) where
    number-reordered : (i : ℕ) → i < length times → get_or (reordered f shovels) i 0 ≡ get_or shovels (f i) 0
    number-reordered i l = get_or-reordered f shovels i (omega arith)

    rank-reordered : (x : ℕ) → rank (reordered f shovels) (reordered f times) x ≡ rank shovels times x
    unfolding rank
    rank-reordered x =
        rw (length-reordered f times)
        (count_permute (length times) f (λ i. is_tie (reordered f times) i && ltb (get_or (reordered f shovels) i 0) x)
        (λ i. is_tie times i && ltb (get_or shovels i 0) x) s
        (λ i l. ap₂ (λ (a : Bool) (y : ℕ). a && ltb y x) (tie-reordered i l) (number-reordered i l)))

    -- a tie of the list is one of the reordered list, of the same rank
    tie_forth : (r i : ℕ) → i < length times → TieAt shovels times r (f i) → TieAt (reordered f shovels) (reordered f times) r i
    tie_forth r i l a =
        record {
          listed = omega (arith, length-reordered f times);
          tie = tie-reordered i l ∙ a.tie;
          ranked = rank-reordered (get_or (reordered f shovels) i 0) ∙ ap (rank shovels times) (number-reordered i l) ∙ a.ranked;
        }

    pub chosen-reordered : twice shovels ≡ false → (r : ℕ) → r < ties times → chosen (reordered f shovels) (reordered f times) r ≡ chosen shovels times r
    chosen-reordered d r l =
        let a = tie_of_rank shovels times d e r l in
        let o = s.onto a.0 a.1.listed in
        let here : TieAt shovels times r (f o.0) = subst (TieAt shovels times r) (sym o.2) a.1 in
        chosen_is (reordered f shovels) (reordered f times) r o.0 (tie_forth r o.0 o.1 here) ∙ number-reordered o.0 o.1
        ∙ sym (chosen_is shovels times r (f o.0) here)

occurs-reordered : (f : ℕ → ℕ) (xs : List ℕ) → Permutes (length xs) f → (x : ℕ) → occurs (reordered f xs) x ≡ occurs xs x
occurs-reordered f xs s x =
    rw (length-reordered f xs)
    (count_permute (length xs) f (λ j. eqb (get_or (reordered f xs) j 0) x) (λ j. eqb (get_or xs j 0) x) s (λ j l. ap (λ (y : ℕ). eqb y x) (get_or-reordered f xs j l)))

pub twice-reordered : (f : ℕ → ℕ) (shovels : List ℕ) → Permutes (length shovels) f → twice (reordered f shovels) ≡ twice shovels
unfolding twice
twice-reordered f shovels s =
    ap not
    (ap (λ (n : ℕ). every n (λ i. leb (occurs (reordered f shovels) (get_or (reordered f shovels) i 0)) 1)) (length-reordered f shovels)
    ∙ every_permute (length shovels) f (λ i. leb (occurs (reordered f shovels) (get_or (reordered f shovels) i 0)) 1) (λ i. leb (occurs shovels (get_or shovels i 0)) 1) s
    (λ i l. ap (λ (c : ℕ). leb c 1) (ap (occurs (reordered f shovels)) (get_or-reordered f shovels i l) ∙ occurs-reordered f shovels s (get_or shovels (f i) 0))))
