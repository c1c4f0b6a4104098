-- There is one least change at most, and the order of the list makes no difference to it.
use mathlib.Core.Path.{◌≡◌, refl, sym, ap, ◌∙◌, subst}
use mathlib.Core.Logic.{◌↔◌}
use mathlib.Core.Bool.{false}
use mathlib.Core.List.{List}
use Prim.Native.Nat.{ℕ, ◌≤◌, ◌<◌}
use native.Mathlib.Decide.{ℕ_discrete}
use native.Mathlib.Omega.{arith}
use borrow.Author.Tests.{eqb-true, eq-eqb}
use lib.Dec.{eqb}
use lib.ListN.{length, get_or, length-set}
use lib.Seq.{ext_get_or, get_or-set_same, get_or-set_other}
use Rattle.cycle.specs.Notation.{count}
use Rattle.cycle.proofs.Count.{one_place, count-one}
use Rattle.ties.specs.Ties.{twice}
use Rattle.ties.specs.Order.{Permutes, reordered}
use Rattle.ties.proofs.Rank.{numbers_apart}
use Rattle.ties.proofs.Order.{count_permute, length-reordered, get_or-reordered}
use Rattle.changes.specs.declared.Change.{Change}
use Rattle.changes.specs.Change.{changed, Counts, NoLater, LeastChange}
use Rattle.changes.proofs.Order.{no_later_both}

-- ---- places that are told apart

permutes_injective : (n : ℕ) (f : ℕ → ℕ) → Permutes n f → (i j : ℕ) → i < n → j < n → f i ≡ f j → i ≡ j
permutes_injective n f s i j li lj e =
    one_place n (λ k. eqb (f k) (f j)) (omega (arith, count_permute n f (λ k. eqb (f k) (f j)) (λ k. eqb k (f j)) s (λ k l. refl), at_one))
    i j li lj (eq-eqb (f i) (f j) e) (eq-eqb (f j) (f j) refl)
  where
    at_one : count n (λ k. eqb k (f j)) ≤ 1
    at_one = count-one n (λ k. eqb k (f j)) (λ a b la lb s t. eqb-true a (f j) s ∙ sym (eqb-true b (f j) t))

-- ---- one list

module _ (shovels times : List ℕ) (d : twice shovels ≡ false) (paired : length shovels ≡ length times) (Wanted : List ℕ → Type 0) where
  pub least-one : (c e : Change) → LeastChange shovels times Wanted c → LeastChange shovels times Wanted e → c ≡ e
  least-one c e h m =
      let r = no_later_both shovels c e (h.least e m.counts) (m.least c h.counts) in
      let p : c.place ≡ e.place = numbers_apart shovels d c.place e.place (omega (arith, h.counts.listed)) (omega (arith, m.counts.listed)) r.1 in
      λ i. record { place = p i; raised = r.2 i; seconds = r.0 i }

pub length-changed : (times : List ℕ) (c : Change) → length (changed times c) ≡ length times
unfolding changed
length-changed times c = length-set times c.place _

-- what is wanted, put in another way
module _ (times : List ℕ) (Wanted Wanted₂ : List ℕ → Type 0) (same : (ys : List ℕ) → length ys ≡ length times → Wanted ys ↔ Wanted₂ ys) where
  pub counts_same : (c : Change) → Counts times Wanted c ↔ Counts times Wanted₂ c
  counts_same c =
      let w = same (changed times c) (length-changed times c) in (
        λ k. record { listed = k.listed; some = k.some; within = k.within; wanted = w.0 k.wanted },
        λ k. record { listed = k.listed; some = k.some; within = k.within; wanted = w.1 k.wanted },
      )

  pub least-same : (shovels : List ℕ) (c : Change) → LeastChange shovels times Wanted c → LeastChange shovels times Wanted₂ c
  least-same shovels c h = record { counts = (counts_same c).0 h.counts; least = λ e k. h.least e ((counts_same e).1 k) }

-- ---- the same change in the list in another order

abbrev pub there : (ℕ → ℕ) → Change → Change
there f c = record { place = f c.place; raised = c.raised; seconds = c.seconds }

module _ (f : ℕ → ℕ) (times : List ℕ) (s : Permutes (length times) f) where
  pub changed-reordered : (c : Change) → c.place < length times → changed (reordered f times) c ≡ reordered f (changed times (there f c))
  unfolding changed
  changed-reordered c l =
      ext_get_or 0 (changed (reordered f times) c) (reordered f (changed times (there f c)))
      (left ∙ sym (length-reordered f (changed times (there f c)) ∙ length-changed times (there f c)))
      (λ j lj. let k : j < length times = omega (arith, left) in go j k (ℕ_discrete j c.place) ∙ sym (get_or-reordered f (changed times (there f c)) j (omega (arith, length-changed times (there f c)))))
    where
      left : length (changed (reordered f times) c) ≡ length times
      left = length-changed (reordered f times) c ∙ length-reordered f times

      go : (j : ℕ) → j < length times → Dec (j ≡ c.place) → get_or (changed (reordered f times) c) j 0 ≡ get_or (changed times (there f c)) (f j) 0
      go j lj (yes e) =
          rw (e, get_or-set_same (reordered f times) c.place _ 0 (omega (arith, length-reordered f times)), get_or-set_same times (f c.place) _ 0 (s.below c.place l), get_or-reordered f times c.place l) refl
      go j lj (no n) =
          get_or-set_other (reordered f times) c.place j _ 0 n ∙ get_or-reordered f times j lj
          ∙ sym (get_or-set_other times (f c.place) (f j) _ 0 (λ e. n (permutes_injective (length times) f s j c.place lj l e)))

  module _ (Wanted Wanted₂ : List ℕ → Type 0) (same : (ys : List ℕ) → length ys ≡ length times → Wanted₂ (reordered f ys) ↔ Wanted ys) where
    pub counts_there : (c : Change) → Counts (reordered f times) Wanted₂ c → Counts times Wanted (there f c)
    counts_there c k =
        let l : c.place < length times = omega (arith, length-reordered f times, k.listed) in
        record {
          listed = s.below c.place l;
          some = k.some;
          within = rw (get_or-reordered f times c.place l) at k.within;
          wanted = (same (changed times (there f c)) (length-changed times (there f c))).0 (subst Wanted₂ (changed-reordered c l) k.wanted);
        }

    counts_at : (c : Change) → c.place < length times → Counts times Wanted (there f c) → Counts (reordered f times) Wanted₂ c
    counts_at c l k =
        record {
          listed = omega (arith, length-reordered f times);
          some = k.some;
          within = rw (get_or-reordered f times c.place l) k.within;
          wanted = subst Wanted₂ (sym (changed-reordered c l)) ((same (changed times (there f c)) (length-changed times (there f c))).1 k.wanted);
        }

    -- a change that counts in the list is one of the other
    pub counts_back : (g : Change) → Counts times Wanted g → (c : Change) × (there f c ≡ g) × Counts (reordered f times) Wanted₂ c
    counts_back g k =
        let o = s.onto g.place k.listed in
        let at : ℕ → Change = λ p. record { place = p; raised = g.raised; seconds = g.seconds } in
        (at o.0, ap at o.2, counts_at (at o.0) o.1 (subst (λ (p : ℕ). Counts times Wanted (at p)) (sym o.2) k))

    pub least_there : (shovels : List ℕ) → length shovels ≡ length times → (c : Change)
        → LeastChange (reordered f shovels) (reordered f times) Wanted₂ c → LeastChange shovels times Wanted (there f c)
    least_there shovels paired c h =
        record {
          counts = counts_there c h.counts;
          least = λ g m. let b = counts_back g m in subst (NoLater shovels (there f c)) b.1 (go b.0 b.2.listed (h.least b.0 b.2));
        }
      where
        number : (c : Change) → c.place < length (reordered f times) → get_or (reordered f shovels) c.place 0 ≡ get_or shovels (f c.place) 0
        number c l = get_or-reordered f shovels c.place (omega (arith, length-reordered f times))

        go : (g : Change) → g.place < length (reordered f times) → NoLater (reordered f shovels) c g → NoLater shovels (there f c) (there f g)
        go g l n =
            let a = number c h.counts.listed in
            let b = number g l in
            record { seconds = n.seconds; number = λ z. omega (arith, n.number z, a, b); direction = λ z w r. n.direction z (a ∙ w ∙ sym b) r }
