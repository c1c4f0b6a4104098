-- One change tried, and those of a shovel: what the best change is then.
use mathlib.Core.Path.{◌≡◌, refl, sym, ap, ◌∙◌, subst}
use mathlib.Core.Logic.{◌≢◌, inl, inr}
use mathlib.Core.Bool.{Bool, true, false, cond, not, ◌&&◌, ◌||◌, and-eq-true_iff, and-false, true≢false}
use mathlib.Core.List.{List}
use Prim.Native.Nat.{ℕ, ◌+◌, ◌-◌, ◌^◌, ◌≤◌, ◌<◌}
use native.Mathlib.Decide.{ℕ_discrete, dec_lt}
use native.Mathlib.Omega.{arith}
use borrow.Author.Tests.{eq-eqb, ne_eqb, lt-ltb, le-ltb, ltb-true, ltb-false}
use lib.Dec.{eqb, leb, ltb}
use lib.ListN.{length, get_or}
use Rattle.ties.specs.Ties.{ties, has_rank}
use Rattle.changes.specs.declared.Change.{Change}
use Rattle.changes.specs.Change.{most_time, Within, changed, Counts, NoLater}
use Rattle.changes.specs.Others.{change_to}
use Rattle.ties.proofs.Alike.{same_count, same_rank}
use Rattle.changes.proofs.After.{LeastOther}
use Rattle.changes.proofs.Order.{no_later_refl, no_later_trans, Told, before_told}
use Rattle.changes.proofs.Nearest.{Close, Beside, ByTies, nearest, several}
use Rattle.outcomes.specs.declared.Known.{Known}
use Rattle.std.proofs.Common.{Option, None, Some}
use Rattle.outcomes.specs.Elsewhere.{elsewhere, Listed}
use Rattle.change_order.specs.First.{Placed, comes_first}
use Rattle.candidates.specs.Best.{attempted, Sound, LeadsOver, BestOf}

-- ---- the places of changes

pub placed_either : (n : ℕ) (b : Bool) (r s : Option Change) → Placed n r → Placed n s → Placed n (cond b r s)
placed_either n true r s p q = p
placed_either n false r s p q = q

pub placed_next : (known : Known) (shovels times : List ℕ) (n : ℕ) (c : Change) (best : Option Change) → c.place < n → Placed n best → Placed n (attempted known shovels times c best)
unfolding attempted Placed
placed_next known shovels times n c best l p =
    placed_either n (ltb 0 c.seconds && (comes_first shovels c best && elsewhere known shovels (changed times c))) (Some c) best l p

pub placed-sound : (shovels times : List ℕ) (Wanted : List ℕ → Type 0) (best : Option Change) → Sound shovels times Wanted best → Placed (length times) best
unfolding Sound Placed
placed-sound shovels times Wanted None s = tt
placed-sound shovels times Wanted (Some c) s = s.listed

-- ---- as it is tested

module _ (known : Known) (shovels times : List ℕ) (c : Change) (best : Option Change) where
  pub attempt_none : c.seconds ≡ 0 → best ≡ attempted known shovels times c best
  unfolding attempted
  attempt_none z = rw (le-ltb 0 c.seconds (omega arith)) refl

  pub attempt_later : comes_first shovels c best ≡ false → best ≡ attempted known shovels times c best
  unfolding attempted
  attempt_later q = rw (q, and-false (ltb 0 c.seconds)) refl

  pub attempt_stays : elsewhere known shovels (changed times c) ≡ false → best ≡ attempted known shovels times c best
  unfolding attempted
  attempt_stays q = rw (q, and-false (comes_first shovels c best), and-false (ltb 0 c.seconds)) refl

  pub attempt_best : c.seconds ≢ 0 → comes_first shovels c best ≡ true → elsewhere known shovels (changed times c) ≡ true → Some c ≡ attempted known shovels times c best
  unfolding attempted
  attempt_best n p q = rw (lt-ltb 0 c.seconds (omega arith), p, q) refl

module _ (known : Known) (shovels times : List ℕ) where
  abbrev Wanted : List ℕ → Type 0
  Wanted ys = elsewhere known shovels ys ≡ true

  -- ---- one change tried

  -- r is the best change after c was tried, where it was best before
  record Tried (c : Change) (best r : Option Change) : Type 0 where
    sound : Sound shovels times Wanted best → Sound shovels times Wanted r
    leads : LeadsOver shovels times Wanted r c
    still : (e : Change) → LeadsOver shovels times Wanted best e → LeadsOver shovels times Wanted r e

  left : (c : Change) (best : Option Change) → LeadsOver shovels times Wanted best c → Tried c best best
  left c best h = record { sound = λ s. s; leads = h; still = λ e l. l }

  no_change : (c : Change) (best : Option Change) → (Counts times Wanted c → ⊥) → LeadsOver shovels times Wanted best c
  unfolding LeadsOver
  no_change c None h = h
  no_change c (Some d) h = λ k. absurd (h k)

  module _ (c : Change) (listed : c.place < length times) (within : Within c.raised (get_or times c.place 0) c.seconds) where
    later : (best : Option Change) → comes_first shovels c best ≡ false → LeadsOver shovels times Wanted best c
    unfolding comes_first LeadsOver
    later None q = absurd (true≢false q)
    later (Some d) q = λ k. subst (Told shovels c d) q (before_told shovels c d)

    taken : (best : Option Change) → 0 < c.seconds → comes_first shovels c best ≡ true → Wanted (changed times c) → Tried c best (Some c)
    unfolding comes_first LeadsOver Sound
    taken best l q w =
        record {
          sound = λ s. record { listed = listed; some = l; within = within; wanted = w };
          leads = λ k. no_later_refl shovels c;
          still = λ e. over best q e;
        }
      where
        over : (best : Option Change) → comes_first shovels c best ≡ true → (e : Change) → LeadsOver shovels times Wanted best e → Counts times Wanted e → NoLater shovels c e
        over None q e h k = absurd (h k)
        over (Some d) q e h k = no_later_trans shovels c d e (subst (Told shovels c d) q (before_told shovels c d)) (h k)

    tried : (best : Option Change) → Tried c best (attempted known shovels times c best)
    unfolding attempted
    tried best = go (ltb 0 c.seconds) (comes_first shovels c best) (elsewhere known shovels (changed times c)) refl refl refl
      where
        go : (a b w : Bool) → ltb 0 c.seconds ≡ a → comes_first shovels c best ≡ b → elsewhere known shovels (changed times c) ≡ w
            → Tried c best (cond (a && (b && w)) (Some c) best)
        go true true true p q r = taken best (ltb-true 0 c.seconds p) q r
        go true true false p q r = left c best (no_change c best (λ k. true≢false (sym k.wanted ∙ r)))
        go true false w p q r = left c best (later best q)
        go false b w p q r = left c best (no_change c best (λ k. absurd (omega (arith, ltb-false 0 c.seconds p, k.some))))

  -- the change to a time v
  within_to : (i v : ℕ) → v ≤ most_time → Within (ltb (get_or times i 0) v) (get_or times i 0) (change_to times i v).seconds
  unfolding Within
  within_to i v l = go (dec_lt (get_or times i 0) v)
    where
      go : Dec (get_or times i 0 < v) → Within (ltb (get_or times i 0) v) (get_or times i 0) (change_to times i v).seconds
      go (yes h) = rw (lt-ltb (get_or times i 0) v h) (omega arith)
      go (no h) = rw (le-ltb (get_or times i 0) v (omega arith)) (omega arith)

  tried_to : (i v : ℕ) → i < length times → v ≤ most_time → (best : Option Change) → Tried (change_to times i v) best (attempted known shovels times (change_to times i v) best)
  tried_to i v li l best = tried (change_to times i v) li (within_to i v l) best

  -- ---- those of a shovel

  -- r leads over e where it leads over one that counts and is no later
  leads_by : (r : Option Change) (e : Change) → (Counts times Wanted e → (c : Change) × LeadsOver shovels times Wanted r c × Counts times Wanted c × NoLater shovels c e)
      → LeadsOver shovels times Wanted r e
  unfolding LeadsOver
  leads_by None e h = λ k. let n = h k in n.1 n.2
  leads_by (Some d) e h = λ k. let n = h k in no_later_trans shovels d n.0 e (n.1 n.2) n.3

  module _ (h : Listed known shovels times) where
    by_ties : ByTies (length times) Wanted
    unfolding elsewhere has_rank
    by_ties xs ys l s w =
        rw (← same_count xs ys s, ← same_rank xs ys s shovels (get_or shovels known.chosen 0), ← s.same known.chosen (omega (arith, h.place))) w

    not_yet : Wanted times → ⊥
    unfolding elsewhere
    not_yet w = true≢false (sym ((and-eq-true_iff (leb (ties times) (2 ^ known.width)) _).0 w).1 ∙ ap not h.chosen)

    -- of no shovel, and of a list of one, none counts
    pub best_none : BestOf shovels times Wanted 0 None
    unfolding Sound
    best_none = record { sound = tt; leads = λ e l. absurd (omega arith) }

    pub best_alone : length times < 2 → BestOf shovels times Wanted (length times) None
    unfolding Sound LeadsOver
    best_alone l = record { sound = tt; leads = λ e le k. absurd (omega (arith, several shovels times Wanted by_ties not_yet e k)) }

    module _ (i x : ℕ) (li : i < length times) (o : LeastOther times i x) (lx : x ≤ most_time) (best : Option Change) (b : BestOf shovels times Wanted i best) where
      abbrev step : ℕ → Option Change → Option Change
      step v = attempted known shovels times (change_to times i v)

      abbrev t : ℕ
      t = get_or times i 0

      abbrev below : Option Change
      below = cond (eqb x 0 || ltb t x) best (step (x - 1) best)

      abbrev at : Option Change
      at = step x below

      abbrev above : Option Change
      above = cond (eqb x most_time || ltb x t) at (step (x + 1) at)

      -- after a change that may be none
      record Next (r s : Option Change) : Type 0 where
        sound : Sound shovels times Wanted r → Sound shovels times Wanted s
        still : (e : Change) → LeadsOver shovels times Wanted r e → LeadsOver shovels times Wanted s e

      tried-below : Next best below × (0 < x → x ≤ t → LeadsOver shovels times Wanted below (change_to times i (x - 1)))
      tried-below = go (ℕ_discrete x 0) (dec_lt t x)
        where
          none : Next best best
          none = record { sound = λ s. s; still = λ e l. l }

          go : Dec (x ≡ 0) → Dec (t < x) → Next best below × (0 < x → x ≤ t → LeadsOver shovels times Wanted below (change_to times i (x - 1)))
          go (yes e) d = rw (eq-eqb x 0 e) (none, λ l h. absurd (omega arith))
          go (no n) (yes l) = rw (ne_eqb x 0 n, lt-ltb t x l) (none, λ z h. absurd (omega arith))
          go (no n) (no d) =
              let r = tried_to i (x - 1) li (omega arith) best in
              rw (ne_eqb x 0 n, le-ltb t x (omega arith)) (record { sound = r.sound; still = r.still }, λ l h. r.leads)

      tried_at : Tried (change_to times i x) below at
      tried_at = tried_to i x li lx below

      tried-above : Next at above × (x < most_time → t ≤ x → LeadsOver shovels times Wanted above (change_to times i (x + 1)))
      tried-above = go (ℕ_discrete x most_time) (dec_lt x t)
        where
          none : Next at at
          none = record { sound = λ s. s; still = λ e l. l }

          go : Dec (x ≡ most_time) → Dec (x < t) → Next at above × (x < most_time → t ≤ x → LeadsOver shovels times Wanted above (change_to times i (x + 1)))
          go (yes e) d = rw (eq-eqb x most_time e) (none, λ l h. absurd (omega arith))
          go (no n) (yes l) = rw (ne_eqb x most_time n, lt-ltb x t l) (none, λ z h. absurd (omega arith))
          go (no n) (no d) =
              let r = tried_to i (x + 1) li (omega arith) at in
              rw (ne_eqb x most_time n, le-ltb x t (omega arith)) (record { sound = r.sound; still = r.still }, λ l h. r.leads)

      own : (e : Change) → e.place ≡ i → LeadsOver shovels times Wanted above e
      own e q = leads_by above e (λ k. go k (nearest shovels times Wanted by_ties not_yet e k x (subst (λ (j : ℕ). LeastOther times j x) (sym q) o)))
        where
          to : (v : ℕ) → Close shovels times Wanted e v → LeadsOver shovels times Wanted above (change_to times i v)
              → (c : Change) × LeadsOver shovels times Wanted above c × Counts times Wanted c × NoLater shovels c e
          to v c l = (change_to times e.place v, subst (λ (j : ℕ). LeadsOver shovels times Wanted above (change_to times j v)) (sym q) l, c.counts, c.earlier)

          go : Counts times Wanted e → Beside shovels times Wanted e x → (c : Change) × LeadsOver shovels times Wanted above c × Counts times Wanted c × NoLater shovels c e
          go k (inl c) = to x c (tried-above.0.still _ tried_at.leads)
          go k (inr (inl c)) = to (x - 1) c.2 (tried-above.0.still _ (tried_at.still _ (tried-below.1 c.0 (rw (ap (λ (j : ℕ). get_or times j 0) q) at c.1))))
          go k (inr (inr c)) = to (x + 1) c.2 (tried-above.1 c.0 (rw (ap (λ (j : ℕ). get_or times j 0) q) at c.1))

      best_next : BestOf shovels times Wanted (i + 1) above
      best_next =
          record {
            sound = tried-above.0.sound (tried_at.sound (tried-below.0.sound b.sound));
            leads = λ e l. go e l (ℕ_discrete e.place i);
          }
        where
          go : (e : Change) → e.place < i + 1 → Dec (e.place ≡ i) → LeadsOver shovels times Wanted above e
          go e l (yes q) = own e q
          go e l (no n) = tried-above.0.still e (tried_at.still e (tried-below.0.still e (b.leads e (omega arith))))

      -- as they are answered one after the other
      pub best_found : (r₁ r₂ r₃ : Option Change) → r₁ ≡ cond (eqb x 0 || ltb t x) best (step (x - 1) best) → r₂ ≡ step x r₁
          → r₃ ≡ cond (eqb x most_time || ltb x t) r₂ (step (x + 1) r₂)
          → BestOf shovels times Wanted (i + 1) r₃
      best_found r₁ r₂ r₃ e₁ e₂ e₃ =
          subst (BestOf shovels times Wanted (i + 1)) (sym (e₃ ∙ ap (λ (b : Option Change). cond (eqb x most_time || ltb x t) b (step (x + 1) b)) (e₂ ∙ ap (step x) e₁))) best_next
