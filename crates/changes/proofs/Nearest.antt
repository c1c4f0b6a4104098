-- EACH CHANGE THAT COUNTS HAS ONE NO LATER, of the same shovel, whose new time is the least other time or a second beside it. What is wanted of the times may be
-- anything that depends on the ties alone and that they have not yet.
use mathlib.Core.Path.{◌≡◌, refl, sym, ap, ◌∙◌, subst}
use mathlib.Core.Logic.{◌≢◌, ◌⊎◌, inl, inr}
use mathlib.Core.Bool.{Bool, true, false}
use mathlib.Core.List.{List}
use Prim.Native.Nat.{ℕ, ◌+◌, ◌-◌, ◌≤◌, ◌<◌}
use native.Mathlib.Nat.{le_refl}
use native.Mathlib.Decide.{ℕ_discrete, dec_lt}
use native.Mathlib.Omega.{arith}
use borrow.Author.Tests.{lt-ltb, le-ltb, ne_eqb}
use lib.Dec.{eqb, ltb}
use lib.ListN.{length, get_or, set, length-set}
use lib.Seq.{set-get_or}
use Rattle.ties.specs.Ties.{is_tie}
use Rattle.ties.proofs.Least.{tie_of}
use Rattle.ties.specs.Least.{SameTies}
use Rattle.changes.specs.declared.Change.{Change}
use Rattle.changes.specs.Change.{most_time, moved, Within, changed, Counts, NoLater}
use Rattle.changes.specs.Others.{change_to}
use Rattle.changes.proofs.After.{LeastOther, same_side}

-- ---- a change to v

module _ (times : List ℕ) (i v : ℕ) where
  abbrev t : ℕ
  t = get_or times i 0

  moved_to : moved (ltb t v) t (change_to times i v).seconds ≡ v
  unfolding moved
  moved_to = go (dec_lt t v)
    where
      go : Dec (t < v) → moved (ltb t v) t (change_to times i v).seconds ≡ v
      go (yes l) = rw (lt-ltb t v l) (omega arith)
      go (no n) = rw (le-ltb t v (omega arith)) (omega arith)

  pub changed_to : changed times (change_to times i v) ≡ set times i v
  unfolding changed
  changed_to = ap (set times i) moved_to

-- a change of time u to w: it is another time, a greater one where it is raised, and the seconds are between them
record Moves (raised : Bool) (u d w : ℕ) : Type 0 where
  other : w ≢ u
  up : u < w → (raised ≡ true) × (w ≤ most_time) × (d ≡ w - u)
  down : w < u → (raised ≡ false) × (d ≡ u - w)

moves : (raised : Bool) (u d : ℕ) → 1 ≤ d → Within raised u d → Moves raised u d (moved raised u d)
unfolding moved Within
moves true u d l w = record { other = λ e. absurd (omega arith); up = λ h. (refl, w, omega arith); down = λ h. absurd (omega arith) }
moves false u d l w = record { other = λ e. absurd (omega arith); up = λ h. absurd (omega arith); down = λ h. (refl, omega arith) }

-- the change of e's shovel to v counts, and is no later than e
pub record Close (shovels times : List ℕ) (Wanted : List ℕ → Type 0) (e : Change) (v : ℕ) : Type 0 where
  pub counts : Counts times Wanted (change_to times e.place v)
  pub earlier : NoLater shovels (change_to times e.place v) e

-- to x, or to a second less or more where that is a time and lies past x
abbrev pub Beside : List ℕ → List ℕ → (List ℕ → Type 0) → Change → ℕ → Type 0
Beside shovels times Wanted e x =
    let At = Close shovels times Wanted e in
    let t = get_or times e.place 0 in
    At x ⊎ (((0 < x) × (x ≤ t) × At (x - 1)) ⊎ ((x < most_time) × (t ≤ x) × At (x + 1)))

-- wanted of one list of n times, it is wanted of every list with the same ties
abbrev pub ByTies : ℕ → (List ℕ → Type 0) → Type 0
ByTies n Wanted = (xs ys : List ℕ) → length xs ≡ n → SameTies xs ys → Wanted xs → Wanted ys

module _ (shovels times : List ℕ) (Wanted : List ℕ → Type 0) (by : ByTies (length times) Wanted) (not_yet : Wanted times → ⊥) (e : Change) (k : Counts times Wanted e) where
  abbrev u : ℕ
  u = get_or times e.place 0

  abbrev w : ℕ
  w = moved e.raised u e.seconds

  m : Moves e.raised u e.seconds w
  m = moves e.raised u e.seconds k.some k.within

  module _ (x : ℕ) (o : LeastOther times e.place x) where
    -- it is not on the side where the time was
    crosses : ltb w x ≡ ltb u x → eqb w x ≡ eqb u x → ⊥
    unfolding changed
    crosses a b =
        not_yet
        (subst Wanted (set-get_or times e.place 0) (by _ (set times e.place u) (length-set times e.place w) (same_side times e.place x k.listed o w u a b) k.wanted))

    -- a time on its side, no farther away
    close : (v : ℕ) → ltb v x ≡ ltb w x → eqb v x ≡ eqb w x → v ≢ u → (u < v → (u < w) × (v ≤ w)) → (v < u → (w < u) × (w ≤ v)) → Close shovels times Wanted e v
    unfolding changed Within
    close v a b n up down = go (dec_lt u v)
      where
        there : Wanted (changed times (change_to times e.place v))
        there = subst Wanted (sym (changed_to times e.place v)) (by _ _ (length-set times e.place w) (same_side times e.place x k.listed o w v (sym a) (sym b)) k.wanted)

        made : 1 ≤ (change_to times e.place v).seconds → Within (ltb u v) u (change_to times e.place v).seconds → (change_to times e.place v).seconds ≤ e.seconds
            → ltb u v ≡ e.raised → Close shovels times Wanted e v
        made some within fewer direction =
            record {
              counts = record { listed = k.listed; some = some; within = within; wanted = there };
              earlier = record { seconds = fewer; number = λ q. le_refl _; direction = λ q z r. sym direction ∙ r };
            }

        go : Dec (u < v) → Close shovels times Wanted e v
        go (yes l) = let h = up l in let g = m.up h.0 in made (omega arith) (rw (lt-ltb u v l) (omega (arith, g.1, h.1))) (omega (arith, g.2, h.1)) (lt-ltb u v l ∙ sym g.0)
        go (no z) =
            let l : v < u = omega arith in
            let h = down l in
            let g = m.down h.0 in
            made (omega arith) (rw (le-ltb u v (omega arith)) (omega arith)) (omega (arith, g.1, h.1)) (le-ltb u v (omega arith) ∙ sym g.0)

    pub nearest : Beside shovels times Wanted e x
    nearest = go (dec_lt w x) (ℕ_discrete w x) (dec_lt u x) (ℕ_discrete u x)
      where
        above : x < w → u ≤ x → Beside shovels times Wanted e x
        above l h =
            inr (inr (
              omega (arith, (m.up (omega arith)).1),
              h,
              close (x + 1) (le-ltb (x + 1) x (omega arith) ∙ sym (le-ltb w x (omega arith))) (ne_eqb (x + 1) x (omega arith) ∙ sym (ne_eqb w x (omega arith)))
                  (omega arith) (λ z. (omega arith, omega arith)) (λ z. absurd (omega arith)),
            ))

        go : Dec (w < x) → Dec (w ≡ x) → Dec (u < x) → Dec (u ≡ x)
            → Beside shovels times Wanted e x
        go (yes l) q (yes h) g = absurd (crosses (lt-ltb w x l ∙ sym (lt-ltb u x h)) (ne_eqb w x (omega arith) ∙ sym (ne_eqb u x (omega arith))))
        go (yes l) q (no h) g =
            inr (inl (
              omega arith,
              omega arith,
              close (x - 1) (lt-ltb (x - 1) x (omega arith) ∙ sym (lt-ltb w x l)) (ne_eqb (x - 1) x (omega arith) ∙ sym (ne_eqb w x (omega arith)))
                  (omega arith) (λ z. absurd (omega arith)) (λ z. (omega arith, omega arith)),
            ))
        go (no l) (yes q) h g =
            inl (close x (ap (λ (v : ℕ). ltb v x) (sym q)) (ap (λ (v : ℕ). eqb v x) (sym q)) (λ z. m.other (q ∙ z)) (λ z. (omega arith, omega arith)) (λ z. (omega arith, omega arith)))
        go (no l) (no q) h (yes g) = above (omega arith) (omega arith)
        go (no l) (no q) (yes h) (no g) = above (omega arith) (omega arith)
        go (no l) (no q) (no h) (no g) =
            absurd (crosses (le-ltb w x (omega arith) ∙ sym (le-ltb u x (omega arith))) (ne_eqb w x q ∙ sym (ne_eqb u x g)))

  -- a list of one is firm
  pub several : 1 < length times
  unfolding changed
  several = go (dec_lt 1 (length times))
    where
      alone : (xs : List ℕ) → length xs ≤ 1 → (j : ℕ) → j < length xs → is_tie xs j ≡ true
      alone xs l j lj = tie_of xs j (λ k lk. let q : j ≡ k = omega arith in rw q (le_refl _))

      size : length (changed times e) ≡ length times
      size = length-set times e.place w

      go : Dec (1 < length times) → 1 < length times
      go (yes l) = l
      go (no n) =
          absurd (not_yet (by (changed times e) times size
          (record { size = size; same = λ j l. alone (changed times e) (omega (arith, size)) j l ∙ sym (alone times (omega arith) j (omega (arith, size))) }) k.wanted))
