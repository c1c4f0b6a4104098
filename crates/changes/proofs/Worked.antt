-- Worked examples: least changes, and lists where no change counts. What is wanted is that the truck is sent elsewhere by a pick that draws rank rank_of k of k ties
-- and is refused where they are more than limit.
use mathlib.Core.Path.{◌≡◌, refl, sym, subst}
use mathlib.Core.Logic.{◌≢◌, inl, inr}
use mathlib.Core.Bool.{Bool, true, false, true≢false}
use mathlib.Core.List.{List, [], ◌∷◌}
use Prim.Native.Nat.{ℕ, zero, suc, ◌+◌, ◌-◌, ◌/◌, ◌≤◌, ◌<◌}
use native.Mathlib.Nat.{le_refl}
use native.Mathlib.Omega.{arith}
use borrow.Author.Tests.{leb-true}
use lib.Dec.{leb}
use lib.ListN.{length, get_or}
use Rattle.cycle.specs.Notation.{every, sum, count, first}
use Rattle.cycle.proofs.Every.{every_at}
use Rattle.ties.specs.Ties.{is_tie, ties, rank, has_rank, chosen}
use Rattle.changes.specs.declared.Change.{Change}
use Rattle.changes.specs.Change.{most_time, moved, Within, changed, Counts, NoLater, LeastChange}
use Rattle.changes.specs.Others.{change_to, before}
use Rattle.ties.proofs.Alike.{same_count, same_chosen}
use Rattle.changes.proofs.After.{LeastOther}
use Rattle.changes.proofs.Order.{no_later_trans, Told, before_told}
use Rattle.changes.proofs.Nearest.{Beside, ByTies, nearest, several}

-- the pick of the times ys is not refused, and answers another number
abbrev pub Sends : (ℕ → ℕ) → ℕ → List ℕ → List ℕ → List ℕ → Type 0
Sends rank_of limit shovels times ys = (ties ys ≤ limit) × (chosen shovels ys (rank_of (ties ys)) ≢ chosen shovels times (rank_of (ties times)))

by_ties : (rank_of : ℕ → ℕ) (limit : ℕ) (shovels times : List ℕ) → ByTies (length times) (Sends rank_of limit shovels times)
by_ties rank_of limit shovels times xs ys l s w = rw (← same_count xs ys s, ← same_chosen xs ys s shovels (rank_of (ties xs))) w

-- in a list of one no change counts
pub firm-one : (rank_of : ℕ → ℕ) (limit n t : ℕ) (e : Change) → Counts (t ∷ []) (Sends rank_of limit (n ∷ []) (t ∷ [])) e → ⊥
firm-one rank_of limit n t e k = omega (arith, several (n ∷ []) (t ∷ []) _ (by_ties rank_of limit (n ∷ []) (t ∷ [])) (λ w. w.1 refl) e k)

-- ---- two shovels: 4, and 7 with a later time

abbrev pub two : List ℕ
two = 4 ∷ 7 ∷ []

abbrev pub pair : ℕ → ℕ → List ℕ
pair s t = s ∷ t ∷ []

-- 4 raised by so many seconds
abbrev pub up : ℕ → Change
up d = record { place = 0; raised = true; seconds = d }

module _ (rank_of : ℕ → ℕ) (limit s t : ℕ) (l : s < t) where
  abbrev times : List ℕ
  times = pair s t

  abbrev Wanted : List ℕ → Type 0
  Wanted = Sends rank_of limit two times

  -- P holds of the change of the time at place i to v, where that counts
  abbrev Each : (Change → Type 0) → ℕ → ℕ → Type 0
  Each P i v = Counts times Wanted (change_to times i v) → P (change_to times i v)

  -- and so of the four that are worth a look
  record Nearby (P : Change → Type 0) : Type 0 where
    four_to : Each P 0 t
    four_past : t < most_time → Each P 0 (t + 1)
    seven_to : Each P 1 s
    seven_past : 0 < s → Each P 1 (s - 1)

  -- each change that counts has one of the four no later
  nearby : (P : Change → Type 0) → Nearby P → (e : Change) → Counts times Wanted e → (c : Change) × P c × NoLater two c e
  nearby P f e k = go e.place e.raised e.seconds k
    where
      near : (e : Change) → Counts times Wanted e → (x : ℕ) → LeastOther times e.place x → Beside two times Wanted e x
      near = nearest two times Wanted (by_ties rank_of limit two times) (λ w. w.1 refl)

      found : (e : Change) (x : ℕ) → Each P e.place x → (0 < x → x ≤ get_or times e.place 0 → Each P e.place (x - 1)) → (x < most_time → get_or times e.place 0 ≤ x → Each P e.place (x + 1))
          → Beside two times Wanted e x → (c : Change) × P c × NoLater two c e
      found e x at below above (inl h) = (_, at h.counts, h.earlier)
      found e x at below above (inr (inl h)) = (_, below h.0 h.1 h.2.counts, h.2.earlier)
      found e x at below above (inr (inr h)) = (_, above h.0 h.1 h.2.counts, h.2.earlier)

      -- the least other time is the other's
      other : (i j : ℕ) → i < 2 → j < 2 → i ≢ j → LeastOther times i (get_or times j 0)
      other i j li lj n = record { stands = (j, lj, λ q. n (sym q), refl); least = λ k lk m. let q : k ≡ j = omega arith in rw q (le_refl _) }

      go : (i : ℕ) (r : Bool) (d : ℕ) → Counts times Wanted (record { place = i; raised = r; seconds = d }) → (c : Change) × P c × NoLater two c (record { place = i; raised = r; seconds = d })
      go zero r d k = found _ t f.four_to (λ m h. absurd (omega arith)) (λ m h. f.four_past m) (near _ k t (other 0 1 (omega arith) (omega arith) (omega arith)))
      go (suc zero) r d k = found _ s f.seven_to (λ m h. f.seven_past m) (λ m h. absurd (omega arith)) (near _ k s (other 1 0 (omega arith) (omega arith) (omega arith)))
      go (suc (suc i)) r d k = absurd (omega (arith, k.listed))

  -- none of the four that counts comes before
  least-up : (d : ℕ) → Counts times Wanted (up d) → Nearby (λ c. before two c (up d) ≡ false) → LeastChange two times Wanted (up d)
  least-up d k f =
      record {
        counts = k;
        least = λ e m. let r = nearby _ f e m in no_later_trans two (up d) r.0 e (subst (Told two r.0 (up d)) r.1 (before_told two r.0 (up d))) r.2;
      }

-- 4 at 300 and 7 at 305. The lower number is drawn of two ties: 4 raised by 6
pub raised_six : LeastChange two (pair 300 305) (Sends (λ k. 0) 2 two (pair 300 305)) (up 6)
unfolding Within moved changed chosen has_rank rank ties is_tie first count sum every before
raised_six =
    least-up (λ k. 0) 2 300 305 (omega arith) 6 (omega arith)
    (record { four_to = λ m. absurd (m.wanted.1 refl); four_past = λ l m. refl; seven_to = λ m. absurd (m.wanted.1 refl); seven_past = λ l m. refl })

-- the higher is drawn: 4 raised by 5
pub raised_five : LeastChange two (pair 300 305) (Sends (λ k. k - 1) 2 two (pair 300 305)) (up 5)
unfolding Within moved changed chosen has_rank rank ties is_tie first count sum every before
raised_five =
    least-up (λ k. k - 1) 2 300 305 (omega arith) 5 (omega arith)
    (record { four_to = λ m. refl; four_past = λ l m. refl; seven_to = λ m. refl; seven_past = λ l m. refl })

-- the higher would be drawn, but two ties are refused: 4 raised by 6
pub refused_five : LeastChange two (pair 300 305) (Sends (λ k. k - 1) 1 two (pair 300 305)) (up 6)
unfolding Within moved changed chosen has_rank rank ties is_tie first count sum every before
refused_five =
    least-up (λ k. k - 1) 1 300 305 (omega arith) 6 (omega arith)
    (record { four_to = λ m. absurd (omega (arith, m.wanted.0)); four_past = λ l m. refl; seven_to = λ m. absurd (omega (arith, m.wanted.0)); seven_past = λ l m. refl })

-- 4 at 0 and 7 at the greatest time, the lower number drawn: no change counts
pub firm_two : (e : Change) → Counts (pair 0 most_time) (Sends (λ k. 0) 2 two (pair 0 most_time)) e → ⊥
unfolding Within moved changed chosen has_rank rank ties is_tie first count sum every
firm_two e k =
    (nearby (λ k. 0) 2 0 most_time (omega arith) (λ c. ⊥)
    (record { four_to = λ m. m.wanted.1 refl; four_past = λ l m. omega arith; seven_to = λ m. m.wanted.1 refl; seven_past = λ l m. omega arith }) e k).1

-- ---- three ties at 300, the middle number drawn

abbrev pub three : List ℕ
three = 4 ∷ 7 ∷ 9 ∷ []

abbrev pub level : List ℕ
level = 300 ∷ 300 ∷ 300 ∷ []

-- 4 raised by 1 counts
pub raised_too : Counts level (Sends (λ k. k / 2) 3 three level) (up 1)
unfolding Within moved changed chosen has_rank rank ties is_tie first count sum every
raised_too = omega arith

-- 4 lowered by 1 is least
pub lowered_wins : LeastChange three level (Sends (λ k. k / 2) 3 three level) (record { place = 0; raised = false; seconds = 1 })
unfolding Within moved changed chosen has_rank rank ties is_tie first count sum every
lowered_wins =
    record {
      counts = omega arith;
      least = λ e m.
          record {
            seconds = m.some;
            number = λ q. leb-true 4 (get_or three e.place 0) (every_at 3 (λ i. leb 4 (get_or three i 0)) refl e.place m.listed);
            direction = λ q n r. absurd (true≢false (sym r));
          };
    }
