-- The ascending list of a set: its length is their count, and of two sets of one size the one that has the first number at which they differ comes first.
use mathlib.Core.Path.{◌≡◌, refl, sym, ap, ap₂, ◌∙◌}
use mathlib.Core.Logic.{◌↔◌}
use mathlib.Core.Bool.{Bool, true, false, cond, ◌&&◌, ◌||◌, true≢false}
use mathlib.Core.List.{List, [], ◌∷◌, ◌++◌}
use Prim.Native.Nat.{ℕ, zero, suc, ◌+◌, ◌≤◌, ◌<◌}
use native.Mathlib.Nat.{zero-add, add-zero, suc-add, add-suc, le_refl}
use native.Mathlib.Decide.{ℕ_discrete, dec_lt}
use native.Mathlib.Omega.{arith}
use borrow.Author.Tests.{eq-eqb, ne_eqb, le-ltb, lt-ltb}
use lib.Dec.{eqb, ltb}
use lib.ListN.{length, get_or}
use Rattle.cycle.specs.Notation.{one, count}
use Rattle.completions.specs.Sets.{members_from, members, precedes, LeastSet}
use Rattle.cycle.proofs.Count.{count_none, count_next}

-- ---- their count

members_from_count : (d a : ℕ) (P : ℕ → Bool) → length (members_from d a P) + count a P ≡ count (d + a) P
unfolding members_from
members_from_count zero a P = simp zero-add
members_from_count (suc d) a P = go (P a) refl (members_from_count d (suc a) P)
  where
    go : (b : Bool) → P a ≡ b → length (members_from d (suc a) P) + count (suc a) P ≡ count (d + suc a) P
        → length (cond b (a ∷ members_from d (suc a) P) (members_from d (suc a) P)) + count a P ≡ count (suc d + a) P
    go true e ih = rw (suc-add d a, sym (add-suc d a)) (omega (arith, count_next a P, ap one e))
    go false e ih = rw (suc-add d a, sym (add-suc d a)) (omega (arith, count_next a P, ap one e))

pub members-count : (N : ℕ) (P : ℕ → Bool) → length (members N P) ≡ count N P
members-count N P = let c : count (N + 0) P ≡ count N P = rw add-zero in omega (arith, members_from_count N 0 P, count_none P)

-- ---- which numbers they are

-- each is in the set, from a on
from_at : (d a : ℕ) (P : ℕ → Bool) (k : ℕ) → let l = members_from d a P in k < length l → let x = get_or l k 0 in (a ≤ x) × (x < d + a) × (P x ≡ true)
unfolding members_from
from_at zero a P k l = absurd (omega arith)
from_at (suc d) a P k l = go (P a) refl k l (from_at d (suc a) P)
  where
    go : (b : Bool) → P a ≡ b → (k : ℕ) → let l = cond b (a ∷ members_from d (suc a) P) (members_from d (suc a) P) in k < length l
        → ((k : ℕ) → let l = members_from d (suc a) P in k < length l → let x = get_or l k 0 in (suc a ≤ x) × (x < d + suc a) × (P x ≡ true))
        → let x = get_or l k 0 in (a ≤ x) × (x < suc d + a) × (P x ≡ true)
    go true e zero l ih = (le_refl a, omega arith, e)
    go true e (suc k) l ih = let (from, below, h) = ih k (omega arith) in (omega arith, omega arith, h)
    go false e k l ih = let (from, below, h) = ih k l in (omega arith, omega arith, h)

-- a later one is larger
from_ascending : (d a : ℕ) (P : ℕ → Bool) (j k : ℕ) → let l = members_from d a P in j < k → k < length l → get_or l j 0 < get_or l k 0
unfolding members_from
from_ascending zero a P j k jk l = absurd (omega arith)
from_ascending (suc d) a P j k jk l = go (P a) j k jk l (from_ascending d (suc a) P)
  where
    go : (b : Bool) (j k : ℕ) → let l = cond b (a ∷ members_from d (suc a) P) (members_from d (suc a) P) in j < k → k < length l
        → ((j k : ℕ) → let l = members_from d (suc a) P in j < k → k < length l → get_or l j 0 < get_or l k 0) → get_or l j 0 < get_or l k 0
    go true j zero jk l ih = absurd (omega arith)
    go true zero (suc k) jk l ih = (from_at d (suc a) P k (omega arith)).0
    go true (suc j) (suc k) jk l ih = ih j k (omega arith) (omega arith)
    go false j k jk l ih = ih j k jk l

-- and each number of the set stands there
from_of : (d a : ℕ) (P : ℕ → Bool) (x : ℕ) → a ≤ x → x < d + a → P x ≡ true → let l = members_from d a P in (k : ℕ) × (k < length l) × (get_or l k 0 ≡ x)
unfolding members_from
from_of zero a P x ax l h = absurd (omega arith)
from_of (suc d) a P x ax l h = go (P a) refl (ℕ_discrete x a) (λ lt. from_of d (suc a) P x lt (omega arith) h)
  where
    go : (b : Bool) → P a ≡ b → Dec (x ≡ a) → (suc a ≤ x → let l = members_from d (suc a) P in (k : ℕ) × (k < length l) × (get_or l k 0 ≡ x))
        → let l = cond b (a ∷ members_from d (suc a) P) (members_from d (suc a) P) in (k : ℕ) × (k < length l) × (get_or l k 0 ≡ x)
    go true e (yes q) ih = (0, omega arith, sym q)
    go true e (no q) ih = let (k, lk, g) = ih (omega arith) in (suc k, omega arith, g)
    go false e (yes q) ih = absurd (true≢false (sym h ∙ ap P q ∙ e))
    go false e (no q) ih = ih (omega arith)

module _ (N : ℕ) (P : ℕ → Bool) where
  pub member_at : (k : ℕ) → k < count N P → let x = get_or (members N P) k 0 in (x < N) × (P x ≡ true)
  member_at k l = let (from, below, h) = from_at N 0 P k (omega (arith, members-count N P)) in (omega arith, h)

  pub member_of : (x : ℕ) → x < N → P x ≡ true → (k : ℕ) × (k < count N P) × (get_or (members N P) k 0 ≡ x)
  member_of x l h = let (k, lk, e) = from_of N 0 P x (omega arith) (omega arith) h in (k, omega (arith, members-count N P), e)

  pub members_ascend : (j k : ℕ) → j < k → k < count N P → get_or (members N P) j 0 < get_or (members N P) k 0
  members_ascend j k jk l = from_ascending N 0 P j k jk (omega (arith, members-count N P))

-- ---- one more number at the end, as a loop adds it

members_from_next : (d a : ℕ) (P : ℕ → Bool) → members_from (suc d) a P ≡ members_from d a P ++ cond (P (d + a)) ((d + a) ∷ []) []
unfolding members_from
members_from_next zero a P = rw zero-add
members_from_next (suc d) a P = rw (suc-add d a, sym (add-suc d a)) (go (P a) (members_from_next d (suc a) P))
  where
    go : (b : Bool) → members_from (suc d) (suc a) P ≡ members_from d (suc a) P ++ cond (P (d + suc a)) ((d + suc a) ∷ []) []
        → cond b (a ∷ members_from (suc d) (suc a) P) (members_from (suc d) (suc a) P)
        ≡ cond b (a ∷ members_from d (suc a) P) (members_from d (suc a) P) ++ cond (P (d + suc a)) ((d + suc a) ∷ []) []
    go true ih = ap (λ (l : List ℕ). a ∷ l) ih
    go false ih = ih

pub members_next : (n : ℕ) (P : ℕ → Bool) → members (suc n) P ≡ members n P ++ cond (P n) (n ∷ []) []
members_next n P = simp add-zero at (members_from_next n 0 P)

-- sets with the same numbers below n
pub members_same : (n : ℕ) (P Q : ℕ → Bool) → ((x : ℕ) → x < n → P x ≡ Q x) → members n P ≡ members n Q
unfolding members_from
members_same zero P Q h = refl
members_same (suc n) P Q h =
    members_next n P ∙ ap₂ (λ (l : List ℕ) (b : Bool). l ++ cond b (n ∷ []) []) (members_same n P Q (λ x l. h x (omega arith))) (h n (omega arith)) ∙ sym (members_next n Q)

-- ---- their comparison

-- from a on, P and Q are the same up to a place below n that P has and Q has not
pub record Before (P Q : ℕ → Bool) (a n : ℕ) : Type 0 where
  pub at : ℕ
  pub from : a ≤ at
  pub below : at < n
  pub same : (j : ℕ) → a ≤ j → j < at → P j ≡ Q j
  pub here : P at ≡ true
  pub there : Q at ≡ false

precedes-same : (a : ℕ) (xs ys : List ℕ) → precedes (a ∷ xs) (a ∷ ys) ≡ precedes xs ys
unfolding precedes
precedes-same a xs ys = simp (eq-eqb a a refl, le-ltb a a (le_refl a))

-- numbers from b on, if there are any, do not come before a smaller one
precedes_later : (d b a : ℕ) (P : ℕ → Bool) (ys : List ℕ) → a < b → 0 < length (members_from d b P) → precedes (members_from d b P) (a ∷ ys) ≡ false
unfolding precedes members_from
precedes_later zero b a P ys l some = absurd (omega arith)
precedes_later (suc d) b a P ys l some = go (P b) some (λ t. precedes_later d (suc b) a P ys (omega arith) t)
  where
    go : (t : Bool) → 0 < length (cond t (b ∷ members_from d (suc b) P) (members_from d (suc b) P))
        → (0 < length (members_from d (suc b) P) → precedes (members_from d (suc b) P) (a ∷ ys) ≡ false)
        → precedes (cond t (b ∷ members_from d (suc b) P) (members_from d (suc b) P)) (a ∷ ys) ≡ false
    go true some ih = simp (ne_eqb b a (omega arith), le-ltb b a (omega arith))
    go false some ih = ih some

before_from : (d a : ℕ) (P Q : ℕ → Bool) → length (members_from d a P) ≡ length (members_from d a Q) → precedes (members_from d a P) (members_from d a Q) ≡ true → Before P Q a (d + a)
unfolding precedes members_from
before_from zero a P Q e h = absurd (true≢false (sym h))
before_from (suc d) a P Q e h = go (P a) (Q a) refl refl e h (before_from d (suc a) P Q)
  where
    -- a is in both or in neither
    later : P a ≡ Q a → Before P Q (suc a) (d + suc a) → Before P Q a (suc d + a)
    later s r =
        record {
          at = r.at;
          from = omega (arith, r.from);
          below = omega (arith, r.below);
          same = λ j l k. first j l k (ℕ_discrete j a);
          here = r.here;
          there = r.there;
        }
      where
        first : (j : ℕ) → a ≤ j → j < r.at → Dec (j ≡ a) → P j ≡ Q j
        first j l k (yes q) = rw q s
        first j l k (no q) = r.same j (omega arith) k

    go : (p q : Bool) → P a ≡ p → Q a ≡ q
        → length (cond p (a ∷ members_from d (suc a) P) (members_from d (suc a) P)) ≡ length (cond q (a ∷ members_from d (suc a) Q) (members_from d (suc a) Q))
        → precedes (cond p (a ∷ members_from d (suc a) P) (members_from d (suc a) P)) (cond q (a ∷ members_from d (suc a) Q) (members_from d (suc a) Q)) ≡ true
        → (length (members_from d (suc a) P) ≡ length (members_from d (suc a) Q) → precedes (members_from d (suc a) P) (members_from d (suc a) Q) ≡ true → Before P Q (suc a) (d + suc a))
        → Before P Q a (suc d + a)
    go true true ep eq e h ih = later (ep ∙ sym eq) (ih (omega arith) (sym (precedes-same a (members_from d (suc a) P) (members_from d (suc a) Q)) ∙ h))
    go false false ep eq e h ih = later (ep ∙ sym eq) (ih e h)
    go true false ep eq e h ih = record { at = a; from = le_refl a; below = omega arith; same = λ j l k. absurd (omega arith); here = ep; there = eq }
    go false true ep eq e h ih =
        absurd (true≢false (sym h ∙ precedes_later d (suc a) a P (members_from d (suc a) Q) (le_refl (suc a)) (omega arith)))

pub before_of_precedes : (N : ℕ) (P Q : ℕ → Bool) → count N P ≡ count N Q → precedes (members N P) (members N Q) ≡ true → Before P Q 0 N
before_of_precedes N P Q e h = rw add-zero at (before_from N 0 P Q (members-count N P ∙ e ∙ sym (members-count N Q)) h)

-- of two lists, one comes before the other or they are the same
same_of_precedes : (xs ys : List ℕ) → precedes xs ys ≡ false → precedes ys xs ≡ false → xs ≡ ys
unfolding precedes
same_of_precedes [] [] h g = refl
same_of_precedes [] (y ∷ ys) h g = absurd (true≢false h)
same_of_precedes (x ∷ xs) [] h g = absurd (true≢false g)
same_of_precedes (x ∷ xs) (y ∷ ys) h g = go (dec_lt x y) (dec_lt y x) (same_of_precedes xs ys)
  where
    smaller : (x y : ℕ) (xs ys : List ℕ) → x < y → ltb x y || (eqb x y && precedes xs ys) ≡ false → ⊥
    smaller x y xs ys l h = true≢false (sym (simp (lt-ltb x y l)) ∙ h)

    go : Dec (x < y) → Dec (y < x) → (precedes xs ys ≡ false → precedes ys xs ≡ false → xs ≡ ys) → x ∷ xs ≡ y ∷ ys
    go (yes l) d ih = absurd (smaller x y xs ys l h)
    go (no l) (yes m) ih = absurd (smaller y x ys xs m g)
    go (no l) (no m) ih =
        let e : x ≡ y = omega arith in
        let tails : xs ≡ ys = ih (sym (precedes-same y xs ys) ∙ rw e at h) (sym (precedes-same y ys xs) ∙ rw e at g) in
        cc

-- ---- the least of the wanted sets

-- there is one at most
pub least-unique : (N : ℕ) (Wanted : (ℕ → Bool) → Type 0) (P Q : ℕ → Bool) → LeastSet N Wanted P → LeastSet N Wanted Q → members N P ≡ members N Q
least-unique N Wanted P Q p q =
    let e : count N P ≡ count N Q = omega (arith, p.fewest Q q.wanted, q.fewest P p.wanted) in
    same_of_precedes (members N P) (members N Q) (q.first P p.wanted e) (p.first Q q.wanted (sym e))

-- and which sets are wanted may be said in another way
pub least-same : (N : ℕ) (Wanted Also : (ℕ → Bool) → Type 0) → ((Q : ℕ → Bool) → Wanted Q ↔ Also Q) → (P : ℕ → Bool) → LeastSet N Wanted P → LeastSet N Also P
least-same N Wanted Also same P p =
    record { wanted = (same P).0 p.wanted; fewest = λ Q h. p.fewest Q ((same Q).1 h); first = λ Q h. p.first Q ((same Q).1 h) }
