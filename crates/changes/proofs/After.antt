-- Ties after one time has become v: they depend on v only by its side of the least other time.
use mathlib.Core.Path.{◌≡◌, refl, sym, ap, ap₂, ◌∙◌}
use mathlib.Core.Logic.{◌≢◌}
use mathlib.Core.Bool.{Bool, true, false, cond, not, ◌&&◌, ◌||◌}
use mathlib.Core.List.{List}
use Prim.Native.Nat.{ℕ, zero, suc, ◌+◌, ◌≤◌, ◌<◌}
use native.Mathlib.Nat.{le_refl}
use native.Mathlib.Decide.{ℕ_discrete, dec_lt}
use native.Mathlib.Omega.{arith}
use borrow.Author.Tests.{lt-ltb, le-ltb, lt-leb, eq-eqb, ne_eqb}
use lib.Dec.{eqb, ltb}
use lib.ListN.{length, get_or, set, length-set}
use lib.Seq.{get_or-set_same, get_or-set_other}
use Rattle.cycle.specs.Notation.{one, count}
use Rattle.cycle.proofs.Every.{every_not}
use Rattle.cycle.proofs.Count.{count_next, count_ext, count_add, count_never}
use Rattle.ties.specs.Ties.{is_tie}
use Rattle.ties.specs.Least.{SameTies}
use Rattle.ties.proofs.Least.{tie_of}
use Rattle.changes.specs.Others.{other_at}

-- x is the least time of the shovels but the one at place i
pub record LeastOther (times : List ℕ) (i x : ℕ) : Type 0 where
  pub stands : (j : ℕ) × (j < length times) × (j ≢ i) × (get_or times j 0 ≡ x)
  pub least : (j : ℕ) → j < length times → j ≢ i → x ≤ get_or times j 0

-- whether shovel j is a tie then
abbrev pub tie_after : List ℕ → ℕ → ℕ → ℕ → ℕ → Bool
tie_after times i x v j = cond (ltb v x) (eqb j i) (other_at times i x j || (eqb v x && eqb j i))

no_tie : (ys : List ℕ) (j k : ℕ) → k < length ys → get_or ys k 0 < get_or ys j 0 → is_tie ys j ≡ false
unfolding is_tie
no_tie ys j k l h = every_not (length ys) _ k l (lt-leb (get_or ys j 0) (get_or ys k 0) h)

module _ (times : List ℕ) (i x : ℕ) (li : i < length times) (o : LeastOther times i x) (v : ℕ) where
  abbrev ys : List ℕ
  ys = set times i v

  size : length ys ≡ length times
  size = length-set times i v

  own : get_or ys i 0 ≡ v
  own = get_or-set_same times i v 0 li

  other : (j : ℕ) → j ≢ i → get_or ys j 0 ≡ get_or times j 0
  other j n = get_or-set_other times i j v 0 n

  -- the least time of another shovel stands here
  abbrev k : ℕ
  k = o.stands.0

  at_k : get_or ys k 0 ≡ x
  at_k = other k o.stands.2 ∙ o.stands.3

  own_tie : v ≤ x → is_tie ys i ≡ true
  own_tie l = tie_of ys i (λ j lj. go j (omega (arith, size)) (ℕ_discrete j i))
    where
      go : (j : ℕ) → j < length times → Dec (j ≡ i) → get_or ys i 0 ≤ get_or ys j 0
      go j lj (yes e) = rw e (le_refl _)
      go j lj (no n) = omega (arith, own, other j n, o.least j lj n)

  other-tie : (j : ℕ) → j ≢ i → get_or times j 0 ≡ x → x ≤ v → is_tie ys j ≡ true
  other-tie j n e l = tie_of ys j (λ k lk. go k (omega (arith, size)) (ℕ_discrete k i))
    where
      go : (k : ℕ) → k < length times → Dec (k ≡ i) → get_or ys j 0 ≤ get_or ys k 0
      go k lk (yes q) = rw q (omega (arith, own, other j n))
      go k lk (no m) = omega (arith, other j n, other k m, o.least k lk m)

  no_own : x < v → is_tie ys i ≡ false
  no_own l = no_tie ys i k (omega (arith, size, o.stands.1)) (omega (arith, own, at_k))

  no_other : (j : ℕ) → j ≢ i → v < get_or times j 0 → is_tie ys j ≡ false
  no_other j n l = no_tie ys j i (omega (arith, size)) (omega (arith, own, other j n))

  no_later : (j : ℕ) → j ≢ i → x < get_or times j 0 → is_tie ys j ≡ false
  no_later j n l = no_tie ys j k (omega (arith, size, o.stands.1)) (omega (arith, at_k, other j n))

  pub tie_after_lem : (j : ℕ) → j < length times → is_tie ys j ≡ tie_after times i x v j
  tie_after_lem j lj = go (ℕ_discrete j i) (dec_lt v x) (ℕ_discrete v x) (ℕ_discrete (get_or times j 0) x)
    where
      go : Dec (j ≡ i) → Dec (v < x) → Dec (v ≡ x) → Dec (get_or times j 0 ≡ x) → is_tie ys j ≡ tie_after times i x v j
      go (yes e) (yes l) d f = rw (lt-ltb v x l, eq-eqb j i e) (rw e (own_tie (omega arith)))
      go (yes e) (no l) (yes d) f = rw (le-ltb v x (omega arith), eq-eqb j i e, eq-eqb v x d) (rw e (own_tie (omega arith)))
      go (yes e) (no l) (no d) f = rw (le-ltb v x (omega arith), eq-eqb j i e, ne_eqb v x d) (rw e (no_own (omega arith)))
      go (no n) (yes l) d f = rw (lt-ltb v x l, ne_eqb j i n) (no_other j n (omega (arith, o.least j lj n)))
      go (no n) (no l) d (yes f) = rw (le-ltb v x (omega arith), ne_eqb j i n, eq-eqb (get_or times j 0) x f) (other-tie j n f (omega arith))
      go (no n) (no l) (yes d) (no f) = rw (le-ltb v x (omega arith), ne_eqb j i n, ne_eqb (get_or times j 0) x f, eq-eqb v x d) (no_later j n (omega (arith, o.least j lj n)))
      go (no n) (no l) (no d) (no f) = rw (le-ltb v x (omega arith), ne_eqb j i n, ne_eqb (get_or times j 0) x f, ne_eqb v x d) (no_later j n (omega (arith, o.least j lj n)))

-- ---- how many

-- of the numbers below n that are i, those that meet p
count-only : (n i : ℕ) (p : ℕ → Bool) → i < n → count n (λ j. eqb j i && p j) ≡ one (p i)
count-only zero i p l = absurd (omega arith)
count-only (suc n) i p l = count_next n _ ∙ go (ℕ_discrete n i) (count-only n i p)
  where
    go : Dec (n ≡ i) → (i < n → count n (λ j. eqb j i && p j) ≡ one (p i)) → count n (λ j. eqb j i && p j) + one (eqb n i && p n) ≡ one (p i)
    go (yes e) ih = rw (count_never n (λ j. eqb j i && p j) (λ j lj. rw (ne_eqb j i (λ q. absurd (omega arith))) refl), eq-eqb n i e, e) (omega arith)
    go (no m) ih = rw (ne_eqb n i m, ih (omega arith)) (omega arith)

-- of the ties then, those that meet p
module _ (times : List ℕ) (i x : ℕ) (li : i < length times) (o : LeastOther times i x) (v : ℕ) (p : ℕ → Bool) where
  abbrev others : ℕ
  others = count (length times) (λ j. other_at times i x j && p j)

  counted : (a b : Bool) → a ≡ ltb v x → b ≡ eqb v x
      → count (length times) (λ j. is_tie (set times i v) j && p j) ≡ cond a (one (p i)) (others + cond b (one (p i)) 0)
  counted a b ea eb =
      count_ext (length times) _ _ (λ j l. ap (λ (t : Bool). t && p j) (tie_after_lem times i x li o v j l ∙ ap₂ (after j) (sym ea) (sym eb))) ∙ go a b
    where
      after : ℕ → Bool → Bool → Bool
      after j a b = cond a (eqb j i) (other_at times i x j || (b && eqb j i))

      both : (e t q : Bool) → one ((not e && t || e) && q) ≡ one ((not e && t) && q) + one (e && q)
      both true t true = refl
      both true t false = refl
      both false true true = refl
      both false true false = refl
      both false false q = refl

      neither : (e t q : Bool) → ((not e && t || false) && q) ≡ ((not e && t) && q)
      neither true t q = refl
      neither false true q = refl
      neither false false q = refl

      go : (a b : Bool) → count (length times) (λ j. after j a b && p j) ≡ cond a (one (p i)) (others + cond b (one (p i)) 0)
      go true b = count-only (length times) i p li
      go false true =
          count_add (length times) _ _ (λ j. eqb j i && p j) (λ j l. both (eqb j i) (eqb (get_or times j 0) x) (p j))
          ∙ ap (λ (c : ℕ). others + c) (count-only (length times) i p li)
      go false false = count_ext (length times) _ _ (λ j l. neither (eqb j i) (eqb (get_or times j 0) x) (p j)) ∙ omega arith

  pub count_after : count (length (set times i v)) (λ j. is_tie (set times i v) j && p j) ≡ cond (ltb v x) (one (p i)) (others + cond (eqb v x) (one (p i)) 0)
  count_after = ap (λ (n : ℕ). count n (λ j. is_tie (set times i v) j && p j)) (length-set times i v) ∙ counted (ltb v x) (eqb v x) refl refl

-- two times on the same side
pub same_side : (times : List ℕ) (i x : ℕ) → i < length times → LeastOther times i x → (v w : ℕ) → ltb v x ≡ ltb w x → eqb v x ≡ eqb w x
    → SameTies (set times i v) (set times i w)
same_side times i x li o v w a b =
    record {
      size = length-set times i v ∙ sym (length-set times i w);
      same = λ j l. let lj : j < length times = omega (arith, length-set times i v) in
          tie_after_lem times i x li o v j lj ∙ ap₂ (λ (a b : Bool). cond a (eqb j i) (other_at times i x j || (b && eqb j i))) a b ∙ sym (tie_after_lem times i x li o w j lj);
    }
