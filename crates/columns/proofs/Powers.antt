-- A table of powers, filled in along the cycle.
use mathlib.Core.Path.{◌≡◌, sym, ap, ap₂, ◌∙◌, subst}
use mathlib.Core.Bool.{Bool, true, false, cond}
use mathlib.Core.List.{List}
use Prim.Native.Nat.{ℕ, ◌+◌, ◌^◌, ◌<◌, ◌≤◌}
use native.Mathlib.Nat.{add-zero, lt_of_lt_of_le}
use native.Mathlib.Numerals.{add-one}
use native.Mathlib.Decide.{ℕ_discrete, dec_lt}
use native.Mathlib.Omega.{arith}
use borrow.Author.Tests.{lt-ltb, le-ltb}
use lib.Dec.{eqb, ltb}
use lib.ListN.{length, get_or, set, replicate, length-set, length-replicate}
use lib.Pow.{pow_pos, pow_mono}
use lib.Seq.{get_or-set_same, get_or-set_other}
use Rattle.cycle.specs.Notation.{iterate}
use Rattle.cycle.proofs.Iterate.{iterate_add, iterate-below}
use Rattle.cycle.proofs.Every.{extend}
use Rattle.cycle.proofs.Lists.{get_or_filler}
use Rattle.tsc.specs.declared.Card.{Card}
use Rattle.tsc.specs.Constants.{most_words}
use Rattle.tsc.specs.Step.{entry}
use Rattle.columns.specs.Replace.{IsCycle, IsPowerOf, IsPower, image_of}

-- where 0 goes by j applications
abbrev pub stands : List ℕ → ℕ → ℕ
stands table j = iterate (λ y. get_or table y 0) j 0

stands_lt : (m : ℕ) (table : List ℕ) → IsCycle m table → (j : ℕ) → stands table j < 2 ^ m
stands_lt m table ok j = iterate-below (2 ^ m) (λ y. get_or table y 0) ok.entries j 0 (pow_pos m)

pub stands-few : (m : ℕ) (table : List ℕ) → IsCycle m table → m ≤ most_words → (j : ℕ) → stands table j < 2 ^ most_words
stands-few m table ok few j = lt_of_lt_of_le (stands_lt m table ok j) (pow_mono few)

-- one application more
pub stands_next : (table : List ℕ) (j : ℕ) {x : ℕ} → x ≡ stands table j → get_or table x 0 ≡ stands table (j + 1)
unfolding iterate
stands_next table j e = ap (λ (y : ℕ). get_or table y 0) e ∙ ap (stands table) (sym (add-one j))

-- t has where the first j entries of the cycle go in k applications, and 0 past the table's entries
pub record Filled (m : ℕ) (table : List ℕ) (k j : ℕ) (t : List ℕ) : Type 0 where
  pub size : length t ≡ 2 ^ most_words
  pub done : (i : ℕ) → i < j → get_or t (stands table i) 0 ≡ iterate (λ y. get_or table y 0) k (stands table i)
  pub unused : (x : ℕ) → 2 ^ m ≤ x → get_or t x 0 ≡ 0

filled_none : (m : ℕ) (table : List ℕ) (k : ℕ) → Filled m table k 0 (replicate (2 ^ most_words) 0)
filled_none m table k =
    record {
      size = length-replicate {A = ℕ} (2 ^ most_words) 0;
      done = λ i l. absurd (omega arith);
      unused = λ x l. get_or_filler (2 ^ most_words) x 0;
    }

-- the entry number j of the cycle gets its image
filled_at : (m : ℕ) (table : List ℕ) → IsCycle m table → m ≤ most_words → (k j : ℕ) (t : List ℕ) → Filled m table k j t
    → Filled m table k (j + 1) (set t (stands table j) (iterate (λ y. get_or table y 0) k (stands table j)))
filled_at m table ok few k j t f =
    record {
      size = length-set t (stands table j) _ ∙ f.size;
      done = extend (λ i. get_or (set t (stands table j) v) (stands table i) 0 ≡ iterate (λ y. get_or table y 0) k (stands table i)) j
          (λ i l. go i l (ℕ_discrete (stands table i) (stands table j))) here;
      unused = λ x l. get_or-set_other t (stands table j) x v 0 (λ e. omega (arith, stands_lt m table ok j)) ∙ f.unused x l;
    }
  where
    v : ℕ
    v = iterate (λ y. get_or table y 0) k (stands table j)

    here : get_or (set t (stands table j) v) (stands table j) 0 ≡ v
    here = get_or-set_same t (stands table j) v 0 (omega (arith, f.size, stands-few m table ok few j))

    go : (i : ℕ) → i < j → Dec (stands table i ≡ stands table j) → get_or (set t (stands table j) v) (stands table i) 0 ≡ iterate (λ y. get_or table y 0) k (stands table i)
    go i l (yes e) = rw e here
    go i l (no ne) = get_or-set_other t (stands table j) (stands table i) v 0 ne ∙ f.done i l

-- a loop that has come to number j of the cycle: y is k entries ahead of it, and t is filled in so far
abbrev pub Along : ℕ → List ℕ → ℕ → ℕ → List ℕ → ℕ → Type 0
Along m table k j t y = (y ≡ stands table (k + j)) × Filled m table k j t

pub along_none : (m : ℕ) (table : List ℕ) (k : ℕ) {y : ℕ} → y ≡ stands table k → Along m table k 0 (replicate (2 ^ most_words) 0) y
along_none m table k e = (e ∙ ap (stands table) (sym (add-zero k)), filled_none m table k)

pub along_next : (m : ℕ) (table : List ℕ) → IsCycle m table → m ≤ most_words → (k j : ℕ) {x y : ℕ} (t : List ℕ) → x ≡ stands table j → Along m table k j t y
    → Along m table k (j + 1) (set t x y) (get_or table y 0)
along_next m table ok few k j t ex a =
    let e : k + j + 1 ≡ k + (j + 1) = omega arith in (
      stands_next table (k + j) a.0 ∙ ap (stands table) e,
      subst (Filled m table k (j + 1)) (sym (ap₂ (set t) ex (a.0 ∙ iterate_add (λ y. get_or table y 0) k j 0))) (filled_at m table ok few k j t a.1),
    )

-- one round fills in every entry
pub along_all : (m : ℕ) (table : List ℕ) (k j : ℕ) (t : List ℕ) {y : ℕ} → IsCycle m table → j ≡ 2 ^ m → Along m table k j t y → IsPowerOf m table k t
along_all m table k j t c e a x = go (dec_lt x (2 ^ m))
  where
    f : Filled m table k (2 ^ m) t
    f = subst (λ (i : ℕ). Filled m table k i t) e a.1

    go : Dec (x < 2 ^ m) → get_or t x 0 ≡ cond (ltb x (2 ^ m)) (iterate (λ y. get_or table y 0) k x) 0
    go (yes l) =
        let r = c.cycle.reaches x l in
        simp (lt-ltb x (2 ^ m) l) (subst (λ (y : ℕ). get_or t y 0 ≡ iterate (λ y. get_or table y 0) k y) r.2 (f.done r.0 r.1))
    go (no g) = simp (le-ltb x (2 ^ m) (omega arith)) (f.unused x (omega arith))

-- where a column goes, by the power that its selector bit picks
pub image_power : (card : Card) (odd even : List ℕ) (a b s c : ℕ) → IsPower card a odd → IsPower card b even → c < 2 ^ card.words
    → image_of odd even s c ≡ iterate (entry card) (cond (eqb s 1) a b) c
image_power card odd even a b s c ho he l = go (eqb s 1)
  where
    go : (t : Bool) → get_or (cond t odd even) c 0 ≡ iterate (entry card) (cond t a b) c
    go true = ho c ∙ simp (lt-ltb c (2 ^ card.words) l)
    go false = he c ∙ simp (lt-ltb c (2 ^ card.words) l)
