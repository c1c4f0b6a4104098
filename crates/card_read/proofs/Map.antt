-- The fields of a map byte, taken off one after the other from its lowest one. One test, computed at the 255 bytes that are not 0.
use mathlib.Core.Path.{◌≡◌, refl, sym, ap, ◌∙◌}
use mathlib.Core.Bool.{Bool, true, cond, ◌&&◌, and-eq-true_iff}
use Prim.Native.Nat.{ℕ, zero, suc, ◌+◌, ◌-◌, ◌%◌, ◌^◌, ◌≤◌, ◌<◌}
use native.Mathlib.Nat.{zero-div}
use native.Mathlib.Decide.{ℕ_discrete, dec_lt}
use native.Mathlib.Numerals.{sub-one}
use native.Mathlib.Omega.{arith}
use borrow.Author.Tests.{ltb-true, lt-ltb, le-ltb, eqb-true, eq-eqb, ne_eqb}
use lib.Bits.{bit_and, and_le_l}
use lib.Count.{ones, count_trailing_zeros, trailing_le}
use lib.Dec.{eqb, ltb}
use Rattle.cycle.specs.Notation.{every, bit}
use Rattle.cycle.proofs.Every.{every_at}

-- of n + 1, whose lowest one is bit t, and of the byte without it
lowest : ℕ → Bool
lowest n =
    let t = count_trailing_zeros 8 (suc n) in
    let less = bit_and (suc n) n in
    ltb t 8 && eqb (bit t (suc n)) 1 && every t (λ j. eqb (bit j (suc n)) 0)
    && every 8 (λ j. eqb (bit j less) (cond (eqb j t) 0 (bit j (suc n)))) && eqb (ones (suc n)) (ones less + 1)

all_lowest : every 255 lowest ≡ true
unfolding every lowest ones count_trailing_zeros
all_lowest = refl

pub record Lowest (n : ℕ) : Type 0 where
  pub within : count_trailing_zeros 8 n < 8
  pub one : bit (count_trailing_zeros 8 n) n ≡ 1
  pub below : (j : ℕ) → j < count_trailing_zeros 8 n → bit j n ≡ 0
  pub less : (j : ℕ) → j < 8 → bit j (bit_and n (n - 1)) ≡ cond (eqb j (count_trailing_zeros 8 n)) 0 (bit j n)
  pub count : ones n ≡ ones (bit_and n (n - 1)) + 1

pub lowest_one : (n : ℕ) → 0 < n → n < 256 → Lowest n
unfolding lowest
lowest_one zero p l = absurd (omega arith)
lowest_one (suc n) p l =
    let h = every_at 255 lowest all_lowest n (omega arith) in
    let a = (and-eq-true_iff _ _).0 h in
    let b = (and-eq-true_iff _ _).0 a.0 in
    let c = (and-eq-true_iff _ _).0 b.0 in
    let d = (and-eq-true_iff _ _).0 c.0 in
    record {
      within = ltb-true _ _ d.0;
      one = eqb-true _ _ d.1;
      below = λ j lj. eqb-true _ _ (every_at _ _ c.1 j lj);
      less = λ j lj. rw sub-one (eqb-true _ _ (every_at 8 _ b.1 j lj));
      count = rw sub-one (eqb-true _ _ a.1);
    }

pub below_lowest : (n : ℕ) → n < 256 → (j : ℕ) → j < count_trailing_zeros 8 n → bit j n ≡ 0
below_lowest zero l j lj = ap (λ (x : ℕ). x % 2) (zero-div (2 ^ j))
below_lowest (suc n) l j lj = (lowest_one (suc n) (omega arith) l).below j lj

-- a byte with no ones is 0
pub ones_none : (n : ℕ) → n < 256 → ones n ≡ 0 → n ≡ 0
ones_none zero l e = refl
ones_none (suc n) l e = absurd (omega (arith, (lowest_one (suc n) (omega arith) l).count))

pub ones_some : (n : ℕ) → 0 < ones n → 0 < n
unfolding ones
ones_some zero p = p
ones_some (suc n) p = omega arith

-- ---- what is left of a map, once the fields before `next` are taken off

pub record Left (map left next : ℕ) : Type 0 where
  pub small : left < 256
  pub bits : (j : ℕ) → j < 8 → bit j left ≡ cond (ltb j next) 0 (bit j map)

pub left_all : (map : ℕ) → map < 256 → Left map map 0
left_all map l = record { small = l; bits = λ j lj. rw (le-ltb j 0 (omega arith)) refl }

left_ahead : (map left next : ℕ) → Left map left next → (j : ℕ) → j < 8 → next ≤ j → bit j left ≡ bit j map
left_ahead map left next h j l n = h.bits j l ∙ rw (le-ltb j next n) refl

-- the map has no field between `next` and the lowest one of what is left; where nothing is left, trailing zeros are 8
pub left_below : (map left next : ℕ) → Left map left next → (j : ℕ) → next ≤ j → j < count_trailing_zeros 8 left → bit j map ≡ 0
left_below map left next h j n l = sym (left_ahead map left next h j (omega (arith, trailing_le 8 left)) n) ∙ below_lowest left h.small j l

-- the next field is that lowest one
pub next_field : (map left next : ℕ) → Left map left next → 0 < left → let k = count_trailing_zeros 8 left in
    (next ≤ k) × (bit k map ≡ 1) × Left map (bit_and left (left - 1)) (k + 1)
next_field map left next h p =
    let low = lowest_one left p h.small in
    let k = count_trailing_zeros 8 left in
    let n = after low (dec_lt k next) in (
      n,
      sym (left_ahead map left next h k low.within n) ∙ low.one,
      record {
        small = omega (arith, and_le_l left (left - 1), h.small);
        bits = λ j lj. low.less j lj ∙ taken low n j lj (dec_lt j k) (ℕ_discrete j k);
      },
    )
  where
    after : Lowest left → Dec (count_trailing_zeros 8 left < next) → next ≤ count_trailing_zeros 8 left
    after low (yes l) =
        let z : bit (count_trailing_zeros 8 left) left ≡ 0 = rw (lt-ltb _ next l) at (h.bits (count_trailing_zeros 8 left) low.within) in
        absurd (omega (arith, low.one))
    after low (no nl) = omega arith

    taken : Lowest left → next ≤ count_trailing_zeros 8 left → (j : ℕ) → j < 8 → Dec (j < count_trailing_zeros 8 left) → Dec (j ≡ count_trailing_zeros 8 left)
        → cond (eqb j (count_trailing_zeros 8 left)) 0 (bit j left) ≡ cond (ltb j (count_trailing_zeros 8 left + 1)) 0 (bit j map)
    taken low n j lj (yes l) (yes e) = absurd (omega arith)
    taken low n j lj (yes l) (no ne) = rw (ne_eqb j _ ne, lt-ltb j (count_trailing_zeros 8 left + 1) (omega arith)) (low.below j l)
    taken low n j lj (no nl) (yes e) = rw (eq-eqb j _ e, lt-ltb j (count_trailing_zeros 8 left + 1) (omega arith)) refl
    taken low n j lj (no nl) (no ne) = rw (ne_eqb j _ ne, le-ltb j (count_trailing_zeros 8 left + 1) (omega arith)) (left_ahead map left next h j lj (omega arith))
