-- Words rotated by the rotations of a filter, which are taken modulo n.
use mathlib.Core.Path.{◌≡◌, refl, sym, ap, ap₂, ◌∙◌}
use mathlib.Core.Bool.{cond}
use mathlib.Core.List.{List}
use Prim.Native.Nat.{ℕ, ◌+◌, ◌-◌, ◌%◌, ◌^◌, ◌<◌}
use native.Mathlib.Nat.{mod-lt, mod-mod, zero-mod, add_comm, add-mod-mod}
use native.Mathlib.Omega.{arith}
use lib.Dec.{eqb}
use lib.Pow.{pow_pos}
use lib.ListN.{get_or, get_or-map}
use Rattle.tsc.specs.declared.Card.{Card}
use Rattle.tsc.specs.declared.State.{State}
use Rattle.tsc.specs.Constants.{most_words, filter_words}
use Rattle.tsc.specs.Word.{◌⊞◌, ◌⋘◌, further}
use Rattle.tsc.proofs.Word.{further_more}
use Rattle.cycle.proofs.Digits.{get_d_tabulate}
use Rattle.words.specs.Widths.{IsWidth}
use Rattle.filters.specs.declared.filter.Rotations.{Rotations}
use Rattle.filters.specs.Rotations.{rotations1, rotations2, places_by, HasRotations, HasFurther, Filters}

-- a sum modulo 2^n has n bits
pub sum_lt : (n x y r : ℕ) → r ≡ ◌⊞◌ n x y → r < 2 ^ n
unfolding ◌⊞◌
sum_lt n x y r e = rw e (mod-lt (x + y) (pow_pos n))

-- a rotation by k modulo n is one by k
rotated_mod : (n x k : ℕ) → ◌⋘◌ n x (k % n) ≡ ◌⋘◌ n x k
unfolding ◌⋘◌
rotated_mod n x k = rw mod-mod

module _ (t : Rotations) (rotations : List ℕ) (h : HasRotations t rotations) where
  -- rotation i
  place : (i : ℕ) → get_or t.places i 0 ≡ get_or rotations i 0 % t.width.bits
  place i =
      let n = t.width.bits in
      ap (λ (l : List ℕ). get_or l i 0) h.1 ∙ ap (get_or (places_by n rotations) i) (sym (zero-mod n)) ∙ get_or-map (λ (k : ℕ). k % n) rotations i 0

  -- what `rotate_left` requires, of a word x and rotation i
  pub rotatable : (x i : ℕ) → let n = t.width.bits in x < 2 ^ n → IsWidth t.width × (x < 2 ^ n) × (get_or t.places i 0 < n)
  rotatable x i l = (h.0, l, rw (place i) (mod-lt (get_or rotations i 0) h.0.0))

  -- and what it gives
  pub rotated : (x i : ℕ) → let n = t.width.bits in ◌⋘◌ n x (get_or t.places i 0) ≡ ◌⋘◌ n x (get_or rotations i 0)
  rotated x i = rw (place i) (rotated_mod t.width.bits x (get_or rotations i 0))

-- the same of the further words, and a sum with one more of them
module _ (t : Rotations) (h : HasFurther t) (j : ℕ) (l : j < most_words - filter_words) where
  further_place : get_or t.further j 0 ≡ (filter_words + j) % t.width.bits
  further_place =
      ap (λ (a : List ℕ). get_or a j 0) h.1 ∙ get_d_tabulate (most_words - filter_words) (λ j. (filter_words + j) % t.width.bits) j l

  pub further_rotatable : (x : ℕ) → let n = t.width.bits in x < 2 ^ n → IsWidth t.width × (x < 2 ^ n) × (get_or t.further j 0 < n)
  further_rotatable x lx = (h.0, lx, rw further_place (mod-lt (filter_words + j) h.0.0))

  pub further_next : (x : ℕ → ℕ) (word sum turned r : ℕ) → let n = t.width.bits in sum ≡ ◌⊞◌ n word (further n x j)
      → turned ≡ ◌⋘◌ n (x (filter_words + j)) (get_or t.further j 0) → r ≡ ◌⊞◌ n sum turned → r ≡ ◌⊞◌ n word (further n x (j + 1))
  unfolding ◌⊞◌
  further_next x word sum turned r es et er =
      let n = t.width.bits in
      let N = 2 ^ n in
      let F = further n x j in
      let T = ◌⋘◌ n (x (filter_words + j)) (filter_words + j) in
      let same : turned ≡ T = et ∙ ap (◌⋘◌ n (x (filter_words + j))) further_place ∙ rotated_mod n (x (filter_words + j)) (filter_words + j) in
      let order : T + (word + F) ≡ word + (F + T) = omega arith in
      er ∙ ap₂ (λ (a b : ℕ). (a + b) % N) es same ∙ ap (λ (a : ℕ). a % N) (add_comm ((word + F) % N) T) ∙ add-mod-mod T (word + F) N
      ∙ ap (λ (a : ℕ). a % N) order ∙ ap (λ (a : ℕ). (word + a) % N) (sym (further_more n x j))

-- what a filter requires, of the rotations and the words
pub chosen : (card : Card) (t : Rotations) (s : State) (rotations : List ℕ) → Filters card t s → cond (eqb card.filter 2) rotations2 rotations1 ≡ rotations
    → HasRotations t rotations × ((k : ℕ) → k < most_words → get_or s.words k 0 < 2 ^ t.width.bits)
chosen card t s rotations f e =
    rw (f.rotations, e) (((f.width.0, f.width.1, refl), refl), f.words)
