-- The leaves, filled in one by one, and what is left of them as each word of the state halves them.
use mathlib.Core.Path.{◌≡◌, refl, sym, ap, ap₂, ◌∙◌, subst}
use mathlib.Core.Bool.{cond}
use mathlib.Core.List.{List}
use Prim.Native.Nat.{ℕ, suc, ◌+◌, ◌-◌, ◌*◌, ◌/◌, ◌%◌, ◌^◌, ◌<◌, ◌≤◌}
use native.Mathlib.Nat.{mul-zero, mul-one, mul_comm, mul-add, mul_assoc, pow-suc}
use native.Mathlib.Omega.{arith}
use lib.Bits.{bit_and}
use lib.Dec.{eqb}
use lib.ListN.{length, get_or, set, take, length-set}
use lib.Seq.{length-take-le}
use Rattle.cycle.specs.Notation.{bit}
use Rattle.cycle.proofs.Bits.{bit_lt, bit-times, bit-bit_and}
use Rattle.cycle.proofs.Parity.{bit_cases}
use Rattle.tsc.specs.Constants.{widest_width}
use Rattle.tsc.specs.Columns.{column}
use Rattle.tsc.proofs.Columns.{column_lt}
use Rattle.words.specs.Masks.{HasBits}
use Rattle.words.proofs.Words.{words_from, words-none, words_next, Below, below_next}
use Rattle.columns.specs.Few.{few_words}
use Rattle.columns.specs.Replace.{image_of}
use Rattle.multiplexer.specs.Leaves.{leaf_count, HasImages, HasLeaves, PickedAt, HasPicked}

-- ---- the images

-- v is image number e
abbrev pub ImageAt : List ℕ → List ℕ → ℕ → ℕ → Type 0
ImageAt odd even e v = v ≡ image_of odd even (e % 2) (e / 2)

-- both images of entry c put in
pub images_next : (odd even : List ℕ) (c v w : ℕ) (t : List ℕ) → v ≡ get_or even c 0 → w ≡ get_or odd c 0 → 2 * c + 1 < length t → Below (ImageAt odd even) (2 * c) t
    → Below (ImageAt odd even) (2 * (c + 1)) (set (set t (2 * c) v) (2 * c + 1) w)
images_next odd even c v w t ev ew l h =
    let next : 2 * c + 1 + 1 ≡ 2 * (c + 1) = omega arith in
    let half : 2 * c / 2 ≡ c = omega arith in
    let low : 2 * c % 2 ≡ 0 = omega arith in
    let half' : (2 * c + 1) / 2 ≡ c = omega arith in
    let high : (2 * c + 1) % 2 ≡ 1 = omega arith in
    let lower : ImageAt odd even (2 * c) v = rw (half, low) ev in
    let upper : ImageAt odd even (2 * c + 1) w = rw (half', high) ew in
    subst (λ (n : ℕ). Below (ImageAt odd even) n (set (set t (2 * c) v) (2 * c + 1) w)) next
    (below_next (ImageAt odd even) (2 * c + 1) w (set t (2 * c) v) (rw (length-set t (2 * c) v) l)
    (below_next (ImageAt odd even) (2 * c) v t (omega arith) h lower) upper)

-- ---- the leaves

-- v has bit j % m of word j / m of t in every place
abbrev pub LeafAt : List ℕ → ℕ → ℕ → Type 0
LeafAt t j v = HasBits v (λ i. bit (j % few_words) (get_or t (j / few_words) 0))

pub leaves_all : (odd even images t : List ℕ) → HasImages odd even images → Below (LeafAt images) leaf_count t → HasLeaves odd even t
leaves_all odd even images t e h s c k ls lc lk i l =
    let j : ℕ = k + few_words * (s + 2 * c) in
    let place : j % few_words ≡ k = omega arith in
    let number : j / few_words ≡ s + 2 * c = omega arith in
    let low : (s + 2 * c) % 2 ≡ s = omega arith in
    let high : (s + 2 * c) / 2 ≡ c = omega arith in
    h j (omega arith) i l ∙ ap₂ (λ (b e : ℕ). bit b (get_or images e 0)) place number
    ∙ ap (bit k) (e (s + 2 * c) (omega arith) ∙ ap₂ (image_of odd even) low high)

-- ---- rows picked

-- a choice by the bits of x, between rows 0 and 1
pub picked-chosen : (n j x v : ℕ) (t : List ℕ) → HasBits v (λ i. cond (eqb (bit i x) 1) (bit i (get_or t (n + j) 0)) (bit i (get_or t j 0)))
    → PickedAt n t (λ i. bit i x) j v
picked-chosen n j x v t h i l =
    let at : ℕ → ℕ = λ a. bit i (get_or t a 0) in
    let lower : at j ≡ at (j + n * 0) = ap at (omega (arith, mul-zero n)) in
    let upper : at (n + j) ≡ at (j + n * 1) = ap at (omega (arith, mul-one n)) in
    h i l ∙ bit_cases (λ b. cond (eqb b 1) (at (n + j)) (at j) ≡ at (j + n * b)) lower upper (bit i x) (bit_lt i x)

-- of a row that f picks, the half that the bits of x pick
picked-half : (n j x : ℕ) (t r : List ℕ) (f : ℕ → ℕ) → j < n → HasPicked (2 * n) t f r → (i : ℕ) → i < widest_width
    → bit i (get_or r (j + n * bit i x) 0) ≡ bit i (get_or t (j + n * (bit i x + 2 * f i)) 0)
picked-half n j x t r f lj h i l = h (j + n * bit i x) in_row i l ∙ ap (λ (a : ℕ). bit i (get_or t a 0)) place
  where
    in_row : j + n * bit i x < 2 * n
    in_row = bit_cases (λ b. j + n * b < 2 * n) (omega (arith, mul-zero n)) (omega (arith, mul-one n)) (bit i x) (bit_lt i x)

    place : j + n * bit i x + 2 * n * f i ≡ j + n * (bit i x + 2 * f i)
    place = omega (arith, mul-add n (bit i x) (2 * f i), ap (λ (a : ℕ). a * f i) (mul_comm 2 n) ∙ mul_assoc n 2 (f i))

-- ---- word after word

module _ (m : ℕ) (ws t : List ℕ) where
  -- column i as far as the words from k on give it
  abbrev pub upper : ℕ → ℕ → ℕ
  upper k i = column i (words_from k m ws)

  -- r once these words are done: a row of the leaves, picked by those columns
  abbrev pub Looked : ℕ → ℕ → List ℕ → Type 0
  Looked k size r = (size ≡ 2 * m * 2 ^ k) × HasPicked size t (upper k) r

  pub looked_none : m ≤ length ws → Looked m (2 * m * 2 ^ m) t
  unfolding column
  looked_none h =
      (refl, λ j lj i l. rw (words-none m ws h) (ap (λ (a : ℕ). bit i (get_or t a 0)) (omega (arith, mul-zero (2 * m * 2 ^ m)))))

  pub looked_next : (k size : ℕ) (r s : List ℕ) → 0 < k → k ≤ m → m ≤ length ws → Looked k size r
      → HasPicked (size / 2) r (λ i. bit i (get_or ws (k - 1) 0)) s → Looked (k - 1) (size / 2) s
  unfolding column
  looked_next k size r s p l h a b =
      let e : k ≡ suc (k - 1) = omega arith in
      let power : 2 ^ k ≡ 2 ^ (k - 1) * 2 = ap (λ (i : ℕ). 2 ^ i) e ∙ pow-suc 2 (k - 1) in
      let double : size ≡ 2 * m * 2 ^ (k - 1) * 2 = a.0 ∙ ap (λ (q : ℕ). 2 * m * q) power ∙ sym (mul_assoc (2 * m) (2 ^ (k - 1)) 2) in
      let even : size ≡ 2 * (size / 2) = omega arith in
      let row : HasPicked (2 * (size / 2)) t (upper k) r = subst (λ (n : ℕ). HasPicked n t (upper k) r) even a.1 in (
        omega arith,
        subst (λ (xs : List ℕ). HasPicked (size / 2) t (λ i. column i xs) s) (sym (words_next k m ws p l h)) (λ j lj i li.
            b j lj i li ∙ picked-half (size / 2) j (get_or ws (k - 1) 0) t r (upper k) lj row i li),
      )

  pub looked_all : (size : ℕ) (r : List ℕ) → Looked 0 size r → HasPicked (2 * m) t (λ i. column i (take m ws)) r
  looked_all size r a = subst (λ (n : ℕ). HasPicked n t (upper 0) r) (a.0 ∙ mul-one (2 * m)) a.1

-- ---- the selector, last

-- the same in the places of `low`, and 0 in the others
abbrev pub KeptAt : ℕ → List ℕ → (ℕ → ℕ) → ℕ → ℕ → ℕ → Type 0
KeptAt n t f low j v = HasBits v (λ i. bit i low * bit i (get_or t (j + n * f i) 0))

pub kept_and : (n : ℕ) (t : List ℕ) (f : ℕ → ℕ) (low j v : ℕ) → PickedAt n t f j v → KeptAt n t f low j (bit_and low v)
kept_and n t f low j v h i l = bit-bit_and i low v ∙ ap (λ (a : ℕ). bit i low * a) (h i l)

-- the row that the selector x and the columns pick is that of the columns' images
pub kept_all : (odd even t ws r : List ℕ) (x low k v : ℕ) → HasLeaves odd even t → few_words ≤ length ws → HasPicked (2 * few_words) t (λ i. column i (take few_words ws)) r
    → k < few_words → KeptAt few_words r (λ i. bit i x) low k v → HasBits v (λ i. bit k (bit i low * image_of odd even (bit i x) (column i (take few_words ws))))
kept_all odd even t ws r x low k v leaves e picked lk h i l =
    let c : ℕ → ℕ = λ i. column i (take few_words ws) in
    let few : c i < 2 ^ few_words = subst (λ (n : ℕ). c i < 2 ^ n) (length-take-le few_words ws e) (column_lt i (take few_words ws)) in
    let image = picked-half few_words k x t r c lk picked i l ∙ leaves (bit i x) (c i) k (bit_lt i x) few lk i l in
    h i l ∙ ap (λ (a : ℕ). bit i low * a) image ∙ sym (bit-times k (bit i low) (image_of odd even (bit i x) (c i)) (bit_lt i low))
