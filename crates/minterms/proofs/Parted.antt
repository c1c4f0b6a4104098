-- The masks of the entries part the columns: a column that holds c gets the image of c, and nothing from any other entry.
use mathlib.Core.Path.{◌≡◌, sym, ap, ap₂, ◌∙◌}
use mathlib.Core.Bool.{Bool, cond}
use mathlib.Core.List.{List, []}
use Prim.Native.Nat.{ℕ, suc, ◌+◌, ◌-◌, ◌*◌, ◌/◌, ◌%◌, ◌^◌, ◌<◌, ◌≤◌, max}
use native.Mathlib.Nat.{zero-mul, mul-zero, mul-one, mul_assoc, pow-suc, div-div-eq-div-mul, div-eq_of_lt}
use native.Mathlib.Decide.{ℕ_discrete, dec_lt}
use native.Mathlib.Omega.{arith}
use borrow.Author.Tests.{eq-eqb, ne_eqb, lt-ltb, le-ltb}
use lib.Bits.{bit_and, bit_or, bit_xor}
use lib.Dec.{eqb, ltb}
use lib.ListN.{length, get_or, replicate}
use Rattle.cycle.specs.Notation.{one, bit}
use Rattle.cycle.proofs.Bits.{bit_lt, bit_zero, bit-times, bit-bit_and, bit-bit_or, bit-bit_xor, bit_not}
use Rattle.cycle.proofs.Lists.{get_or_filler}
use Rattle.tsc.specs.Columns.{column}
use Rattle.tsc.proofs.LowWords.{bit-column}
use Rattle.words.specs.Masks.{HasBits}
use Rattle.words.proofs.Masks.{cond_ap}
use Rattle.words.proofs.Words.{words_from, words_next}
use Rattle.columns.specs.Replace.{HasColumns, image_of}

-- ---- the mask of an entry, from the last word to the first

-- 1 where column i is one of those in low and holds c, else 0
abbrev pub holds : ℕ → ℕ → List ℕ → ℕ → ℕ
holds low c ws i = bit i low * one (eqb (column i ws) c)

-- of no words every column is 0
pub holds-none : (m low c : ℕ) (ws : List ℕ) → ws ≡ [] → c < 2 ^ m → (i : ℕ) → bit i low ≡ holds low (c / 2 ^ m) ws i
unfolding column
holds-none m low c ws e l i = rw (e, div-eq_of_lt l) (sym (mul-one (bit i low)))

-- a column is c where its lowest bit is that of c, and the rest the rest
same-column : (b d c : ℕ) → b < 2 → one (eqb d (c / 2)) * ((b + (1 - c % 2)) % 2) ≡ one (eqb (b + 2 * d) c)
same-column b d c l = go (ℕ_discrete d (c / 2)) (ℕ_discrete b (c % 2))
  where
    go : Dec (d ≡ c / 2) → Dec (b ≡ c % 2) → one (eqb d (c / 2)) * ((b + (1 - c % 2)) % 2) ≡ one (eqb (b + 2 * d) c)
    go (no ne) q = simp (ne_eqb d (c / 2) ne, ne_eqb (b + 2 * d) c (λ e. ne (omega arith))) (zero-mul _)
    go (yes e) (yes q) = simp (eq-eqb d (c / 2) e, eq-eqb (b + 2 * d) c (omega arith)) (omega arith)
    go (yes e) (no ne) = simp (eq-eqb d (c / 2) e, ne_eqb (b + 2 * d) c (λ q. ne (omega arith))) (omega arith)

-- one word more, for a loop that has come down to k: y has bit k - 1 of c in place i, and word k - 1 is to have the same there
pub holds_next : (w m low c t y k : ℕ) (ws : List ℕ) → 0 < k → k ≤ m → m ≤ length ws → y < 2 ^ w → (i : ℕ) → i < w
    → bit i t ≡ holds low (c / 2 ^ k) (words_from k m ws) i → bit i y ≡ bit (k - 1) c
    → bit i (bit_and t (bit_xor (get_or ws (k - 1) 0) ((2 ^ w - 1) - y))) ≡ holds low (c / 2 ^ (k - 1)) (words_from (k - 1) m ws) i
unfolding column
holds_next w m low c t y k ws pos lk lm ly i l h b =
    let x : ℕ = get_or ws (k - 1) 0 in
    let d : ℕ = c / 2 ^ (k - 1) in
    let rest : ℕ = column i (words_from k m ws) in
    let e : k ≡ suc (k - 1) = omega arith in
    let half : c / 2 ^ k ≡ d / 2 = ap (λ (a : ℕ). c / 2 ^ a) e ∙ ap (λ (a : ℕ). c / a) (pow-suc 2 (k - 1)) ∙ sym (div-div-eq-div-mul c (2 ^ (k - 1)) 2) in
    bit-bit_and i t (bit_xor x ((2 ^ w - 1) - y))
    ∙ ap₂ (λ (a d : ℕ). a * d) (h ∙ ap (λ (a : ℕ). bit i low * one (eqb rest a)) half)
    (bit-bit_xor i x ((2 ^ w - 1) - y) ∙ ap (λ (a : ℕ). (bit i x + a) % 2) (bit_not w i y ly l ∙ ap (λ (a : ℕ). 1 - a) b))
    ∙ mul_assoc (bit i low) (one (eqb rest (d / 2))) ((bit i x + (1 - bit (k - 1) c)) % 2)
    ∙ ap (λ (a : ℕ). bit i low * a) (same-column (bit i x) rest d (bit_lt i x))
    ∙ ap (λ (xs : List ℕ). holds low d xs i) (sym (words_next k m ws pos lk lm))

-- ---- an entry's image put in, word after word

-- y has the image's bit k in place i
pub bit_put : (k t y image : ℕ) (ws : List ℕ) (i : ℕ) → bit i y ≡ bit k image → bit i (bit_or (get_or ws k 0) (bit_and t y)) ≡ bit k (bit_or (column i ws) (bit i t * image))
bit_put k t y image ws i h =
    bit-bit_or i (get_or ws k 0) (bit_and t y)
    ∙ ap₂ max (sym (bit-column i ws k)) (bit-bit_and i t y ∙ ap (λ (a : ℕ). bit i t * a) h ∙ sym (bit-times k (bit i t) image (bit_lt i t)))
    ∙ sym (bit-bit_or k (column i ws) (bit i t * image))

-- ---- entry after entry

-- column i once the entries below c are done: the image of what it holds, if that is one of them, else 0
abbrev pub done : List ℕ → List ℕ → ℕ → ℕ → List ℕ → ℕ → ℕ → ℕ
done odd even x low ws c i = bit i low * cond (ltb (column i ws) c) (image_of odd even (bit i x) (column i ws)) 0

-- what entry c adds to a column that holds a: its image where a is c, else nothing
parted : (k q a c : ℕ) (f : ℕ → ℕ)
    → max (bit k (q * cond (ltb a c) (f a) 0)) (bit k (q * one (eqb a c) * f c)) ≡ bit k (q * cond (ltb a (c + 1)) (f a) 0)
parted k q a c f = go (dec_lt a c) (ℕ_discrete a c)
  where
    none : bit k (q * 0) ≡ 0
    none = ap (bit k) (mul-zero q) ∙ bit_zero k

    nothing : bit k (q * 0 * f c) ≡ 0
    nothing = ap (λ (b : ℕ). bit k (b * f c)) (mul-zero q) ∙ ap (bit k) (zero-mul (f c)) ∙ bit_zero k

    go : Dec (a < c) → Dec (a ≡ c) → max (bit k (q * cond (ltb a c) (f a) 0)) (bit k (q * one (eqb a c) * f c)) ≡ bit k (q * cond (ltb a (c + 1)) (f a) 0)
    go (yes l) d = simp (lt-ltb a c l, ne_eqb a c (λ e. omega arith), lt-ltb a (c + 1) (omega arith)) (omega (arith, nothing))
    go (no g) (yes e) = simp (le-ltb a c (omega arith), eq-eqb a c e, lt-ltb a (c + 1) (omega arith)) (rw (e, mul-one) (omega (arith, none)))
    go (no g) (no ne) = simp (le-ltb a c (omega arith), ne_eqb a c ne, le-ltb a (c + 1) (omega arith)) (omega (arith, none, nothing))

module _ (odd even : List ℕ) (x low : ℕ) (ws : List ℕ) (m : ℕ) where
  pub done_none : (n : ℕ) → HasColumns m (replicate n 0) (done odd even x low ws 0)
  done_none n k lk i l =
      ap (bit i) (get_or_filler n k 0) ∙ bit_zero i ∙ sym (ap (bit k) (mul-zero (bit i low)) ∙ bit_zero k)
      ∙ ap (λ (b : Bool). bit k (bit i low * cond b (image_of odd even (bit i x) (column i ws)) 0)) (sym (le-ltb (column i ws) 0 (omega arith)))

  pub done_next : (c t : ℕ) (out next : List ℕ) → HasBits t (holds low c ws) → HasColumns m out (done odd even x low ws c)
      → HasColumns m next (λ i. bit_or (column i out) (bit i t * cond (eqb (bit i x) 1) (get_or odd c 0) (get_or even c 0)))
      → HasColumns m next (done odd even x low ws (c + 1))
  done_next c t out next ht ho hn k lk i l =
      hn k lk i l ∙ bit-bit_or k (column i out) _
      ∙ ap₂ max (bit-column i out k ∙ ho k lk i l)
      (ap (bit k) (ap₂ (λ (a b : ℕ). a * b) (ht i l) (cond_ap (λ (e : List ℕ). get_or e c 0) (eqb (bit i x) 1) odd even)))
      ∙ parted k (bit i low) (column i ws) c (image_of odd even (bit i x))

  pub done_all : (c : ℕ) (out : List ℕ) → ((i : ℕ) → column i ws < c) → HasColumns m out (done odd even x low ws c)
      → HasColumns m out (λ i. bit i low * image_of odd even (bit i x) (column i ws))
  done_all c out h ho k lk i l = ho k lk i l ∙ simp (lt-ltb (column i ws) c (h i))
