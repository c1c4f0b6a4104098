-- A group of eight columns: gathered and transposed, replaced, and chosen from by the selector.
use mathlib.Core.Path.{◌≡◌, sym, ap, ap₂, ◌∙◌, subst}
use mathlib.Core.Bool.{cond}
use mathlib.Core.List.{List}
use Prim.Native.Nat.{ℕ, ◌+◌, ◌*◌, ◌/◌, ◌%◌, ◌^◌, ◌<◌}
use native.Mathlib.Omega.{arith}
use lib.Bits.{bit_and, bit_xor}
use lib.Dec.{eqb}
use lib.ListN.{length, get_or}
use Rattle.cycle.specs.Notation.{bit}
use Rattle.cycle.proofs.Bits.{bit_lt, bit-times, bit-bit_and, bits_ext}
use Rattle.tsc.specs.Constants.{most_words}
use Rattle.tsc.specs.Columns.{column}
use Rattle.tsc.proofs.Columns.{column_lt}
use Rattle.tsc.proofs.LowWords.{bit-column}
use Rattle.words.proofs.Masks.{bit_join, cond_ap}
use Rattle.words.proofs.Words.{Below}
use Rattle.transposition.specs.Matrix.{byte, HasBytes, HasRows, IsTranspose}
use Rattle.transposition.specs.Groups.{group_count, HasGroup, IsWord}
use Rattle.columns.specs.Replace.{HasColumns, image_of}
use Rattle.transposition.proofs.Filled.{bit_byte, byte_lt}

-- bytes g of all words, transposed, are the columns from 8 g on
pub group_columns : (g q r : ℕ) (ws : List ℕ) → length ws ≡ most_words → HasBytes q (λ k. byte g (get_or ws k 0)) → IsTranspose r q → HasBytes r (λ i. column (8 * g + i) ws)
group_columns g q r ws e h t i li =
    let few : column (8 * g + i) ws < 2 ^ most_words = subst (λ (n : ℕ). column (8 * g + i) ws < 2 ^ n) e (column_lt (8 * g + i) ws) in
    bits_ext most_words (byte i r) (column (8 * g + i) ws) (byte_lt i r) few (λ k lk.
    t i k li lk ∙ ap (bit i) (h k lk) ∙ bit_byte g i (get_or ws k 0) li ∙ sym (bit-column (8 * g + i) ws k))

module _ (g selector low : ℕ) where
  -- bit i of row k of one of two matrices, by bits 8 g + i of the selector and of low
  abbrev pub choice : ℕ → ℕ → ℕ → ℕ
  choice i a b = bit (8 * g + i) low * cond (eqb (bit (8 * g + i) selector) 1) a b

  -- by masks that have byte g of the selector and of low in every row
  pub chosen-rows : (odd even x mask : ℕ) → HasBytes x (λ k. byte g selector) → HasBytes mask (λ k. byte g low)
      → HasRows (bit_and mask (bit_xor even (bit_and (bit_xor odd even) x))) (λ k i. choice i (bit i (byte k odd)) (bit i (byte k even)))
  chosen-rows odd even x mask hx hm k i lk li =
      bit_byte k i _ li ∙ bit-bit_and j mask (bit_xor even (bit_and (bit_xor odd even) x))
      ∙ ap₂ (λ (a b : ℕ). a * b) (row mask low hm)
      (bit_join x odd even j ∙ ap (λ (a : ℕ). cond (eqb a 1) (bit j odd) (bit j even)) (row x selector hx)
      ∙ ap₂ (λ (a b : ℕ). cond (eqb (bit (8 * g + i) selector) 1) a b) (sym (bit_byte k i odd li)) (sym (bit_byte k i even li)))
    where
      j : ℕ
      j = 8 * k + i

      row : (m w : ℕ) → HasBytes m (λ k. byte g w) → bit j m ≡ bit (8 * g + i) w
      row m w h = sym (bit_byte k i m li) ∙ ap (bit i) (h k lk) ∙ bit_byte g i w li

  -- the images by both powers, transposed back
  pub group_images : (odd even ws : List ℕ) (c a b o e r : ℕ) → HasBytes c (λ i. column (8 * g + i) ws)
      → HasBytes a (λ i. get_or odd (byte i c) 0) → IsTranspose o a → HasBytes b (λ i. get_or even (byte i c) 0) → IsTranspose e b
      → HasRows r (λ k i. choice i (bit i (byte k o)) (bit i (byte k e)))
      → HasGroup g r (λ i. bit i low * image_of odd even (bit i selector) (column i ws))
  group_images odd even ws c a b o e r hc ha to hb te hr k i lk li =
      hr k i lk li ∙ ap₂ (choice i) (image odd a o ha to) (image even b e hb te)
      ∙ ap (λ (n : ℕ). bit (8 * g + i) low * n) (cond_ap (λ (t : List ℕ). bit k (get_or t (column (8 * g + i) ws) 0)) (eqb (bit (8 * g + i) selector) 1) odd even)
      ∙ sym (bit-times k (bit (8 * g + i) low) (image_of odd even (bit (8 * g + i) selector) (column (8 * g + i) ws)) (bit_lt (8 * g + i) low))
    where
      image : (t : List ℕ) (a o : ℕ) → HasBytes a (λ i. get_or t (byte i c) 0) → IsTranspose o a → bit i (byte k o) ≡ bit k (get_or t (column (8 * g + i) ws) 0)
      image t a o h to = to k i lk li ∙ ap (bit k) (h i li ∙ ap (λ (n : ℕ). get_or t n 0) (hc i li))

-- the words of all groups
pub groups_all : (f : ℕ → ℕ) (groups ws : List ℕ) → Below (λ g x. HasGroup g x f) group_count groups
    → ((k : ℕ) → k < most_words → IsWord groups k (get_or ws k 0)) → HasColumns most_words ws f
groups_all f groups ws h w k lk i li =
    let e : 8 * (i / 8) + i % 8 ≡ i = omega arith in
    w k lk i li ∙ h (i / 8) (omega arith) k (i % 8) lk (omega arith) ∙ ap (λ (j : ℕ). bit k (f j)) e
