-- P1 is TSC-1's card, and no other accepted card is (`tsc1-alone`); the step by the gate formulas is the step by the table on every state (`gate-step`).
use Rattle.std.proofs.Common.{◌≡◌, ℕ, zero, suc, ◌+◌, ◌-◌, ◌*◌, ◌%◌, ◌^◌, ◌<◌, Bool, true, cond, eqb, ◌↔◌, List, [], ◌∷◌, length, get_or, take, sym, refl, ap, ◌∙◌, subst, ap₂, add-zero, mod-eq_of_lt, two-mul, arith, length-take-le, get_or-take, ext_get_or, pow_pos, eq-eqb, eqb-true}
use native.Mathlib.Nat.{add-mod-mod}
use native.Mathlib.Decide.{dec_lt}
use lib.Bits.{bit_and, bit_xor, and_mask}
use lib.ListN.{get_or-eq_default}
use Rattle.cycle.specs.Notation.{tabulate, iterate, bit}
use Rattle.cycle.proofs.Bits.{bits_ext}
use Rattle.cycle.proofs.Digits.{length-tabulate, get_d_tabulate, tabulate-get_or}
use Rattle.tsc.specs.declared.Card.{Card}
use Rattle.tsc.specs.Constants.{most_words, tsc1_constant}
use Rattle.tsc.specs.Columns.{column}
use Rattle.tsc.specs.Selector.{and_words, sum_words, selector}
use Rattle.tsc.specs.Step.{entry, power, step, orbit}
use Rattle.tsc.specs.Coverage.{IsState}
use Rattle.tsc.proofs.Columns.{column_lt}
use Rattle.tsc.proofs.LowWords.{bit-column}
use Rattle.tsc.proofs.Selector.{selector_lt}
use Rattle.tsc.proofs.Step.{step_in_range, orbit_in_range, column-step}
use Rattle.words.proofs.Masks.{cond_ap}
use Rattle.card_format.specs.Fields.{Bytes, fields, field}
use Rattle.card_format.specs.Reading.{values_at, words_of, card_of}
use Rattle.card_format.specs.Verdict.{verdict, Accepted}
use Rattle.card_format.specs.Examples.{p1, rows}
use Rattle.card_format.proofs.Examples.{rows_hold}
use Rattle.card_format.proofs.RoundTrip.{accepted-unique}
use Rattle.card_format.proofs.Verdict.{accepted_card}
use Rattle.gates.specs.Formulas.{Formula, on_words, equation16, equation17, line, choice}
use Rattle.gates.specs.Tsc1.{tsc1_card, OnlyTsc1, GivesPower, gated, gate_step}
use Rattle.gates.proofs.Formulas.{on_words_lt, bit-on_words, equation_16, equation_17, bit-choice, choice_lt}

-- ---- the card

-- what the one byte 00 means
pub card_p1 : card_of p1 ≡ tsc1_card
unfolding fields field values_at words_of card_of
card_p1 = refl

p1-accepted : verdict p1 ≡ 0
unfolding rows
p1-accepted = rows_hold.0.0

pub tsc1_accepted : Accepted tsc1_card
tsc1_accepted = subst Accepted card_p1 (accepted_card p1 p1-accepted)

-- a list of one entry is P1 exactly where that is 0
pub one_zero : (bytes : List ℕ) → length bytes ≡ 1 → (eqb (get_or bytes 0 0) 0 ≡ true) ↔ (bytes ≡ p1)
one_zero bytes one = (
  λ h. ext_get_or 0 bytes p1 one (λ k l. first k (omega arith) (eqb-true (get_or bytes 0 0) 0 h)),
  λ e. eq-eqb (get_or bytes 0 0) 0 (ap (λ (b : List ℕ). get_or b 0 0) e),
)
  where
    first : (k : ℕ) → k < 1 → get_or bytes 0 0 ≡ 0 → get_or bytes k 0 ≡ get_or p1 k 0
    first zero l e = e
    first (suc k) l e = absurd (omega arith)

-- what a call knows of the values of the card once it has asked
pub only-p1 : (bytes : List ℕ) (card : Card) (r : Bool) → card ≡ card_of bytes → (r ≡ true) ↔ (bytes ≡ p1) → OnlyTsc1 r card
only-p1 bytes card r e h t = e ∙ ap card_of (h.0 t) ∙ card_p1

-- no other accepted card has its values
pub tsc1_alone : (bytes : List ℕ) → Bytes bytes → verdict bytes ≡ 0 → card_of bytes ≡ tsc1_card → bytes ≡ p1
tsc1_alone bytes b z e = accepted-unique bytes p1 b (λ i l. one_byte i) z p1-accepted (e ∙ sym card_p1)
  where
    one_byte : (i : ℕ) → get_or p1 i 0 < 256
    one_byte zero = omega arith
    one_byte (suc i) = omega arith

-- ---- the step

module _ (ws : List ℕ) (all : length ws ≡ most_words) (fits : (k : ℕ) → get_or ws k 0 < 2 ^ 32) where
  -- any four words are a state
  pub first_four : IsState tsc1_card (take 4 ws)
  first_four = (length-take-le 4 ws (omega (arith, all)), λ k l. rw (get_or-take 4 ws k 0 l) (fits k))

  -- word k
  abbrev word : ℕ → ℕ
  word k = get_or ws k 0

  four_words : tabulate 4 word ≡ take 4 ws
  four_words = tabulate-get_or 4 ws (omega (arith, all))

  -- document 002 (13) on four words of 32 bits, by sums that wrap
  pub selector-words : (a b s q d : ℕ) → a ≡ (word 2 + word 3) % 2 ^ 32 → b ≡ (word 1 + a) % 2 ^ 32 → s ≡ (word 0 + b) % 2 ^ 32
      → let p = bit_and (word 0) (bit_and (word 1) (bit_and (word 2) (word 3))) in
      q ≡ (p + tsc1_constant) % 2 ^ 32 → d ≡ (s + s) % 2 ^ 32 → bit_xor (bit_xor q p) d ≡ selector tsc1_card (take 4 ws)
  unfolding tabulate and_words sum_words selector
  selector-words a b s q d ha hb hs hq hd =
      let M = 2 ^ 32 in
      let low : word 3 ≡ bit_and (word 3) (M - 1) = sym (and_mask (word 3) 32 ∙ mod-eq_of_lt (fits 3)) in
      let ep : bit_and (word 0) (bit_and (word 1) (bit_and (word 2) (word 3))) ≡ and_words 32 (take 4 ws) =
      ap (λ (e : ℕ). bit_and (word 0) (bit_and (word 1) (bit_and (word 2) e))) low ∙ ap (and_words 32) four_words in
      let es : s ≡ sum_words (take 4 ws) % M =
      hs ∙ ap (λ (e : ℕ). (word 0 + e) % M) (hb ∙ ap (λ (e : ℕ). (word 1 + e) % M) ha ∙ add-mod-mod (word 1) (word 2 + word 3) M)
      ∙ add-mod-mod (word 0) (word 1 + (word 2 + word 3)) M
      ∙ ap (λ (e : ℕ). (word 0 + (word 1 + (word 2 + e))) % M) (sym (add-zero (word 3))) ∙ ap (λ (ys : List ℕ). sum_words ys % M) four_words in
      ap₂ bit_xor (ap₂ bit_xor (hq ∙ ap (λ (e : ℕ). (e + tsc1_constant) % M) ep) ep)
      (hd ∙ ap (λ (e : ℕ). e % M) (sym (two-mul s)) ∙ ap (λ (e : ℕ). 2 * e % M) es)

module _ (xs : List ℕ) (sx : IsState tsc1_card xs) where
  fits : (k : ℕ) → get_or xs k 0 < 2 ^ 32
  fits k = go (dec_lt k 4)
    where
      go : Dec (k < 4) → get_or xs k 0 < 2 ^ 32
      go (yes l) = sx.1 k l
      go (no g) = rw (get_or-eq_default xs 0 {n = k} (omega (arith, sx.0))) (pow_pos 32)

  module _ (z : ℕ) (lz : z < 2 ^ 32) (k : ℕ) (lk : k < 4) where
    -- line k of an equation on whole words
    abbrev line_word : List Formula → ℕ
    line_word equation = on_words 32 xs (line equation k)

    line-bit : (equation : List Formula) (p : ℕ) → GivesPower equation p → (i : ℕ) → i < 32
        → bit i (line_word equation) ≡ bit k (iterate (entry tsc1_card) p (column i xs))
    line-bit equation p h i l = bit-on_words 32 xs fits i l (line equation k) ∙ h k (column i xs) lk (rw sx.0 at (column_lt i xs))

    line_lt : (equation : List Formula) → line_word equation < 2 ^ 32
    line_lt equation = on_words_lt 32 xs fits (line equation k)

    gated_at : get_or (gated xs z) k 0 ≡ on_words 32 (line_word equation16 ∷ line_word equation17 ∷ z ∷ []) choice
    unfolding gated
    gated_at = get_d_tabulate 4 _ k lk

    gated_lt : get_or (gated xs z) k 0 < 2 ^ 32
    gated_lt = rw gated_at (choice_lt 32 (line_word equation16) (line_word equation17) z (line_lt equation16) (line_lt equation17) lz)

    -- column i has gone once through the table where z has a 1, and twice where it has a 0
    gated-bit : (i : ℕ) → i < 32 → bit i (get_or (gated xs z) k 0) ≡ bit k (iterate (entry tsc1_card) (power tsc1_card (bit i z)) (column i xs))
    gated-bit i l =
        let b : Bool = eqb (bit i z) 1 in
        ap (bit i) gated_at ∙ bit-choice 32 (line_word equation16) (line_word equation17) z (line_lt equation16) (line_lt equation17) lz i l
        ∙ ap₂ (cond b) (line-bit equation16 1 equation_16 i l) (line-bit equation17 2 equation_17 i l)
        ∙ cond_ap (λ (p : ℕ). bit k (iterate (entry tsc1_card) p (column i xs))) b 1 2

  -- THE LAW of document 02, Nine
  pub gate_step_lem : gate_step xs ≡ step tsc1_card xs
  unfolding gate_step gated
  gate_step_lem =
      let z = selector tsc1_card xs in
      let next = step tsc1_card xs in
      let lz : z < 2 ^ 32 = selector_lt tsc1_card xs in
      let inside = step_in_range tsc1_card xs in
      let four : length (gate_step xs) ≡ 4 = length-tabulate 4 _ in
      ext_get_or 0 (gate_step xs) next (four ∙ sym inside.0) (λ k l.
      let lk : k < 4 = omega (arith, four) in
      bits_ext 32 (get_or (gated xs z) k 0) (get_or next k 0) (gated_lt z lz k lk) (inside.1 k lk) (λ i li.
      gated-bit z lz k lk i li ∙ ap (bit k) (sym (column-step tsc1_card tsc1_accepted.formed xs sx.0 i li)) ∙ bit-column i next k))

-- step after step
pub gate_orbit : (xs : List ℕ) → IsState tsc1_card xs → (t : ℕ) → iterate gate_step t xs ≡ orbit tsc1_card xs t
unfolding iterate
gate_orbit xs sx zero = refl
gate_orbit xs sx (suc t) = ap gate_step (gate_orbit xs sx t) ∙ gate_step_lem (orbit tsc1_card xs t) (orbit_in_range tsc1_card xs sx t)
