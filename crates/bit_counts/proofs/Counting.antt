-- What the checks of a count of bits come to, and its answer and page then.
use mathlib.Core.Path.{◌≡◌, refl, sym, ap, ◌∙◌}
use mathlib.Core.Logic.{◌≢◌}
use mathlib.Core.List.{List, ◌++◌}
use Prim.Native.Nat.{ℕ, ◌+◌, ◌-◌, ◌*◌, ◌≤◌, ◌<◌}
use borrow.Author.Tests.{ne_eqb}
use lib.ListN.{length, get_or, drop}
use lib.Seq.{drop_at}
use Rattle.cycle.specs.Notation.{bit}
use Rattle.std.specs.Prelude.{Result, Ok, Err}
use Rattle.refusals.specs.declared.Refusal.{Refusal}
use Rattle.refusals.specs.Refusals.{number, first_of, numbered, told}
use Rattle.refusals.proofs.Answers.{of_refusal, told_of_value, told_of_refusal, number_nonzero}
use Rattle.refusals.proofs.Refusals.{first-left, first_right, first_both}
use Rattle.tsc.specs.declared.Card.{Card}
use Rattle.tsc.specs.Constants.{widest_width}
use Rattle.card_format.specs.Reading.{card_of}
use Rattle.card_format.specs.Verdict.{card_checks, verdict, accepting}
use Rattle.card_format.proofs.Verdict.{accepted_card, accepting-passed}
use Rattle.bit_strip.specs.Strip.{strip_checks}
use Rattle.bit_strip.proofs.Strip.{StripFits, strip_fits}
use Rattle.bit_counts.specs.declared.Counts.{Counts}
use Rattle.bit_counts.specs.Bits.{bits_of, digit, text, words_read}
use Rattle.bit_counts.specs.Counts.{counts_of}
use Rattle.bit_counts.specs.Calls.{strip_bits, bit_refusal, counting_bits, bit_page}
use Rattle.bit_counts.proofs.Bits.{length-bits_of, length-text, digit_on, read_back}

module _ (bytes strip page : List ℕ) where
  abbrev room : ℕ
  room = length page

  -- what is promised of the answer r and of the page p that is left
  abbrev pub Promised : Result Counts ℕ → List ℕ → Type 0
  Promised r p = (r ≡ counting_bits bytes strip room) × (p ≡ bit_page bytes strip page)

  -- A REFUSAL LEAVES THE PAGE AS LENT
  pub bits_refused : (r : ℕ) → r ≢ 0 → r ≡ bit_refusal bytes strip room → Promised (Err r) page
  unfolding counting_bits bit_page
  bits_refused r ne e = rw (sym e) (simp (ne_eqb r 0 ne), simp (ne_eqb r 0 ne))

  pub bits_passed : bit_refusal bytes strip room ≡ 0 → let bits = strip_bits bytes strip in
      Promised (Ok (counts_of bits)) (text bits ++ drop (length bits) page)
  unfolding counting_bits bit_page
  bits_passed z = rw z (refl, refl)

  -- from what is found of the card: refused by the card; by the strip; by neither
  module _ {a : Result Card Refusal} (found : numbered a ≡ accepting bytes) where
    pub refused_card : {e : Refusal} → a ≡ Err e → Promised (Err (number e)) page
    unfolding accepting verdict bit_refusal
    refused_card {e} q =
        let r = of_refusal (verdict bytes) (card_of bytes) found q in
        bits_refused (number e) (number_nonzero e)
        (sym r ∙ sym (first-left (card_checks bytes) (strip_checks (card_of bytes).width strip room) (λ z. number_nonzero e (sym r ∙ z))))

    module _ {card : Card} (q : a ≡ Ok card) where
      accepted : (verdict bytes ≡ 0) × (card ≡ card_of bytes)
      accepted = accepting-passed bytes found q

      same_refusal : first_of (strip_checks card.width strip room) ≡ bit_refusal bytes strip room
      unfolding verdict bit_refusal
      same_refusal =
          ap (λ (c : Card). first_of (strip_checks c.width strip room)) accepted.1
          ∙ sym (first_right (card_checks bytes) (strip_checks (card_of bytes).width strip room) accepted.0)

      pub found_narrow : card.width ≤ widest_width
      found_narrow = rw accepted.1 (accepted_card bytes accepted.0).narrow

      module _ {b : Result (Unit {0}) Refusal} (checked : told b ≡ first_of (strip_checks card.width strip room)) where
        pub refused_strip : {e : Refusal} → b ≡ Err e → Promised (Err (number e)) page
        refused_strip {e} h = bits_refused (number e) (number_nonzero e) (sym (told_of_refusal checked h) ∙ same_refusal)

        pub fitting : {u : Unit {0}} → b ≡ Ok u → StripFits card.width strip room
        fitting h = strip_fits card.width strip room (told_of_value checked h)

        pub counted : {u : Unit {0}} → b ≡ Ok u → (v : Counts) (p : List ℕ) → let bits = bits_of card.width strip in
            v ≡ counts_of bits → p ≡ text bits ++ drop (card.width * length strip) page → Promised (Ok v) p
        counted h v p ve pe =
            let bits = bits_of card.width strip in
            let same = ap (λ (c : Card). bits_of c.width strip) accepted.1 in
            let done = bits_passed (sym same_refusal ∙ told_of_value checked h) in (
              ap Ok (ve ∙ ap counts_of same) ∙ done.0,
              pe ∙ ap (λ (n : ℕ). text bits ++ drop n page) (sym (length-bits_of card.width strip))
                  ∙ ap (λ (b : List ℕ). text b ++ drop (length b) page) same ∙ done.1,
            )

  -- on a page that is not refused
  module _ (z : bit_refusal bytes strip room ≡ 0) where
    abbrev n : ℕ
    n = (card_of bytes).width

    fits : StripFits n strip room
    unfolding bit_refusal
    fits = strip_fits n strip room (first_both (card_checks bytes) (strip_checks n strip room) z).1

    page_is : bit_page bytes strip page ≡ text (strip_bits bytes strip) ++ drop (n * length strip) page
    page_is = sym (bits_passed z).1 ∙ ap (λ (m : ℕ). text (strip_bits bytes strip) ++ drop m page) (length-bits_of n strip)

    -- EACH WORD'S TOP BIT FIRST
    pub page_digits : (k i : ℕ) → k < length strip → i < n → get_or (bit_page bytes strip page) (n * k + i) 0 ≡ digit (bit (n - 1 - i) (get_or strip k 0))
    page_digits k i l h = ap (λ (p : List ℕ). get_or p (n * k + i) 0) page_is ∙ digit_on n strip (drop (n * length strip) page) k i l h

    -- THE BITS ON THE PAGE READ BACK ARE THE WORDS, and bytes past them are untouched
    pub page_back : words_read n (length strip) (bit_page bytes strip page) ≡ strip
    page_back = ap (words_read n (length strip)) page_is ∙ read_back n strip (drop (n * length strip) page) fits.narrow

    pub page_rest : drop (n * length strip) (bit_page bytes strip page) ≡ drop (n * length strip) page
    page_rest =
        ap (drop (n * length strip)) page_is
        ∙ drop_at (text (strip_bits bytes strip)) _ (n * length strip) (length-text (strip_bits bytes strip) ∙ length-bits_of n strip)
