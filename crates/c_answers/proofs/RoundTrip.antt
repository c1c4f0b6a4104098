-- Demand 2 at the C interface: an accepted card, read and then written, is the same bytes.
use mathlib.Core.Path.{◌≡◌, sym, ap, ◌∙◌}
use mathlib.Core.List.{List, ◌++◌, append-nil}
use Prim.Native.Nat.{ℕ, ◌-◌, ◌^◌, ◌≤◌}
use native.Mathlib.Omega.{arith}
use lib.ListN.{length, drop, replicate}
use lib.Pow.{pow_mono}
use Rattle.refusals.proofs.Refusals.{none_left, none_first, first-none}
use Rattle.tsc.specs.declared.Card.{Card}
use Rattle.tsc.specs.Constants.{most_words}
use Rattle.card_format.specs.Fields.{Bytes, table_bit, field, fields}
use Rattle.card_format.specs.Reading.{SoundForm, form_checks, values, value, words_of, padded, card_of, reading}
use Rattle.card_format.specs.Verdict.{verdict}
use Rattle.card_format.proofs.Sound.{sound_fitting, value-words}
use Rattle.card_format.proofs.Verdict.{words-sound}
use Rattle.card_format.proofs.RoundTrip.{accepted-writing}
use Rattle.c_answers.specs.Answers.{card_values, read_card, written_length, given_values, written_from, page_from}
use Rattle.c_answers.proofs.Given.{padded_full, fitting_written}

module _ (bytes : List ℕ) (s : SoundForm bytes) where
  -- a card's table fills the array
  table_full : length (card_of bytes).table ≡ 2 ^ most_words
  unfolding card_of field fields
  table_full =
      let t = values bytes table_bit in
      let c : length t ≡ 2 ^ words_of bytes = (sound_fitting bytes s table_bit (omega arith)).count in
      let w : value bytes 0 ≤ most_words = words-sound bytes s in
      let few : 2 ^ words_of bytes ≤ 2 ^ most_words = pow_mono {j = most_words} (omega (arith, value-words bytes, w)) in
      padded_full t (omega (arith, c, few))

  -- so nothing is put behind it, and the values handed over are the card's own
  pub read_given : given_values (card_values (card_of bytes)) ≡ card_of bytes
  read_given =
      let c = card_of bytes in
      let t = c.table in
      let none : 2 ^ most_words - length t ≡ 0 = omega (arith, table_full) in
      let same : padded t ≡ t = ap (λ (n : ℕ). t ++ replicate n 0) none ∙ append-nil t in
      λ i. record {
        words = c.words;
        width = c.width;
        table = same i;
        odd_power = c.odd_power;
        even_power = c.even_power;
        constant = c.constant;
        filter = c.filter;
        sum_term = c.sum_term;
      }

-- the length of the card, and its bytes at the front of the page
pub read_written : (bytes page : List ℕ) → Bytes bytes → verdict bytes ≡ 0 → length bytes ≤ length page
    → let card = given_values (read_card bytes).card in
    (written_from card (length page) ≡ record { length = length bytes; refusal = 0 }) × (page_from card page ≡ bytes ++ drop (length bytes) page)
unfolding verdict reading
read_written bytes page b z l =
    let s = none_left (form_checks bytes) _ (none_first _ z) in
    let card = card_of bytes in
    let e : given_values (read_card bytes).card ≡ card = rw (first-none _ s) (read_given bytes s) in
    let w = fitting_written (given_values (read_card bytes).card) page (sym e) (omega (arith, table_full bytes s, ap (λ (c : Card). length c.table) e)) in
    let d = accepted-writing bytes page b z l in
    (sym w.0 ∙ ap written_length d.0, sym w.1 ∙ d.1)
