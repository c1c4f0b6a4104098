use mathlib.Core.Path.{sym, ap, ap₂, ◌∙◌, subst}
use mathlib.Core.List.{List, ◌++◌}
use Prim.Native.Nat.{ℕ, ◌+◌, ◌-◌, ◌*◌}
use native.Mathlib.Omega.{arith}
use lib.ListN.{length, get_or, take, drop}
use Rattle.cycle.proofs.Lists.{put_next}
use Rattle.bit_counts.specs.Bits.{word_bits, bits_of, text}
use Rattle.bit_counts.proofs.Bits.{length-word_bits}
use Rattle.bit_tally.specs.declared.tally.Tally.{Tally}
use Rattle.bit_tally.specs.Tally.{tallied, HasRoom}
use Rattle.bit_tally.proofs.Room.{few_bits, room_bits, room-first}
use Rattle.bit_tally.proofs.Text.{word_bits_lem, length-word_text, word_next, text_next, length-words, no_words, all_counted, place_next, places_left}
use Rattle.bit_tally.proofs.count.put_words.Goals as goal

pub loop-k-init : goal.loop-k-init
loop-k-init c = let p = c.requires in
    let a = c.args in
    let n = a.n in
    let xs = a.strip.now in
    let start = c.none-tally.ensures in
    record {
      narrow = p.0;
      few = few_bits n (length xs) p.0 p.1;
      room = p.2;
      bits = subst (λ (t : Tally). HasRoom t (n * (length xs - 0))) (sym start) (room-first _ (few_bits n (length xs - 0) p.0 (omega (arith, p.1))));
      counted = ap (λ (t : Tally). tallied t (bits_of n xs)) start;
      written = no_words n xs a.page.now;
    }

pub loop-k-preserved : goal.loop-k-preserved
loop-k-preserved c = let l = c.loop-k in
    let a = c.args in
    let h = c.loop-k-test.true in
    let p = l.invariant in
    let n = a.n in
    let xs = a.strip.now in
    let b = word_bits n (get_or xs l.k 0) in
    let f = text b in
    let size = length-word_text n (get_or xs l.k 0) in
    let put = c.put_word-tally.ensures in
    let at = n * l.k in
    let before = text (bits_of n (take l.k xs)) in
    let d = a.page.now in
    record {
      narrow = p.narrow;
      few = p.few;
      room = p.room;
      bits = subst (λ (t : Tally). HasRoom t (n * (length xs - (l.k + 1)))) (sym put.counted)
          (room_bits l.tally b _ (word_bits_lem n (get_or xs l.k 0))
          (subst (HasRoom l.tally) (places_left n l.k (length xs) h ∙ ap (λ (m : ℕ). m + n * (length xs - (l.k + 1))) (sym (length-word_bits n (get_or xs l.k 0)))) p.bits));
      counted = ap (λ (t : Tally). tallied t (bits_of n (drop (l.k + 1) xs))) put.counted ∙ word_next n xs l.k h l.tally ∙ p.counted;
      written = ap (λ (v : List ℕ). take at l.page ++ (v ++ drop (length l.page - at) (drop at l.page)))
          (put.page ∙ ap (λ (m : ℕ). f ++ drop m (take (length l.page - at) (drop at l.page))) (sym size))
          ∙ ap (λ (p : List ℕ). take at p ++ ((f ++ drop (length f) (take (length p - at) (drop at p))) ++ drop (length p - at) (drop at p))) p.written
          ∙ put_next before d f at (length-words n xs l.k (omega arith))
          ∙ ap₂ (λ (w : List ℕ) (m : ℕ). w ++ drop m d) (text_next n xs l.k h) (ap (λ (m : ℕ). at + m) size ∙ place_next n l.k 0);
    }

pub returns-clause-counted : goal.returns-clause-counted
returns-clause-counted c = let l = c.loop-k in
    all_counted c.args.n c.args.strip.now l.tally l.k (omega arith) ∙ l.invariant.counted
