-- The desk's answer, put together from what is read at each place.
use mathlib.Core.Path.{◌≡◌, sym, ap, ◌∙◌}
use mathlib.Core.Bool.{cond}
use mathlib.Core.List.{List, [], ◌∷◌}
use Prim.Native.Nat.{ℕ, ◌+◌, ◌*◌}
use lib.ListN.{get_or, drop}
use Rattle.tsc.specs.declared.State.{State}
use Rattle.card_format.specs.Fields.{numbers}
use Rattle.card_format.specs.Reading.{present}
use Rattle.std.specs.Prelude.{Option, Ok}
use Rattle.records.specs.Fields.{word_field}
use Rattle.records.specs.Reading.{Whole, optional, held_state, record_of, reading_record}
use Rattle.records.proofs.Reading.{reading_whole}
use Rattle.record_form.proofs.Places.{taken_at, state_at, known, truck-bytes, shovel-bytes, ties-byte, taken-byte, words-byte, words-bytes}

module _ (b : List ℕ) (w : Whole b) where
  -- the byte at a place, where the bit stands
  abbrev pub byte_at : ℕ → ℕ → Option ℕ
  byte_at k at = optional (cond (present b k) (get_or b at 0 ∷ []) [])

  pub assembled : {truck shovel behind at : ℕ} {ties taken words : Option ℕ} {state : State} → truck ≡ get_or b 1 0 + get_or b 2 0 * 256
      → shovel ≡ get_or b 3 0 + get_or b 4 0 * 256 → ties ≡ byte_at 2 5 → behind ≡ taken_at b → taken ≡ byte_at 3 behind → at ≡ state_at b → words ≡ byte_at 4 at
      → state ≡ held_state (numbers (word_field (get_or b at 0)) (drop (at + 1) b))
      → Ok record { truck = truck; shovel = shovel; ties = ties; taken = taken; words = words; state = state } ≡ reading_record b
  unfolding record_of
  assembled et es ek eb ew ea em ex =
      let k = known b w in
      let truck = et ∙ sym (truck-bytes b k.low) in
      let shovel = es ∙ sym (shovel-bytes b k.low) in
      let ties = ek ∙ ap optional (sym (ties-byte b k.low)) in
      let taken = ew ∙ ap (byte_at 3) eb ∙ ap optional (sym (taken-byte b k.low)) in
      let words = em ∙ ap (byte_at 4) ea ∙ ap optional (sym (words-byte b k.low)) in
      let state = ex ∙ ap (λ (i : ℕ). held_state (numbers (word_field (get_or b i 0)) (drop (i + 1) b))) ea ∙ ap held_state (sym (words-bytes b k)) in
      (λ i. Ok record { truck = truck i; shovel = shovel i; ties = ties i; taken = taken i; words = words i; state = state i })
      ∙ sym (reading_whole b w)
