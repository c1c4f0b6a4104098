use mathlib.Core.Path.{◌≡◌, refl, sym, ap, ap₂, ◌∙◌}
use mathlib.Core.List.{List, [], ◌∷◌, ◌++◌}
use Prim.Native.Nat.{ℕ, ◌+◌, ◌-◌, ◌/◌, ◌%◌, ◌<◌}
use native.Mathlib.Omega.{arith}
use lib.ListN.{length, get_or, take, drop}
use Rattle.std.specs.Int.{w16, to_le_bytes}
use Rattle.card_format.specs.Fields.{bytes_of}
use Rattle.cycle.proofs.Lists.{put_next}
use Rattle.records.specs.Fields.{word_field}
use Rattle.records.proofs.Full.{encoded_full, length_full}
use Rattle.record_write.proofs.Bytes.{length-bytes}
use Rattle.record_write.proofs.write.put_record.Goals as goal

-- the two bytes of a number
halves : (x : ℕ) (bytes : List ℕ) → x < 65536 → bytes ≡ to_le_bytes w16 x → (get_or bytes 0 0 ≡ x % 256) × (get_or bytes 1 0 ≡ x / 256)
halves x bytes l e = (ap (λ (b : List ℕ). get_or b 0 0) e, ap (λ (b : List ℕ). get_or b 1 0) e ∙ omega arith)

pub returns : goal.returns
returns c = let a = c.args in
    let xs = a.state.now in
    let b = bytes_of (word_field (length xs)) xs in
    let head : List ℕ = 31 ∷ a.truck % 256 ∷ a.truck / 256 ∷ a.shovel % 256 ∷ a.shovel / 256 ∷ a.ties ∷ a.taken ∷ length xs ∷ [] in
    let d = a.page.now in
    let p = c.copy_from_slice.new.self ++ drop 8 d in
    let t = halves a.truck c.to_le_bytes.result (omega arith) c.to_le_bytes.ensures in
    let s = halves a.shovel c.to_le_bytes-2.result (omega arith) c.to_le_bytes-2.ensures in
    let begun : p ≡ head ++ drop 8 d = ap (λ (h : List ℕ). h ++ drop 8 d)
    (c.copy_from_slice.ensures.after ∙ (λ i. 31 ∷ t.0 i ∷ t.1 i ∷ s.0 i ∷ s.1 i ∷ a.ties ∷ a.taken ∷ length xs ∷ [])) in
    let w = encoded_full a.truck a.shovel a.ties a.taken xs (omega arith) (omega arith) (omega arith) (omega arith) (omega arith) in
    let n = length_full a.truck a.shovel a.ties a.taken xs (omega arith) (omega arith) (omega arith) (omega arith) (omega arith) in
    ap (λ (v : List ℕ). take 8 p ++ (v ++ drop (length p - 8) (drop 8 p)))
    (c.put_words.ensures ∙ ap (λ (n : ℕ). b ++ drop n (take (length p - 8) (drop 8 p))) (sym (length-bytes xs)))
    ∙ ap (λ (p : List ℕ). take 8 p ++ ((b ++ drop (length b) (take (length p - 8) (drop 8 p))) ++ drop (length p - 8) (drop 8 p))) begun
    ∙ put_next head d b 8 refl
    ∙ ap₂ (λ (w : List ℕ) (n : ℕ). w ++ drop n d) (sym w) (ap (λ (n : ℕ). 8 + n) (length-bytes xs) ∙ sym n)
