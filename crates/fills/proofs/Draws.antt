-- Single draws with their words stored: refused ones leave strip and state, others write the words of the orbit one by one, and draws after draws are so many
-- more draws.
use mathlib.Core.Path.{◌≡◌, refl, sym, ap, ap₂, ◌∙◌}
use mathlib.Core.Logic.{◌≢◌}
use mathlib.Core.List.{List, ◌++◌}
use Prim.Native.Nat.{ℕ, zero, suc, ◌+◌, ◌≤◌}
use native.Mathlib.Nat.{le_of_eq, add_comm, add_assoc, add-zero, add-suc}
use native.Mathlib.Decide.{ℕ_discrete}
use native.Mathlib.Omega.{arith}
use borrow.Author.Tests.{ne_eqb}
use lib.ListN.{length, take, drop, length-set}
use lib.Seq.{paste, paste-zero, paste-suc, take_all}
use Rattle.std.specs.Prelude.{Result, Ok, Err}
use Rattle.cycle.specs.Notation.{iterate}
use Rattle.cycle.proofs.Iterate.{iterate_add}
use Rattle.tsc.specs.Word.{orbit_words}
use Rattle.tsc.proofs.Word.{length-orbit_words, orbit_words_at}
use Rattle.card_format.specs.Reading.{card_of}
use Rattle.draws.specs.Calls.{refusal_for, stepped, drawing}
use Rattle.draws.proofs.Draws.{never_refused, draws-state, draws-word, refused-state}
use Rattle.fills.specs.Draws.{with_draw, drawn_strip}

length-with_draw : (strip : List ℕ) (place : ℕ) (d : Result ℕ ℕ) → length (with_draw strip place d) ≡ length strip
length-with_draw strip place (Ok w) = length-set strip place w
length-with_draw strip place (Err r) = refl

pub drawn-state-append : (bytes xs : List ℕ) (j k : ℕ) → iterate (stepped bytes) (j + k) xs ≡ iterate (stepped bytes) k (iterate (stepped bytes) j xs)
drawn-state-append bytes xs j k = ap (λ (t : ℕ). iterate (stepped bytes) t xs) (add_comm j k) ∙ iterate_add (stepped bytes) k j xs

module _ (bytes xs strip : List ℕ) (place : ℕ) where
  pub length-drawn_strip : (t : ℕ) → length (drawn_strip bytes xs strip place t) ≡ length strip
  unfolding drawn_strip
  length-drawn_strip zero = refl
  length-drawn_strip (suc t) =
      length-with_draw (drawn_strip bytes xs strip place t) (place + t) (drawing bytes (iterate (stepped bytes) t xs)) ∙ length-drawn_strip t

  -- j draws and then k are j + k draws
  pub drawn-append : (j k : ℕ) → drawn_strip bytes xs strip place (j + k)
      ≡ drawn_strip bytes (iterate (stepped bytes) j xs) (drawn_strip bytes xs strip place j) (place + j) k
  unfolding drawn_strip
  drawn-append j zero = ap (drawn_strip bytes xs strip place) (add-zero j)
  drawn-append j (suc k) =
      let strip₁ = drawn_strip bytes (iterate (stepped bytes) j xs) (drawn_strip bytes xs strip place j) (place + j) k in
      ap (drawn_strip bytes xs strip place) (add-suc j k)
      ∙ ap₂ (λ (l : List ℕ) (i : ℕ). with_draw l i (drawing bytes (iterate (stepped bytes) (j + k) xs))) (drawn-append j k) (sym (add_assoc place j k))
      ∙ ap (λ (ys : List ℕ). with_draw strip₁ (place + j + k) (drawing bytes ys)) (drawn-state-append bytes xs j k)

  pub refused_strip : refusal_for bytes xs ≢ 0 → (t : ℕ) → drawn_strip bytes xs strip place t ≡ strip
  unfolding drawn_strip drawing
  refused_strip ne zero = refl
  refused_strip ne (suc t) =
      let refused : drawing bytes xs ≡ Err (refusal_for bytes xs) = simp (ne_eqb (refusal_for bytes xs) 0 ne) in
      ap (λ (ys : List ℕ). with_draw (drawn_strip bytes xs strip place t) (place + t) (drawing bytes ys)) (refused-state bytes xs ne t)
      ∙ ap (with_draw (drawn_strip bytes xs strip place t) (place + t)) refused ∙ refused_strip ne t

  module _ (z : refusal_for bytes xs ≡ 0) (count : ℕ) (room : place + count ≤ length strip) where
    row : List ℕ
    row = orbit_words (card_of bytes) xs count

    drawn_paste : (t : ℕ) → t ≤ count → drawn_strip bytes xs strip place t ≡ paste strip place row t
    unfolding drawn_strip row
    drawn_paste zero l = paste-zero strip place row
    drawn_paste (suc t) l =
        let next = draws-word bytes xs z t ∙ ap Ok (sym (orbit_words_at (card_of bytes) xs count t l)) in
        ap₂ (λ (w : List ℕ) (d : Result ℕ ℕ). with_draw w (place + t) d) (drawn_paste t (omega arith)) next
        ∙ paste-suc strip place row t 0 (omega arith) (omega (arith, length-orbit_words (card_of bytes) xs count))

    pub drawn-row : drawn_strip bytes xs strip place count ≡ take place strip ++ orbit_words (card_of bytes) xs count ++ drop (place + count) strip
    unfolding row
    drawn-row =
        drawn_paste count (omega arith)
        ∙ ap (λ (r : List ℕ). take place strip ++ r ++ drop (place + count) strip) (take_all count row (le_of_eq (length-orbit_words (card_of bytes) xs count)))

-- draws change nothing of whether a draw is refused
pub drawn_told : (bytes xs : List ℕ) (t : ℕ) → refusal_for bytes (iterate (stepped bytes) t xs) ≡ refusal_for bytes xs
drawn_told bytes xs t = go (ℕ_discrete (refusal_for bytes xs) 0)
  where
    go : Dec (refusal_for bytes xs ≡ 0) → refusal_for bytes (iterate (stepped bytes) t xs) ≡ refusal_for bytes xs
    go (yes z) = ap (refusal_for bytes) (draws-state bytes xs z t) ∙ never_refused bytes xs z t ∙ sym z
    go (no n) = ap (refusal_for bytes) (refused-state bytes xs n t)
