-- What is to be believed of fills: strip and state are as so many single draws leave them, and so many steps back undo it; a count of 0 changes nothing; a fill
-- and a fill behind it are one.
use mathlib.Core.Path.{◌≡◌, sym, ap, ap₂, ◌∙◌}
use mathlib.Core.Bool.{Bool, true, false, cond}
use mathlib.Core.Logic.{◌≢◌}
use mathlib.Core.List.{List}
use Prim.Native.Nat.{ℕ, ◌+◌, ◌≤◌, ◌<◌}
use native.Mathlib.Decide.{ℕ_discrete, dec_lt}
use native.Mathlib.Omega.{arith}
use borrow.Author.Tests.{lt-ltb, le-ltb}
use lib.Dec.{ltb}
use lib.ListN.{length}
use Rattle.cycle.specs.Notation.{iterate}
use Rattle.draws.specs.Calls.{refusal_for, stepped, stepped_back}
use Rattle.draws.proofs.Draws.{draws-state, refused-state, draws-undone}
use Rattle.spans.proofs.Span.{span_fits}
use Rattle.fills.specs.Fills.{fill_refusal, filled, filled_state}
use Rattle.fills.specs.Draws.{drawn_strip, draws_made}
use Rattle.fills.proofs.Filling.{refusal_call, refusal_span, fill_passed, fill_refused, promised_passed}
use Rattle.fills.proofs.Draws.{length-drawn_strip, drawn-append, drawn-state-append, refused_strip, drawn-row, drawn_told}

module _ (bytes xs strip : List ℕ) (place count : ℕ) where
  -- what a fill leaves is what so many draws leave
  abbrev As : ℕ → Type 0
  As t = (filled bytes xs strip place count ≡ drawn_strip bytes xs strip place t) × (filled_state bytes xs strip place count ≡ iterate (stepped bytes) t xs)

  -- with a card and a state that are refused nothing is drawn
  as_refused : (t : ℕ) → refusal_for bytes xs ≢ 0 → As t
  as_refused t n =
      let r = fill_refused bytes xs strip place count (λ z. n (refusal_call bytes xs strip place count n ∙ z)) in
      (r.0 ∙ sym (refused_strip bytes xs strip place n t), r.1 ∙ sym (refused-state bytes xs n t))

  module _ (room : place + count ≤ length strip) where
    -- where the span is in the strip, a fill is refused as a draw is
    fill_told : fill_refusal bytes xs strip place count ≡ refusal_for bytes xs
    fill_told = go (ℕ_discrete (refusal_for bytes xs) 0)
      where
        go : Dec (refusal_for bytes xs ≡ 0) → fill_refusal bytes xs strip place count ≡ refusal_for bytes xs
        go (yes z) = sym (refusal_span bytes xs strip place count z) ∙ span_fits (length strip) place count room ∙ sym z
        go (no n) = sym (refusal_call bytes xs strip place count n)

    fill_draws_in : As count
    fill_draws_in = go (ℕ_discrete (refusal_for bytes xs) 0)
      where
        go : Dec (refusal_for bytes xs ≡ 0) → As count
        go (yes z) =
            let r = promised_passed bytes xs strip place count (fill_told ∙ z) in
            (sym r.1.0 ∙ sym (drawn-row bytes xs strip place z count room), sym r.1.1 ∙ sym (draws-state bytes xs z count))
        go (no n) = as_refused count n

  -- STRIP AND STATE ARE AS SINGLE DRAWS LEAVE THEM, for every input: as many as are asked for, and none where the span ends past the strip
  pub fill_draws : As (draws_made (length strip) place count)
  unfolding drawn_strip iterate
  fill_draws = go (dec_lt (length strip) (place + count))
    where
      go : Dec (length strip < place + count) → As (draws_made (length strip) place count)
      go (yes l) = rw (lt-ltb (length strip) (place + count) l) (fill_refused bytes xs strip place count (λ z. absurd (omega (arith, (fill_passed bytes xs strip place count z).1))))
      go (no n) = rw (le-ltb (length strip) (place + count) (omega arith)) (fill_draws_in (omega arith))

-- AS MANY STEPS BACK UNDO A FILL, for every input
pub fill_undone : (bytes xs strip : List ℕ) (place count : ℕ)
    → iterate (stepped_back bytes) (draws_made (length strip) place count) (filled_state bytes xs strip place count) ≡ xs
fill_undone bytes xs strip place count =
    let t = draws_made (length strip) place count in
    ap (iterate (stepped_back bytes) t) (fill_draws bytes xs strip place count).1 ∙ draws-undone bytes xs t

-- A COUNT OF 0 CHANGES NOTHING, refused or not
pub fill_none : (bytes xs strip : List ℕ) (place : ℕ) → (filled bytes xs strip place 0 ≡ strip) × (filled_state bytes xs strip place 0 ≡ xs)
unfolding drawn_strip iterate
fill_none bytes xs strip place = go (ltb (length strip) (place + 0)) (fill_draws bytes xs strip place 0)
  where
    go : (b : Bool) → As bytes xs strip place 0 (cond b 0 0) → As bytes xs strip place 0 0
    go true h = h
    go false h = h

-- A FILL, AND A FILL BEHIND IT, ARE ONE FILL OF BOTH COUNTS: what they answer, the strip and the state
pub fill_append : (bytes xs strip : List ℕ) (place j k : ℕ) → place + (j + k) ≤ length strip
    → let ys = filled_state bytes xs strip place j in let ws = filled bytes xs strip place j in
    (fill_refusal bytes ys ws (place + j) k ≡ fill_refusal bytes xs strip place (j + k))
    × (filled bytes ys ws (place + j) k ≡ filled bytes xs strip place (j + k))
    × (filled_state bytes ys ws (place + j) k ≡ filled_state bytes xs strip place (j + k))
fill_append bytes xs strip place j k room =
    let ys = filled_state bytes xs strip place j in
    let ws = filled bytes xs strip place j in
    let first = fill_draws_in bytes xs strip place j (omega arith) in
    let both = fill_draws_in bytes xs strip place (j + k) room in
    let size : length ws ≡ length strip = ap length first.0 ∙ length-drawn_strip bytes xs strip place j in
    let behind : place + j + k ≤ length ws = omega arith in
    let second = fill_draws_in bytes ys ws (place + j) k behind in (
      fill_told bytes ys ws (place + j) k behind ∙ ap (refusal_for bytes) first.1 ∙ drawn_told bytes xs j ∙ sym (fill_told bytes xs strip place (j + k) room),
      second.0
          ∙ ap₂ (λ (ys ws : List ℕ). drawn_strip bytes ys ws (place + j) k) first.1 first.0 ∙ sym (drawn-append bytes xs strip place j k)
          ∙ sym both.0,
      second.1 ∙ ap (iterate (stepped bytes) k) first.1 ∙ sym (drawn-state-append bytes xs j k) ∙ sym both.1,
    )
