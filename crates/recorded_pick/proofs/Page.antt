-- What an answer leaves on a page.
use mathlib.Core.Path.{◌≡◌, sym, ap, ◌∙◌}
use mathlib.Core.Logic.{◌≢◌}
use mathlib.Core.Bool.{Bool, cond}
use mathlib.Core.List.{List, []}
use Prim.Native.Nat.{ℕ}
use borrow.Author.Tests.{eq-eqb, ne_eqb}
use Rattle.picks.specs.declared.Pick.{Pick}
use Rattle.picks.specs.declared.Pick.TheVariants.{Shovel}
use Rattle.records.specs.Writing.{encoded, full_record, recorded_on}
use Rattle.recorded_picks.specs.Recorded.{record_left}

module _ (truck : ℕ) (xs page : List ℕ) {p : Pick} {s k t : ℕ} (e : p ≡ Shovel s k t) where
  -- a record of a tie
  pub left-tie : k ≢ 1 → {left : List ℕ} → left ≡ recorded_on (encoded (full_record truck s k t xs)) page → left ≡ recorded_on (record_left truck xs p) page
  left-tie ne q =
      q ∙ ap (λ (b : Bool). recorded_on (cond b [] (encoded (full_record truck s k t xs))) page) (sym (ne_eqb k 1 ne))
      ∙ ap (λ (p : Pick). recorded_on (record_left truck xs p) page) (sym e)

  -- nothing where one was nearest
  pub left-none : k ≡ 1 → page ≡ recorded_on (record_left truck xs p) page
  left-none one =
      ap (λ (b : Bool). recorded_on (cond b [] (encoded (full_record truck s k t xs))) page) (sym (eq-eqb k 1 one))
      ∙ ap (λ (p : Pick). recorded_on (record_left truck xs p) page) (sym e)
