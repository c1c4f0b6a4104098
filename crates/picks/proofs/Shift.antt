-- The standby server: the same requests from the same state, each list in an order of its own, the same answers throughout and the same state at the end.
use mathlib.Core.Path.{◌≡◌, refl, ap, ap₂, ◌∙◌}
use mathlib.Core.List.{List, [], ◌∷◌}
use Prim.Native.Nat.{ℕ}
use Rattle.picks.specs.declared.Pick.{Pick}
use Rattle.picks.specs.Picks.{picked}
use Rattle.picks.specs.Shift.{Request, answers, state_after, Alike}
use Rattle.picks.proofs.Choice.{pick_order}

pub standby_alike : (bytes xs : List ℕ) (qs rs : List Request) → Alike qs rs
    → (answers bytes xs rs ≡ answers bytes xs qs) × (state_after bytes xs rs ≡ state_after bytes xs qs)
unfolding answers state_after Alike
standby_alike bytes xs [] [] h = (refl, refl)
standby_alike bytes xs [] (r ∷ rs) h = absurd h
standby_alike bytes xs (q ∷ qs) [] h = absurd h
standby_alike bytes xs (q ∷ qs) (r ∷ rs) h =
    let o = pick_order bytes xs q.shovels q.times r.shovels r.times h.0 in
    let ih = standby_alike bytes (picked bytes xs q.shovels q.times) qs rs h.1 in (
      ap₂ (λ (a : Pick) (rest : List Pick). a ∷ rest) o.0 (ap (λ (ys : List ℕ). answers bytes ys rs) o.1 ∙ ih.0),
      ap (λ (ys : List ℕ). state_after bytes ys rs) o.1 ∙ ih.1,
    )
