-- The times copied to the front of an array, one of them set.
use mathlib.Core.Path.{◌≡◌, sym, ap, ap₂, ◌∙◌}
use mathlib.Core.List.{List, ◌++◌}
use Prim.Native.Nat.{ℕ, ◌<◌}
use lib.ListN.{length, set, take, length-set}
use lib.Seq.{set-append_left, take-append_seam}

pub front_set : (s front rest : List ℕ) (i v w : ℕ) → front ≡ s → v ≡ w → i < length s → take (length s) (set (front ++ rest) i v) ≡ set s i w
front_set s front rest i v w ef ev l =
    ap₂ (λ (f : List ℕ) (x : ℕ). take (length s) (set (f ++ rest) i x)) ef ev ∙ ap (take (length s)) (set-append_left s rest i w l)
    ∙ ap (λ (n : ℕ). take n (set s i w ++ rest)) (sym (length-set s i w)) ∙ take-append_seam (set s i w) rest
