use mathlib.Core.Path.{◌≡◌}
use Prim.Native.Nat.{ℕ, ◌+◌, ◌-◌, ◌%◌, ◌≤◌, ◌<◌}
use lib.ListN.{length}
use Rattle.tsc.specs.Constants.{most_words, filter_words}
use Rattle.words.proofs.Words.{Below}
use Rattle.filters.proofs.filter.further_by.Given as goal

-- v is the rotation of further word j
abbrev pub PlaceAt : ℕ → ℕ → ℕ → Type 0
PlaceAt n j v = v ≡ (filter_words + j) % n

abbrev pub invariant-loop-j : goal.invariant-loop-j
invariant-loop-j l = (0 < l.n) × (l.j ≤ most_words - filter_words) × (length l.places ≡ most_words - filter_words) × (filter_words < l.m) × Below (PlaceAt l.n) l.j l.places
