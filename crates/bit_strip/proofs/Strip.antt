-- What holds of a strip that is not refused.
use mathlib.Core.Path.{◌≡◌}
use mathlib.Core.List.{List}
use Prim.Native.Nat.{ℕ, ◌*◌, ◌^◌, ◌≤◌, ◌<◌}
use borrow.Author.Tests.{ltb-true, ltb-false, not-false}
use lib.Dec.{ltb}
use lib.ListN.{length, get_or}
use Rattle.cycle.proofs.Every.{every_at}
use Rattle.refusals.specs.Refusals.{first_of, NoneApplies}
use Rattle.refusals.proofs.Refusals.{none_first}
use Rattle.bit_strip.specs.Strip.{most_strip_words, strip_checks}

-- a strip that is not refused, on a page with room
pub record StripFits (n : ℕ) (strip : List ℕ) (room : ℕ) : Type 0 where
  pub short : length strip ≤ most_strip_words
  pub narrow : (k : ℕ) → k < length strip → get_or strip k 0 < 2 ^ n
  pub enough : n * length strip ≤ room

pub strip_fits : (n : ℕ) (strip : List ℕ) (room : ℕ) → first_of (strip_checks n strip room) ≡ 0 → StripFits n strip room
unfolding strip_checks NoneApplies
strip_fits n strip room z =
    let h = none_first (strip_checks n strip room) z in
    record {
      short = ltb-false most_strip_words (length strip) h.0;
      narrow = λ k l. ltb-true _ _ (every_at (length strip) (λ k. ltb (get_or strip k 0) (2 ^ n)) (not-false _ h.1.0) k l);
      enough = ltb-false room (n * length strip) h.1.1.0;
    }
