-- What is kept while bits are counted: with one bit more, and the four integers that it comes to.
use Rattle.std.specs.Prelude.{not, List, [], ◌∷◌, ◌++◌, ℕ, ◌+◌, ◌-◌, ◌*◌, ◌^◌, ◌≤◌, ◌<◌, min, max, eqb, length, drop}
use Rattle.std.proofs.Math.IntN.{sub_ℕ}
use Rattle.cycle.specs.Notation.{one}
use Rattle.tsc.specs.Constants.{widest_width}
use Rattle.bit_strip.specs.Strip.{most_strip_words}
use Rattle.bit_counts.specs.declared.Counts.{Counts}
use Rattle.bit_counts.specs.Bits.{bits_of, text}
use Rattle.bit_tally.specs.declared.tally.Tally.{Tally}

-- how much higher the running sum is kept: the most bits there may be
abbrev pub base : ℕ
base = widest_width * most_strip_words

abbrev pub tally_of_none : Tally
tally_of_none = record { sum = base; low = base; high = base; runs = 0; last = 2 }

-- the sum goes down by one, and up by two for a one
unfoldable pub with_bit : Tally → ℕ → Tally
with_bit t b =
    let sum = t.sum - 1 + 2 * b in
    record { sum = sum; low = min t.low sum; high = max t.high sum; runs = t.runs + one (not (eqb t.last b)); last = b }

unfoldable pub tallied : Tally → List ℕ → Tally
tallied t [] = t
tallied t (b ∷ bs) = tallied (with_bit t b) bs

-- there may be n bits more
pub record HasRoom (t : Tally) (n : ℕ) : Type 0 where
  pub down : n ≤ t.sum
  pub up : t.sum + n < 2 ^ 32
  pub runs : t.runs + n < 2 ^ 32

-- the extremes are extremes, of the sum at the start and of the sum now
pub record Extremes (t : Tally) : Type 0 where
  pub low : t.low ≤ base
  pub high : base ≤ t.high
  pub low_now : t.low ≤ t.sum
  pub high_now : t.sum ≤ t.high
  pub most : t.high ≤ 2 * base

-- the four integers: distances of the extremes from the sum at the start, and from the sum now
unfoldable pub counts_from : Tally → Counts
counts_from t = record {
  balance = sub_ℕ t.sum base;
  forward = max (t.high - base) (base - t.low);
  backward = max (t.sum - t.low) (t.high - t.sum);
  runs = t.runs;
}

-- ---- a strip of words of n bits: what the pass asks of it and of the page, and what it leaves there

abbrev pub HasPlace : ℕ → List ℕ → List ℕ → Type 0
HasPlace n strip page = (n ≤ widest_width) × (length strip ≤ most_strip_words) × (n * length strip ≤ length page)

abbrev pub with_text : ℕ → List ℕ → List ℕ → List ℕ
with_text n strip page = text (bits_of n strip) ++ drop (n * length strip) page
