-- The worked examples, by computing.
use mathlib.Core.Path.{◌≡◌, refl}
use mathlib.Core.List.{[]}
use lib.IntN.{pos}
use Rattle.cycle.specs.Notation.{sum, count}
use Rattle.bit_counts.specs.Bits.{word_bits, bits_of}
use Rattle.bit_counts.specs.Counts.{balance, largest, furthest, runs, counts_of}
use Rattle.bit_counts.specs.Examples.{examples, ExamplesHold}

pub examples_hold : ExamplesHold
unfolding examples sum count word_bits bits_of balance largest furthest runs counts_of
examples_hold = (refl, (refl, (refl, (refl, tt))))

-- all four are 0 for no bits
pub no_bits : counts_of [] ≡ record { balance = pos 0; forward = 0; backward = 0; runs = 0 }
unfolding balance largest furthest runs counts_of
no_bits = refl
