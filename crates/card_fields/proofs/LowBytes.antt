-- The bytes of a number: how many they are.
use mathlib.Core.Path.{◌≡◌}
use Prim.Native.Nat.{ℕ}
use lib.ListN.{length}
use Rattle.cycle.proofs.Digits.{length-tabulate}
use Rattle.card_fields.specs.LowBytes.{low_bytes}

pub length-low_bytes : (x size : ℕ) → length (low_bytes x size) ≡ size
unfolding low_bytes
length-low_bytes x size = length-tabulate size _
