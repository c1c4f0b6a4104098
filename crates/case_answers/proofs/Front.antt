-- The front of an array, lent.
use mathlib.Core.Path.{◌≡◌, sym}
use mathlib.Core.List.{List}
use Prim.Native.Nat.{ℕ, ◌≤◌}
use native.Mathlib.Omega.{arith}
use lib.ListN.{length, take}
use lib.Seq.{length-take-le}
use Rattle.case_fields.specs.Lists.{room}

pub front : (n : ℕ) (xs : List ℕ) → length xs ≡ room → n ≤ room → n ≤ length xs
front n xs z h = omega (arith, z, h)

pub front_length : (n : ℕ) (xs : List ℕ) → length xs ≡ room → n ≤ room → n ≡ length (take n xs)
front_length n xs z h = sym (length-take-le n xs (front n xs z h))
