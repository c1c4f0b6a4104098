use mathlib.Core.Path.{◌≡◌}
use mathlib.Core.List.{List, ◌++◌}
use Prim.Native.Nat.{ℕ, ◌-◌, ◌*◌, ◌≤◌}
use lib.ListN.{length, take, drop}
use Rattle.tsc.specs.Constants.{widest_width}
use Rattle.bit_counts.specs.Bits.{bits_of, text}
use Rattle.bit_tally.specs.declared.tally.Tally.{Tally}
use Rattle.bit_tally.specs.Tally.{base, tally_of_none, tallied, HasRoom}
use Rattle.bit_tally.proofs.count.put_words.Given as goal

-- the words before word k are put and counted
pub record Put (n : ℕ) (strip page₀ page : List ℕ) (t : Tally) (k : ℕ) : Type 0 where
  pub narrow : n ≤ widest_width
  pub few : n * length strip ≤ base
  pub room : n * length strip ≤ length page₀
  pub bits : HasRoom t (n * (length strip - k))
  pub counted : tallied t (bits_of n (drop k strip)) ≡ tallied tally_of_none (bits_of n strip)
  pub written : page ≡ text (bits_of n (take k strip)) ++ drop (n * k) page₀

abbrev pub invariant-loop-k : goal.invariant-loop-k
invariant-loop-k l = Put l.n l.strip l.initial.page l.page l.tally l.k
