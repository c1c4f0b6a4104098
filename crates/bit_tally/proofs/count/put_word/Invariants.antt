use mathlib.Core.Path.{◌≡◌}
use mathlib.Core.List.{List}
use Prim.Native.Nat.{ℕ, ◌-◌, ◌≤◌}
use lib.ListN.{length}
use Rattle.tsc.specs.Constants.{widest_width}
use Rattle.cycle.proofs.Lists.{over}
use Rattle.bit_counts.specs.Bits.{word_bits, text}
use Rattle.bit_tally.specs.declared.tally.Tally.{Tally}
use Rattle.bit_tally.specs.Tally.{tallied, HasRoom}
use Rattle.bit_tally.proofs.count.put_word.Given as goal

-- the first i bits are put and counted
pub record Put (word n : ℕ) (part₀ : List ℕ) (t : Tally) (part : List ℕ) (tally : Tally) (i : ℕ) : Type 0 where
  pub narrow : n ≤ widest_width
  pub room : n ≤ length part₀
  pub bits : HasRoom tally (n - i)
  pub counted : tallied tally (word_bits (n - i) word) ≡ tallied t (word_bits n word)
  pub page : part ≡ over (text (word_bits n word)) part₀ i

abbrev pub invariant-loop-i : goal.invariant-loop-i
invariant-loop-i l = Put l.word l.n l.initial.part l.initial.tally l.part l.tally l.i
