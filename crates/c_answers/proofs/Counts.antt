-- Demand 1 at the C interface, of counts of bits: the answer tells the first refusal that applies, 0 where none does; and where it is not 0, the integers are 0
-- and the page is as it was.
use mathlib.Core.Path.{◌≡◌, refl, sym, ap}
use mathlib.Core.Logic.{◌≢◌}
use mathlib.Core.List.{List}
use Prim.Native.Nat.{ℕ}
use lib.IntN.{pos}
use lib.ListN.{length}
use Rattle.std.specs.Prelude.{Result}
use Rattle.bit_counts.specs.declared.Counts.{Counts}
use Rattle.bit_counts.specs.Calls.{bit_refusal, counting_bits, bit_page}
use Rattle.bit_counts.proofs.Counting.{bits_refused}
use Rattle.c_answers.specs.Counts.{bit_counts_answer, counted_for}
use Rattle.c_answers.proofs.Refused.{told}

module _ (bytes strip page : List ℕ) where
  pub counts_told : (counted_for bytes strip (length page)).refusal ≡ bit_refusal bytes strip (length page)
  unfolding counting_bits
  counts_told = told (λ (b : Result Counts ℕ). (bit_counts_answer b).refusal) (bit_refusal bytes strip (length page)) _ _ refl refl

  pub counts-refused : let r = (counted_for bytes strip (length page)).refusal in r ≢ 0
      → (counted_for bytes strip (length page) ≡ record { balance = pos 0; forward = 0; backward = 0; runs = 0; refusal = r }) × (bit_page bytes strip page ≡ page)
  counts-refused ne =
      let p = bits_refused bytes strip page _ ne counts_told in
      (ap bit_counts_answer (sym p.0), sym p.1)
