use mathlib.Core.Path.{sym, ap, subst, ◌∙◌}
use Prim.Native.Nat.{ℕ, ◌≤◌}
use lib.ListN.{length}
use Rattle.bit_counts.specs.Bits.{bits_of}
use Rattle.bit_counts.proofs.Bits.{length-bits_of}
use Rattle.bit_tally.specs.Tally.{base, Extremes, counts_from}
use Rattle.bit_tally.proofs.Pass.{pass_extremes, pass_counts}
use Rattle.bit_tally.proofs.Room.{few_bits}
use Rattle.bit_tally.proofs.Text.{strip_bits_lem}
use Rattle.bit_tally.proofs.count.count_bits.Goals as goal
use Rattle.bit_tally.proofs.count.count_bits.Goals.{Start}

few : (c : Start) → length (bits_of c.args.n c.args.strip.now) ≤ base
few c = subst (λ (m : ℕ). m ≤ base) (sym (length-bits_of c.args.n c.args.strip.now)) (few_bits c.args.n (length c.args.strip.now) c.requires.0 c.requires.1)

pub counts-requires : goal.counts-requires
counts-requires c = let a = c.args in
    subst Extremes (sym c.put_words.ensures.counted) (pass_extremes (bits_of a.n a.strip.now) (strip_bits_lem a.n a.strip.now) (few (goal.at.counts-requires c).Start))

pub returns-clause-counted : goal.returns-clause-counted
returns-clause-counted c = let a = c.args in
    c.counts.ensures ∙ ap counts_from c.put_words.ensures.counted ∙ pass_counts (bits_of a.n a.strip.now) (strip_bits_lem a.n a.strip.now) (few (goal.at.returns-clause-counted c).Start)
