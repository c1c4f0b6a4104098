use mathlib.Core.Path.{◌≡◌, sym, ap}
use mathlib.Core.Bool.{true, true≢false}
use Prim.Native.Nat.{◌≤◌}
use native.Mathlib.Nat.{mul-le-mul, lt_of_le_of_lt}
use borrow.Author.Tests.{leb-true}
use lib.Dec.{T, lit<}
use lib.IntN.{ℤ, pos, negsuc, nat_abs}
use lib.Signed.{non_neg}
use Rattle.places.specs.Distances.{square}
use Rattle.places.specs.Places.{most_radius, is_radius}
use Rattle.places.proofs.Signed.{read_back}
use Rattle.within.proofs.call.squared.Goals as goal

whole : (r : ℤ) → is_radius r ≡ true → T (non_neg r) × (nat_abs r ≤ most_radius)
whole (pos n) h = (tt, leb-true n most_radius h)
whole (negsuc n) h = absurd (true≢false (sym h))

pub overflow_cast-r : goal.overflow_cast-r
overflow_cast-r c = let h = whole c.args.radius c.requires in
    rw (read_back c.ranges.radius) (h.0, record { fits = lt_of_le_of_lt h.1 (lit< tt) })

pub overflow_mul-result : goal.overflow_mul-result
overflow_mul-result c = let h = (whole c.args.radius c.requires).1 in
    rw (read_back c.ranges.radius) (record { fits = lt_of_le_of_lt (mul-le-mul h h) (lit< tt) })

pub returns : goal.returns
returns c = ap square (read_back c.ranges.radius)
