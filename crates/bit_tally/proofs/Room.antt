-- Room for bits, while they are counted.
use mathlib.Core.Bool.{not}
use mathlib.Core.List.{List, [], ◌∷◌}
use Prim.Native.Nat.{ℕ, suc, ◌+◌, ◌*◌, ◌^◌, ◌≤◌, ◌<◌}
use native.Mathlib.Nat.{mul-le-mul}
use native.Mathlib.Omega.{arith}
use lib.Dec.{eqb, lit<}
use lib.ListN.{length}
use Rattle.cycle.specs.Notation.{All}
use Rattle.cycle.proofs.Count.{one_le}
use Rattle.tsc.specs.Constants.{widest_width}
use Rattle.bit_strip.specs.Strip.{most_strip_words}
use Rattle.bit_tally.specs.declared.tally.Tally.{Tally}
use Rattle.bit_tally.specs.Tally.{base, tally_of_none, with_bit, tallied, HasRoom}

pub room-bit : (t : Tally) (b n : ℕ) → b < 2 → HasRoom t (suc n) → HasRoom (with_bit t b) n
unfolding with_bit
room-bit t b n l h =
    let o = one_le (not (eqb t.last b)) in
    record { down = omega (arith, h.down); up = omega (arith, h.up, h.down); runs = omega (arith, h.runs) }

pub room_less : (t : Tally) (m n : ℕ) → n ≤ m → HasRoom t m → HasRoom t n
room_less t m n l h = record { down = omega (arith, h.down); up = omega (arith, h.up); runs = omega (arith, h.runs) }

pub room_bits : (t : Tally) (bits : List ℕ) (n : ℕ) → All (λ b. b < 2) bits → HasRoom t (length bits + n) → HasRoom (tallied t bits) n
unfolding tallied
room_bits t [] n a h = room_less t (0 + n) n (omega arith) h
room_bits t (b ∷ bs) n a h = room_bits (with_bit t b) bs n a.1 (room-bit t b (length bs + n) a.0 (room_less t (suc (length bs) + n) (suc (length bs + n)) (omega arith) h))

-- no strip has more bits than the sum has room for
pub few_bits : (n k : ℕ) → n ≤ widest_width → k ≤ most_strip_words → n * k ≤ base
few_bits n k l h = mul-le-mul l h

pub room-first : (n : ℕ) → n ≤ base → HasRoom tally_of_none n
room-first n l = record { down = l; up = omega (arith, lit< {m = 2 * base} {n = 2 ^ 32} tt); runs = omega (arith, lit< {m = base} {n = 2 ^ 32} tt) }
