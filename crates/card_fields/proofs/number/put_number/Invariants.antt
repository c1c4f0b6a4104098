use mathlib.Core.Path.{◌≡◌}
use Prim.Native.Nat.{◌/◌, ◌^◌}
use Rattle.cycle.proofs.Lists.{over}
use Rattle.card_fields.specs.LowBytes.{low_bytes}
use Rattle.card_fields.proofs.number.put_number.Given as goal

abbrev pub invariant-loop-byte : goal.invariant-loop-byte
invariant-loop-byte l = (l.rest ≡ l.x / 256 ^ l.byte-index) × (l.byte-items ≡ over (low_bytes l.x l.size) l.initial.byte-items l.byte-index)
