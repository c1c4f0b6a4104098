use Rattle.std.proofs.Common.{◌≡◌, ℕ, ◌%◌, ◌<◌, length, get_or}
use Rattle.case_fields.proofs.list.Numbers+ROOM.bytes.Given as goal

-- the elements before k are made
abbrev pub invariant-loop-k : goal.invariant-loop-k
invariant-loop-k l = (length l.bytes ≡ 600) × ((i : ℕ) → i < l.k → get_or l.bytes i 0 ≡ get_or l.self-inside.words i 0 % 256)
