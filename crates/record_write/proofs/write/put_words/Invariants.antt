use mathlib.Core.Path.{◌≡◌}
use Prim.Native.Nat.{◌*◌, ◌≤◌}
use lib.ListN.{length, take, drop}
use Rattle.card_format.specs.Fields.{bytes_of}
use Rattle.records.specs.Fields.{word_field}
use Rattle.record_write.proofs.write.put_words.Given as goal

-- the bytes of the words before word k are at the start of the part, and past them it is as it was
abbrev pub invariant-loop-k : goal.invariant-loop-k
invariant-loop-k l = record {
  room : 4 * length l.words ≤ length l.initial.part;
  front : take (4 * l.k) l.part ≡ take (4 * l.k) (bytes_of (word_field (length l.words)) l.words);
  rest : drop (4 * l.k) l.part ≡ drop (4 * l.k) l.initial.part;
}
