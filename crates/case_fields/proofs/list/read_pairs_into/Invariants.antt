use Rattle.std.proofs.Common.{◌≡◌, ◌≤◌, Some, length, drop}
use Rattle.case_fields.specs.Lists.{held, pairs, pair_value}
use Rattle.case_fields.proofs.Folds.{gathered}
use Rattle.case_fields.proofs.list.read_pairs_into.Given as goal

-- what the pairs that are still to come make of the words so far is what all pairs make of the words as lent
abbrev pub invariant-loop-pair : goal.invariant-loop-pair
invariant-loop-pair l =
    let ps = pairs l.field in
    record {
      bound : l.count ≤ length l.words;
      left : gathered 255 pair_value (Some (held l.words l.count)) (drop (length l.yielded) ps) ≡ gathered 255 pair_value (Some (held l.initial.words 0)) ps;
    }
