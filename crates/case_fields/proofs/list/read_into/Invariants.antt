use Rattle.std.proofs.Common.{◌≡◌, ℕ, ◌≤◌, Some, length, drop, map, eqb}
use Rattle.std.specs.List.{slice_split}
use Rattle.case_numbers.specs.Numbers.{base_of, numeral}
use Rattle.case_fields.specs.Lists.{held}
use Rattle.case_fields.proofs.Folds.{gathered}
use Rattle.case_fields.proofs.list.read_into.Given as goal

-- what the parts that are still to come make of the words so far is what all parts make of the words as lent
abbrev pub invariant-loop-part : goal.invariant-loop-part
invariant-loop-part l =
    let ps = slice_split (λ b. eqb b 44) l.field in
    let value = numeral (base_of l.hex) in
    record {
      bound : l.count ≤ length l.words;
      left : gathered l.most value (Some (held l.words l.count)) (drop (length l.yielded) ps) ≡ gathered l.most value (Some (held l.initial.words 0)) ps;
    }
