use Rattle.std.proofs.Common.{◌≡◌, Some}
use Rattle.case_numbers.specs.Numbers.{base_of}
use Rattle.case_numbers.proofs.Digits.{number_from}
use Rattle.case_numbers.proofs.number.number_of.Given as goal

abbrev pub invariant-loop-byte : goal.invariant-loop-byte
invariant-loop-byte l =
    record { base_is : l.base ≡ base_of l.hex; left : number_from l.base (Some l.value) l.field l.byte-index ≡ number_from l.base (Some 0) l.field 0 }
