use Rattle.std.proofs.Common.{◌≡◌, ◌≤◌, Some, ap, sym, ◌∙◌, arith}
use Rattle.std.specs.Char.{digit_value}
use Rattle.case_numbers.specs.Numbers.{digit_of, with_digit}
use Rattle.case_numbers.proofs.Digits.{same_digit, no_digit, put_if, put_other, put_large}
use Rattle.case_numbers.proofs.number.with_digit.Goals as goal

pub returns-in_err-digit : goal.returns-in_err-digit
returns-in_err-digit c = let a = c.args in
    let none : a.base ≤ digit_value a.byte = rw (← c.from.ensures) (omega (arith, c.in_err-digit.ensures.value)) in
    c.from_residual.ensures ∙ sym (put_other a.base a.value _ (no_digit a.base a.byte c.requires.1 none))

pub returns-in_err-checked_mul : goal.returns-in_err-checked_mul
returns-in_err-checked_mul c = let a = c.args in
    c.from_residual-in_err-checked_mul.ensures ∙ sym (put_large a.base a.value _ (omega (arith, c.in_err-checked_mul.ensures)))

pub returns : goal.returns
returns c = let a = c.args in
    let d = c.in_ok-digit.ensures.value in
    let e : digit_of a.byte ≡ c.in_ok-digit.digit = same_digit a.base a.byte c.requires.1 (rw (← c.from.ensures) d.0) ∙ ap digit_value (sym c.from.ensures) ∙ sym d.1 in
    let m = c.in_ok-checked_mul.ensures.1 in
    put_if a.base a.value c.in_ok-digit.digit _ _ (omega (arith, d.0, d.1)) m c.checked_add.ensures ∙ sym (ap (with_digit a.base (Some a.value)) e)
