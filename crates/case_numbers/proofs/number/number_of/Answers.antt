use Rattle.std.proofs.Common.{ap, sym, ◌∙◌, ◌+◌, rules, arith, Some}
use Rattle.std.proofs.lemmas.Bool.Decides.{nat_tests}
use Rattle.case_numbers.specs.Numbers.{numeral, base_of}
use Rattle.case_numbers.proofs.Digits.{from_next, from_stop, from_end, from_start, number_from}
use Rattle.case_numbers.proofs.number.number_of.Goals as goal

pub returns-then-is_empty : goal.returns-then-is_empty
unfolding numeral
returns-then-is_empty c = grind (arith, nat_tests, c.is_empty.ensures, c.if-is_empty.true)

pub returns-in_err-value : goal.returns-in_err-value
returns-in_err-value c = let field = c.args.field.now in
    let l = c.loop-byte in
    let stop = from_stop c.if-hex.base (Some l.value) c.with_digit.result field l.byte-index (search rules) c.in_err-value.was c.with_digit.ensures in
    c.from_residual.ensures ∙ sym (from_start (base_of c.args.hex) field (sym c.is_empty.ensures ∙ c.if-is_empty.false) ∙ ap (λ b. number_from b (Some 0) field 0) (sym l.invariant.base_is) ∙ sym l.invariant.left ∙ stop)

pub loop-byte-preserved : goal.loop-byte-preserved
loop-byte-preserved c = let field = c.args.field.now in
    let l = c.loop-byte in
    record {
      base_is = l.invariant.base_is;
      left = ap (λ x. number_from c.if-hex.base x field (l.byte-index + 1)) (sym c.in_ok-value.was ∙ c.with_digit.ensures) ∙ from_next c.if-hex.base (Some l.value) field l.byte-index (search rules) ∙ l.invariant.left;
    }

pub returns : goal.returns
returns c = let field = c.args.field.now in
    let l = c.loop-byte in
    sym (from_end c.if-hex.base (Some l.value) field l.byte-index (search rules)) ∙ l.invariant.left ∙ ap (λ b. number_from b (Some 0) field 0) l.invariant.base_is
    ∙ sym (from_start (base_of c.args.hex) field (sym c.is_empty.ensures ∙ c.if-is_empty.false))
