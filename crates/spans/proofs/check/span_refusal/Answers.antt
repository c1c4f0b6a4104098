use mathlib.Core.Path.{sym}
use native.Mathlib.Omega.{arith}
use Rattle.spans.proofs.Span.{span_fits, span_outside}
use Rattle.spans.proofs.check.span_refusal.Goals as goal

pub returns-then-size-place : goal.returns-then-size-place
returns-then-size-place c = let a = c.args in sym (span_outside a.size a.place a.count (omega arith))

pub returns-then-size-place-2 : goal.returns-then-size-place-2
returns-then-size-place-2 c = let a = c.args in sym (span_outside a.size a.place a.count (omega arith))

pub returns : goal.returns
returns c = let a = c.args in sym (span_fits a.size a.place a.count (omega arith))
