use mathlib.Core.Path.{sym, ◌∙◌}
use native.Mathlib.Omega.{arith}
use Rattle.tsc.specs.Step.{step}
use Rattle.tsc.proofs.Step.{step_in_range}
use Rattle.tsc.proofs.Word.{word-filtered}
use Rattle.gates.specs.Tsc1.{tsc1_card}
use Rattle.stepping.specs.State.{used}
use Rattle.stepping.proofs.Holding.{holding-past}
use Rattle.outputs.proofs.Made.{output-made}
use Rattle.outputs.proofs.tsc1.next_output.Goals as goal

-- the filter takes all four words
pub returns : goal.returns
returns c = let s = c.args.s in
    let e = c.next_state-after.ensures in
    let next = step tsc1_card (used tsc1_card s) in
    output-made tsc1_card s _ e _
    (c.word_of.ensures ∙ sym (word-filtered tsc1_card _ (λ k l. rw e (holding-past next k (omega (arith, (step_in_range tsc1_card (used tsc1_card s)).0))))))
