use Rattle.std.proofs.Common.{◌≡◌, ℕ, length, get_or, ap, ◌∙◌, w32, Fits, rules}
use Rattle.tsc.specs.Constants.{most_words}
use Rattle.stepping.specs.State.{used, holding}
use Rattle.gates.specs.Tsc1.{tsc1_card, gated, gate_step}
use Rattle.gates.proofs.GateStep.{first_four, gate_step_lem}
use Rattle.gates.proofs.step.next_state.Goals as goal

pub returns : goal.returns
unfolding gate_step
returns c = let s = c.args.s in
    let all : length s.words ≡ most_words = search rules in
    let fits : (k : ℕ) → Fits w32 (get_or s.words k 0) = search rules in
    c.replace_columns.ensures ∙ ap (λ (z : ℕ). holding (gated (used tsc1_card s) z)) c.selector_of.ensures
    ∙ ap holding (gate_step_lem (used tsc1_card s) (first_four s.words all (λ k. (fits k).fits)))
