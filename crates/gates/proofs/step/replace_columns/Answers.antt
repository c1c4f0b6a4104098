use Rattle.std.proofs.Common.{◌≡◌, ℕ, List, length, ap, arith, rules}
use Rattle.cycle.specs.Notation.{tabulate}
use Rattle.cycle.proofs.Digits.{tabulate-get_or}
use Rattle.tsc.specs.Constants.{most_words}
use Rattle.stepping.specs.State.{holding}
use Rattle.gates.specs.Formulas.{on_words}
use Rattle.gates.specs.Tsc1.{gated}
use Rattle.gates.proofs.step.replace_columns.Goals as goal

-- by computing, on the first four words one by one
pub returns : goal.returns
unfolding tabulate on_words gated
returns c = let a = c.args in
    let ws = a.s.words in
    let all : length ws ≡ most_words = search rules in
    ap (λ (xs : List ℕ). holding (gated xs a.z)) (tabulate-get_or 4 ws (omega (arith, all)))
