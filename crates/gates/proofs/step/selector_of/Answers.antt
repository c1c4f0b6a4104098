use Rattle.std.proofs.Common.{◌≡◌, ℕ, length, get_or, w32, Fits, rules}
use Rattle.tsc.specs.Constants.{most_words}
use Rattle.gates.proofs.GateStep.{selector-words}
use Rattle.gates.proofs.step.selector_of.Goals as goal

pub returns : goal.returns
returns c = let a = c.args in
    let all : length a.s.words ≡ most_words = search rules in
    let fits : (k : ℕ) → Fits w32 (get_or a.s.words k 0) = search rules in
    selector-words a.s.words all (λ k. (fits k).fits) _ _ _ _ _ c.wrapping_add_u32.ensures.value
    c.wrapping_add_u32-2.ensures.value c.wrapping_add_u32-sum.ensures.value c.wrapping_add_u32-3.ensures.value c.wrapping_add_u32-4.ensures.value
