use mathlib.Core.Path.{◌≡◌, ap}
use Prim.Native.Nat.{ℕ, ◌≤◌}
use native.Mathlib.Omega.{arith}
use mir.Val.{Fits}
use mir.Syntax.{w32}
use borrow.Author.Rules.{rules}
use lib.ListN.{length, get_or}
use Rattle.tsc.specs.Constants.{most_words}
use Rattle.words.specs.declared.arithmetic.Width.{Width}
use Rattle.columns.specs.Few.{few_words}
use Rattle.stepping.proofs.Columns.{step_made}
use Rattle.stepping.proofs.step.next_state.Goals as goal

pub selector_by-select-requires : goal.selector_by-select-requires
selector_by-select-requires c = (c.requires, omega arith)

pub returns-then-terms-le-FEW_WORDS : goal.returns-then-terms-le-FEW_WORDS
returns-then-terms-le-FEW_WORDS c card st = let a = c.args in
    let after = c.replace_columns.result in
    let few : card.words ≤ few_words = omega (arith, st.selects.words) in
    let all : length after.words ≡ most_words = search rules in
    let fits : (k : ℕ) → Fits w32 (get_or after.words k 0) = search rules in
    step_made card a.terms a.powers.now.odd a.powers.now.even a.s st few_words _ _ after few (c.selector_by-select.ensures card st.selects few)
    (ap (λ (w : Width). w.low) st.selects.width) all (λ k. (fits k).fits) c.replace_columns.ensures

pub selector_by-select-requires-2 : goal.selector_by-select-requires-2
selector_by-select-requires-2 c = (c.requires, omega arith)

pub returns : goal.returns
returns c card st = let a = c.args in
    let after = c.replace_columns-2.result in
    let few : card.words ≤ most_words = st.accepted.few in
    let all : length after.words ≡ most_words = search rules in
    let fits : (k : ℕ) → Fits w32 (get_or after.words k 0) = search rules in
    step_made card a.terms a.powers.now.odd a.powers.now.even a.s st most_words _ _ after few (c.selector_by-select-2.ensures card st.selects few)
    (ap (λ (w : Width). w.low) st.selects.width) all (λ k. (fits k).fits) c.replace_columns-2.ensures
