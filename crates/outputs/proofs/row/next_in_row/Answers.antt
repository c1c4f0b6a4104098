use mathlib.Core.Path.{◌≡◌, sym, ap, ◌∙◌}
use Prim.Native.Nat.{ℕ}
use native.Mathlib.Omega.{arith}
use mir.Val.{Fits}
use mir.Syntax.{w32}
use borrow.Author.Rules.{rules}
use lib.ListN.{length, get_or}
use Rattle.tsc.specs.declared.Card.{Card}
use Rattle.tsc.specs.Constants.{most_words}
use Rattle.tsc.specs.Step.{step}
use Rattle.tsc.proofs.Word.{word-filtered}
use Rattle.words.specs.declared.arithmetic.Width.{Width}
use Rattle.columns.specs.Few.{few_words}
use Rattle.stepping.specs.State.{used, holding}
use Rattle.stepping.proofs.Columns.{terms_width, step_made}
use Rattle.outputs.specs.Output.{StepsByLeaves}
use Rattle.outputs.proofs.Made.{after_filters, output-made}
use Rattle.outputs.proofs.row.next_in_row.Goals as goal
use Rattle.outputs.proofs.row.next_in_row.Goals.{After-replace_columns-after}

-- the columns put through the table are those of the step
after : (c : After-replace_columns-after) (card : Card) → let a = c.args in StepsByLeaves card a.terms a.leaves a.rotations a.s
    → c.replace_columns-after.result ≡ holding (step card (used card a.s))
after c card r =
    let a = c.args in
    let st = r.steps in
    let all : length c.replace_columns-after.result.words ≡ most_words = search (rules, c.replace_columns-after.type_inv) in
    let fits : (k : ℕ) → Fits w32 (get_or c.replace_columns-after.result.words k 0) = search (rules, c.replace_columns-after.type_inv) in
    step_made card a.terms r.odd r.even a.s st few_words _ _ _ r.few (c.selector_by-select.ensures card st.selects r.few)
    (ap (λ (w : Width). w.low) st.selects.width) all (λ k. (fits k).fits) (c.replace_columns-after.ensures r.odd r.even r.leaves_of)

pub selector_by-select-requires : goal.selector_by-select-requires
selector_by-select-requires c = let st = c.requires.1.steps in (terms_width c.requires.0 c.args.terms st.accepted st.selects, omega arith)

pub filtered_by-requires : goal.filtered_by-requires
filtered_by-requires c = let r = c.requires.1 in
    (c.requires.0, after_filters c.requires.0 c.args.s _ (after c c.requires.0 r) c.args.rotations r.steps.accepted r.filters)

pub returns : goal.returns
returns c card r = let a = c.args in
    let made = after (goal.at.returns c).After-replace_columns-after card r in
    let filters = after_filters card a.s _ made a.rotations r.steps.accepted r.filters in
    output-made card a.s _ made _ (c.filtered_by.ensures card filters ∙ sym (word-filtered card _ (λ k l. filters.past k (omega (arith, r.few)))))
