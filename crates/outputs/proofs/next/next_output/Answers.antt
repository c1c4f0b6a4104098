use Rattle.stepping.proofs.Columns.{terms_width}
use Rattle.outputs.proofs.Made.{after_filters, output-made}
use Rattle.outputs.proofs.next.next_output.Goals as goal

pub next_state-after-requires : goal.next_state-after-requires
next_state-after-requires c = let st = c.requires.1 in terms_width c.requires.0 c.args.terms st.accepted st.selects

pub word_by-requires : goal.word_by-requires
word_by-requires c = let card = c.requires.0 in
    let st = c.requires.1 in
    (card, after_filters card c.args.s _ (c.next_state-after.ensures card st) c.args.rotations st.accepted c.requires.2)

pub returns : goal.returns
returns c card st e = let a = c.args in
    let made = c.next_state-after.ensures card st in
    output-made card a.s _ made _ (c.word_by.ensures card (after_filters card a.s _ made a.rotations st.accepted e))
