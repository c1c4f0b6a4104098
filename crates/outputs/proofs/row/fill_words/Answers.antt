use mathlib.Core.Path.{subst}
use Rattle.tsc.specs.declared.Card.{Card}
use Rattle.stepping.specs.State.{Holds}
use Rattle.outputs.proofs.row.fill_words.Goals as goal

pub fill_words-requires : goal.fill_words-requires
fill_words-requires c = let p = c.requires in
    (subst (λ (d : Card). Holds d c.args.s) (p.3 c.if-is_tsc1.true) p.1, p.2)

pub returns-then-is_tsc1 : goal.returns-then-is_tsc1
returns-then-is_tsc1 c = rw (c.requires.3 c.if-is_tsc1.true) (record { value = c.fill_words.ensures.value; words_after = c.fill_words.ensures.words_after })
