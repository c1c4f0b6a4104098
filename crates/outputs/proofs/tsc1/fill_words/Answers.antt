use Rattle.std.proofs.Common.{rules}
use Rattle.gates.specs.Tsc1.{tsc1_card}
use Rattle.outputs.proofs.tsc1.fill_words.Goals as goal

pub fill_by-requires-clause-answers : goal.fill_by-requires-clause-answers
fill_by-requires-clause-answers c = (tsc1_card, record { callable = λ t h. tt; output = λ t o h q. search rules }, c.requires.0)

pub returns : goal.returns
returns c =
    let both = c.fill_by.ensures tsc1_card (record { callable = λ t h. tt; output = λ t o h q. search rules }) c.requires.0 in
    record { value = both.0; words_after = both.1 }
