use Rattle.std.proofs.Common.{rules, refl}
use Rattle.gates.specs.Tsc1.{tsc1_card}
use Rattle.sample.proofs.tsc1.draw_rank.Goals as goal

pub rank_by-requires-clause-answers : goal.rank_by-requires-clause-answers
rank_by-requires-clause-answers c = (tsc1_card, record { callable = λ t h. tt; output = λ t o h q. search rules }, c.requires.0, refl)

pub returns : goal.returns
returns c = c.rank_by.ensures tsc1_card (record { callable = λ t h. tt; output = λ t o h q. search rules }) c.requires.0 refl
