-- What is drawn from a state by value: the state then, the rank, and how many words were taken.
use Rattle.std.specs.Prelude.{List, ℕ}
use Rattle.tsc.specs.declared.Card.{Card}
use Rattle.stepping.specs.State.{holding}
use Rattle.samples.specs.Samples.{taken, drawn_rank, drawn_state}
use Rattle.sample.specs.declared.draw.Sample.{Sample}

abbrev pub sample : Card → List ℕ → ℕ → Sample
sample card xs k = record { state = holding (drawn_state card xs k); rank = drawn_rank card xs k; taken = taken card xs k }
