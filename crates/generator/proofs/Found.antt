-- A call that has found P1 goes on with TSC-1's values.
use mathlib.Core.Path.{◌≡◌, sym, ap, ◌∙◌}
use mathlib.Core.Bool.{Bool, true}
use mathlib.Core.Logic.{◌↔◌}
use mathlib.Core.List.{List}
use Prim.Native.Nat.{ℕ}
use Rattle.tsc.specs.declared.Card.{Card}
use Rattle.card_format.specs.Reading.{card_of}
use Rattle.card_format.specs.Examples.{p1}
use Rattle.draws.proofs.Opening.{Clear}
use Rattle.gates.specs.Tsc1.{tsc1_card}
use Rattle.gates.proofs.GateStep.{card_p1}

pub clear_tsc1 : {bytes xs : List ℕ} {card : Card} {r : Bool} → Clear bytes xs card → (r ≡ true) ↔ (bytes ≡ p1) → r ≡ true → Clear bytes xs tsc1_card
clear_tsc1 k h t = record { none = k.none; card_is = sym (ap card_of (h.0 t) ∙ card_p1) }
