use Rattle.std.proofs.Common.{ap, arith}
use Rattle.tsc.specs.declared.Card.{Card}
use Rattle.card_format.proofs.Verdict.{reading-sound, words-sound}
use Rattle.case_cards.proofs.calls.print_read.Goals as goal

pub print_values-requires : goal.print_values-requires
print_values-requires g c = let bytes = c.args.card.now in
    let h = reading-sound bytes c.read.ensures c.in-Ok.is in
    omega (arith, words-sound bytes h.0, ap (λ (card : Card). card.words) h.1)
