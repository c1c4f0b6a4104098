use Rattle.std.proofs.Common.{sym, ap, ◌≤◌, arith}
use Rattle.std.proofs.Math.Seq.{length-take-le}
use Rattle.tsc.specs.declared.Card.{Card}
use Rattle.tsc.specs.Constants.{most_words}
use Rattle.card_format.proofs.Verdict.{accepted_card, accepting-passed}
use Rattle.inspect.proofs.print_card.Goals as goal

-- an accepted card has no more words than a state
pub slice_bounds-print_draws-end : goal.slice_bounds-print_draws-end
slice_bounds-print_draws-end g c =
    let bytes = c.args.card.now in
    let p = accepting-passed bytes c.accept.ensures c.in-Ok.is in
    let few : c.in-Ok.values.words ≤ most_words = omega (arith, (accepted_card bytes p.0).few, ap (λ (card : Card). card.words) p.1) in
    sym (length-take-le _ _ few)

pub slice_bounds-state-end : goal.slice_bounds-state-end
slice_bounds-state-end g c =
    let bytes = c.args.card.now in
    let p = accepting-passed bytes c.accept.ensures c.in-Ok.is in
    omega (arith, (accepted_card bytes p.0).few, ap (λ (card : Card). card.words) p.1)
