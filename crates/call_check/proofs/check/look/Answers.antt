use Rattle.std.proofs.Common.{◌≡◌, List, ℕ, ◌^◌, ◌<◌, ◌≤◌, sym, subst}
use Rattle.std.proofs.lemmas.Result.{err_from_is_err_and}
use Rattle.tsc.specs.Constants.{most_words}
use Rattle.tsc.specs.declared.Card.{Card}
use Rattle.tsc.specs.Step.{entry}
use Rattle.card_format.proofs.Sound.{sound_card}
use Rattle.card_format.proofs.Verdict.{reading-sound, words-sound}
use Rattle.draws.proofs.Opening.{told_by_state, clear}
use Rattle.call_check.proofs.Looked.{by_reader, by_periods, accepted}
use Rattle.call_check.proofs.check.look.Goals as goal

pub period_refusal-requires : goal.period_refusal-requires
period_refusal-requires c =
    let h = reading-sound c.requires.0 c.requires.1 c.in-Ok.is in
    subst (λ (card : Card). (card.words ≤ most_words) × ((y : ℕ) → y < 2 ^ card.words → entry card y < 2 ^ card.words)) (sym h.1)
    (words-sound _ h.0, (sound_card _ h.0).entries)

pub returns-in_err-period_refusal-in-Ok : goal.returns-in_err-period_refusal-in-Ok
returns-in_err-period_refusal-in-Ok c = λ bytes h.
    let p = err_from_is_err_and c.from_residual.result c.from_residual.ensures.1 in
    rw (p.1, p.2) (by_periods bytes c.args.state.now h c.in-Ok.is c.period_refusal.ensures c.in_err-period_refusal-in-Ok.was)

pub returns-in_err-state_refusal-in-Ok : goal.returns-in_err-state_refusal-in-Ok
returns-in_err-state_refusal-in-Ok c = λ bytes h.
    let p = err_from_is_err_and c.from_residual-in_err-state_refusal-in-Ok.result c.from_residual-in_err-state_refusal-in-Ok.ensures.1 in
    let passed = accepted bytes c.args.state.now h c.in-Ok.is c.period_refusal.ensures c.in_ok-period_refusal-in-Ok.was in
    rw (p.1, p.2) (told_by_state bytes c.args.state.now passed c.in-Ok.is c.state_refusal.ensures c.in_err-state_refusal-in-Ok.was)

pub returns-in_ok-state_refusal-in-Ok : goal.returns-in_ok-state_refusal-in-Ok
returns-in_ok-state_refusal-in-Ok c = λ bytes h.
    let passed = accepted bytes c.args.state.now h c.in-Ok.is c.period_refusal.ensures c.in_ok-period_refusal-in-Ok.was in
    let k = clear bytes c.args.state.now passed c.in-Ok.is c.state_refusal.ensures c.in_ok-state_refusal-in-Ok.was in
    (k.none, k.card_is)

pub returns-in-Err : goal.returns-in-Err
returns-in-Err c = λ bytes h. by_reader bytes c.args.state.now h c.in-Err.is
