-- What a call knows of its card and state once they are looked at: their refusal, or that there is none.
use Rattle.std.proofs.Common.{◌≡◌, List, ℕ, Bor, subst}
use Rattle.std.specs.Prelude.{Result, Ok, Err, MatchResult}
use Rattle.tsc.specs.declared.Card.{Card}
use Rattle.refusals.specs.declared.Refusal.{Refusal}
use Rattle.refusals.specs.Refusals.{number, answered, numbered}
use Rattle.refusals.proofs.Answers.{of_value, of_refusal}
use Rattle.card_format.specs.Reading.{card_of}
use Rattle.draws.specs.Calls.{refusal_for}
use Rattle.draws.proofs.Opening.{Clear}

module _ (bytes xs : List ℕ) {a : Result Card Refusal} (looked : numbered a ≡ answered (refusal_for bytes xs) (card_of bytes)) where
  pub refused : {e : Refusal} → a ≡ Err e → refusal_for bytes xs ≡ number e
  refused q = of_refusal (refusal_for bytes xs) (card_of bytes) looked q

  pub clear : {card : Card} → a ≡ Ok card → Clear bytes xs card
  clear q = let p = of_value (refusal_for bytes xs) (card_of bytes) looked q in record { none = p.0; card_is = p.1 }

-- what is told where it is looked at where it was read
abbrev pub Looked : List ℕ → List ℕ → Result (Bor Card) Refusal → Type 0
Looked bytes xs b = MatchResult b (λ v. (refusal_for bytes xs ≡ 0) × (v.now ≡ card_of bytes)) (λ e. refusal_for bytes xs ≡ number e)

module _ (bytes xs : List ℕ) {b : Result (Bor Card) Refusal} (looked : Looked bytes xs b) where
  pub look_refused : {e : Refusal} → b ≡ Err e → refusal_for bytes xs ≡ number e
  look_refused q = subst (Looked bytes xs) q looked

  pub look_clear : {v : Bor Card} → b ≡ Ok v → Clear bytes xs v.now
  look_clear q = let p = subst (Looked bytes xs) q looked in record { none = p.0; card_is = p.1 }
