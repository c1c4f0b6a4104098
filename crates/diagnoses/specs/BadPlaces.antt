-- The bad bit of a table (document 02, Eleven): the fewest places whose entries alone make every completion get 7, for any bytes.
-- Entry x stands at place x. A set of places is a test P: the places below 2^m that meet it.
use Rattle.std.specs.Prelude.{◌≡◌, Bool, true, List, [], ◌∷◌, ◌++◌, ℕ, ◌/◌, ◌^◌, ◌<◌, eqb}
use Rattle.cycle.specs.Notation.{count, zero_filled}
use Rattle.cycle.specs.Cycle.{first_return}
use Rattle.completions.specs.Sets.{members, LeastSet}
use Rattle.tsc.specs.declared.Card.{Card}
use Rattle.tsc.specs.Constants.{most_words}
use Rattle.tsc.specs.Step.{entry}
use Rattle.refusals.specs.Refusals.{Check, check, first_of, number}
use Rattle.refusals.specs.declared.Refusal.TheVariants.{NotSingleCycle, SingleCycle}
use Rattle.card_format.specs.Reading.{card_of, form_checks}
use Rattle.card_format.specs.Verdict.{period_checks}
use Rattle.diagnoses.specs.declared.BadPlaces.{BadPlaces}

-- a completion: a card of as many words, whose entries are allowed and at the places of P the same (of maps without cards, `Keeps` in crate completions)
pub record Completion (card : Card) (P : ℕ → Bool) (other : Card) : Type 0 where
  pub words : other.words ≡ card.words
  pub allowed : (x : ℕ) → x < 2 ^ card.words → entry other x < 2 ^ card.words
  pub agrees : (x : ℕ) → x < 2 ^ card.words → P x ≡ true → entry other x ≡ entry card x

-- every completion gets 7
abbrev pub Fatal : Card → (ℕ → Bool) → Type 0
Fatal card P = (other : Card) → Completion card P other → first_of (period_checks other) ≡ number NotSingleCycle

-- whether the table is a whole ring: from 0 it first returns to 0 after all 2^m entries
abbrev pub is_single_cycle : Card → Bool
is_single_cycle card = eqb (first_return (entry card) (2 ^ card.words)) (2 ^ card.words)

-- what is looked at: 1 to 6, then 26 where the table is a single cycle
unfoldable pub bad_checks : List ℕ → List Check
bad_checks bytes = form_checks bytes ++ (check SingleCycle (is_single_cycle (card_of bytes)) ∷ [])

-- the most places that are shown: half of the largest table
abbrev pub most_places : ℕ
most_places = 2 ^ most_words / 2

-- the places of P below N
abbrev pub showing : ℕ → (ℕ → Bool) → BadPlaces
showing N P = record { places = zero_filled most_places (members N P); count = count N P; refusal = 0 }

abbrev pub no_places : ℕ → BadPlaces
no_places r = record { places = zero_filled most_places []; count = 0; refusal = r }

-- what is answered: the refusal; or where there is none, the least of the sets that are fatal
pub record Shows (bytes : List ℕ) (r : BadPlaces) : Type 0 where
  pub refused : 0 < first_of (bad_checks bytes) → r ≡ no_places (first_of (bad_checks bytes))
  pub shown : first_of (bad_checks bytes) ≡ 0 → let card = card_of bytes in
      (P : ℕ → Bool) × LeastSet (2 ^ card.words) (Fatal card) P × (r ≡ showing (2 ^ card.words) P)
