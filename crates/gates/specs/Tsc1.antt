-- TSC-1: the values of card P1, and its step by the gate formulas.
use Rattle.std.specs.Prelude.{◌≡◌, ℕ, ◌<◌, Bool, true, List, [], ◌∷◌}
use Rattle.cycle.specs.Notation.{tabulate, iterate, bit}
use Rattle.tsc.specs.declared.Card.{Card}
use Rattle.tsc.specs.Constants.{tsc1_constant, tsc1_table}
use Rattle.tsc.specs.Selector.{selector}
use Rattle.tsc.specs.Step.{entry}
use Rattle.card_format.specs.Reading.{padded}
use Rattle.gates.specs.Formulas.{Formula, on_bits, on_words, equation16, equation17, line, choice}

-- document 002 (13 to 15), and what document 01, The card, has for absent fields: P1, whose one byte is 00
abbrev pub tsc1_card : Card
tsc1_card =
    record {
      words = 4;
      width = 32;
      table = padded tsc1_table;
      odd_power = 1;
      even_power = 2;
      constant = tsc1_constant;
      filter = 1;
      sum_term = 1;
    }

-- a flag that may be set for TSC-1's card alone
abbrev pub OnlyTsc1 : Bool → Card → Type 0
OnlyTsc1 flag card = flag ≡ true → card ≡ tsc1_card

-- on each of the sixteen columns the lines of an equation give the bits of S applied p times
abbrev pub GivesPower : List Formula → ℕ → Type 0
GivesPower equation p = (k c : ℕ) → k < 4 → c < 16 → on_bits c (line equation k) ≡ bit k (iterate (entry tsc1_card) p c)

-- four words of 32 bits, all columns at once: (16) where z has a 1, (17) where it has a 0
unfoldable pub gated : List ℕ → ℕ → List ℕ
gated xs z =
    tabulate 4 (λ k. on_words 32 (on_words 32 xs (line equation16 k) ∷ on_words 32 xs (line equation17 k) ∷ z ∷ []) choice)

-- document 02, Nine: the step of TSC-1 by its gate formulas
unfoldable pub gate_step : List ℕ → List ℕ
gate_step xs = gated xs (selector tsc1_card xs)
