-- What the table that is handed down gives: its entries are places of every array; and what holds of the entries that a card uses, holds of its table.
use mathlib.Core.Path.{◌≡◌, sym, ◌∙◌}
use mathlib.Core.Logic.{◌↔◌}
use mathlib.Core.Bool.{Bool}
use mathlib.Core.List.{List}
use Prim.Native.Nat.{ℕ, ◌^◌, ◌≤◌, ◌<◌}
use native.Mathlib.Omega.{arith}
use lib.ListN.{length, take}
use Rattle.std.proofs.lemmas.List.{get_or-take, length-take-le}
use Rattle.tsc.specs.Constants.{fewest_words, most_words}
use Rattle.completions.specs.Completion.{Excludes}
use Rattle.diagnosis.specs.Marks.{entry_of, IsTable}

pub inside : (table : List ℕ) → IsTable table → (x : ℕ) → x < length table → entry_of table x < 2 ^ most_words
inside table t x l = omega (arith, t.fits, t.below x l)

-- the first n entries, which are below n
pub entry_taken : (n : ℕ) (table : List ℕ) (x : ℕ) → x < n → entry_of (take n table) x ≡ entry_of table x
entry_taken n table x l = get_or-take n table x 0 l

pub table_taken : (n : ℕ) (table : List ℕ) → 2 ^ fewest_words ≤ n → n ≤ 2 ^ most_words → n ≤ length table → ((x : ℕ) → x < n → entry_of table x < n) → IsTable (take n table)
table_taken n table large fits long below =
    let e : length (take n table) ≡ n = length-take-le n table long in
    record {
      large = omega arith;
      fits = omega arith;
      below = λ x l. omega (arith, below x (omega arith), entry_taken n table x (omega arith));
    }

-- maps with the same entries are excluded by the same places
pub excludes_same : (n : ℕ) (f g : ℕ → ℕ) → ((x : ℕ) → x < n → f x ≡ g x) → (P : ℕ → Bool) → Excludes n f P ↔ Excludes n g P
excludes_same n f g same P = (
  λ none h k. none h (record { below = k.below; agrees = λ x l m. k.agrees x l m ∙ sym (same x l) }),
  λ none h k. none h (record { below = k.below; agrees = λ x l m. k.agrees x l m ∙ same x l }),
)
