use Rattle.std.proofs.Common.{◌≡◌, ℕ, ◌^◌, ◌<◌, List, [], ◌∷◌, Bool, ◌&&◌, length, take, sym, refl, ap, ◌∙◌, arith}
use mathlib.Core.Logic.{◌≢◌}
use native.Mathlib.Decide.{dec_lt}
use borrow.Author.Tests.{ne_eqb}
use lib.Dec.{eqb}
use lib.Pointwise.{pointwise}
use lib.Pow.{pow-lt}
use lib.Seq.{length-take-le}
use Rattle.tsc.specs.Constants.{default_words, tsc1_table}
use Rattle.card_format.specs.Fields.{same}
use Rattle.card_format.proofs.Fields.{few-entries, same_not}
use Rattle.card_table.proofs.table.is_tsc1.Goals as goal

-- equal entry by entry
same_entries : (xs ys : List ℕ) → pointwise eqb xs ys ≡ same xs ys
unfolding same
same_entries [] [] = refl
same_entries [] (y ∷ ys) = refl
same_entries (x ∷ xs) [] = refl
same_entries (x ∷ xs) (y ∷ ys) = ap (λ (b : Bool). eqb x y && b) (same_entries xs ys)

other-size : (m : ℕ) → m ≢ default_words → 2 ^ m ≢ 2 ^ default_words
other-size m ne e = go (dec_lt m default_words)
  where
    go : Dec (m < default_words) → ⊥
    go (yes l) = let p : 2 ^ m < 2 ^ default_words = pow-lt l in omega arith
    go (no n) = let p : 2 ^ default_words < 2 ^ m = pow-lt {i = default_words} (omega arith) in omega arith

pub returns-then-m-eq-DEFAULT_WORDS : goal.returns-then-m-eq-DEFAULT_WORDS
returns-then-m-eq-DEFAULT_WORDS c =
    c.eq.ensures ∙ same_entries _ tsc1_table ∙ ap (λ (m : ℕ). same (take (2 ^ m) c.args.table.now) tsc1_table) (sym c.if-m-eq-DEFAULT_WORDS.true)

pub returns-else-m-eq-DEFAULT_WORDS : goal.returns-else-m-eq-DEFAULT_WORDS
returns-else-m-eq-DEFAULT_WORDS c =
    let a = c.args in
    let used = length-take-le (2 ^ a.m) a.table.now (omega (arith, few-entries a.m c.requires.0)) in
    ne_eqb a.m default_words c.if-m-eq-DEFAULT_WORDS.false
    ∙ sym (same_not _ _ (λ e. other-size a.m c.if-m-eq-DEFAULT_WORDS.false (sym used ∙ ap (λ (l : List ℕ). length l) e)))
