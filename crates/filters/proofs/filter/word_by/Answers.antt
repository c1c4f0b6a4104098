use mathlib.Core.Path.{◌≡◌, refl, sym, ap, ◌∙◌}
use Prim.Native.Nat.{ℕ, ◌-◌, ◌<◌}
use native.Mathlib.Omega.{arith}
use borrow.Author.Rules.{rules}
use borrow.Author.Tests.{lt-ltb}
use lib.ListN.{length, get_or}
use Rattle.tsc.specs.declared.Card.{Card}
use Rattle.tsc.specs.declared.State.{State}
use Rattle.tsc.specs.Constants.{most_words, filter_words}
use Rattle.tsc.specs.Word.{word}
use Rattle.tsc.proofs.Word.{filtered_lt, word-filtered}
use Rattle.filters.specs.declared.filter.Rotations.{Rotations}
use Rattle.filters.specs.Rotations.{Filters, HasFurther}
use Rattle.filters.proofs.filter.word_by.Goals as goal

-- what the rotations have of the card
module _ (card : Card) (t : Rotations) (s : State) (f : Filters card t s) where
  words : t.words ≡ card.words
  words = ap (λ (a : Rotations). a.words) f.rotations

  bits : t.width.bits ≡ card.width
  bits = ap (λ (a : Rotations). a.width.bits) f.rotations

  further_there : filter_words < card.words → HasFurther t
  further_there l = rw f.rotations ((f.width.0, f.width.1, refl), simp (lt-ltb filter_words card.words l) refl)

pub filtered_by-word-requires : goal.filtered_by-word-requires
filtered_by-word-requires c = c.requires

pub returns-then-t-le-FILTER_WORDS : goal.returns-then-t-le-FILTER_WORDS
returns-then-t-le-FILTER_WORDS c card f = c.filtered_by-word.ensures card f
    ∙ sym (word-filtered card c.args.s.words (λ k l. f.past k (omega (arith, words card c.args.t c.args.s f))))

pub with_further-requires : goal.with_further-requires
with_further-requires c = let card = c.requires.0 in
    let f = c.requires.1 in
    let e = bits card c.args.t c.args.s f in
    let x : ℕ → ℕ = λ k. get_or c.args.s.words k 0 in record { has_further = (further_there card c.args.t c.args.s f (omega (arith, words card c.args.t c.args.s f)), rw (e, c.filtered_by-word.ensures card f) (filtered_lt card x)); by_index = rw e f.words }

pub returns : goal.returns
unfolding word
returns c card f = let ws = c.args.s.words in
    let all : length ws ≡ most_words = search rules in
    let e = bits card c.args.t c.args.s f in
    c.with_further.ensures ∙ rw (e, c.filtered_by-word.ensures card f, all) refl
