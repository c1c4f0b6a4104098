use Rattle.std.proofs.Common.{rules, ◌≡◌, ℕ, ◌+◌, ◌*◌, ◌^◌, ◌<◌, length, sym, ap, ap₂, ◌∙◌, arith}
use Rattle.cycle.proofs.Bits.{bit_lt}
use Rattle.tsc.specs.Constants.{most_words}
use Rattle.tsc.specs.Columns.{column}
use Rattle.words.proofs.Words.{words-none, words_next}
use Rattle.columns.proofs.Placed.{column-few}
use Rattle.columns.proofs.column.column_of.Goals as goal
use Rattle.columns.proofs.column.column_of.Goals.{After-bit_of}

-- a column has a bit for each word: room enough for one more
few : (c : After-bit_of) → c.loop-k.c < 2 ^ most_words
few c =
    let a = c.args in
    rw c.loop-k.invariant (column-few a.i c.loop-k.k a.count a.s.words c.requires.1 (search rules))

pub loop-k-init : goal.loop-k-init
unfolding column
loop-k-init c = let a = c.args in
    let all : length a.s.words ≡ most_words = search rules in
    ap (column a.i) (sym (words-none a.count a.s.words (omega arith)))

pub overflow_mul-c : goal.overflow_mul-c
overflow_mul-c c = omega (arith, few c)

pub overflow_add-c : goal.overflow_add-c
overflow_add-c c = omega (arith, few c, c.bit_of.ensures, bit_lt c.args.i)

pub loop-k-preserved : goal.loop-k-preserved
unfolding column
loop-k-preserved c = let a = c.args in
    let l = c.loop-k in
    let all : length a.s.words ≡ most_words = search rules in
    ap₂ (λ (b d : ℕ). b + 2 * d) c.bit_of.ensures l.invariant ∙ ap (column a.i) (sym (words_next l.k a.count a.s.words (omega arith) (omega arith) (omega arith)))
