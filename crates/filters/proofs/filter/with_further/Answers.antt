use mathlib.Core.Path.{◌≡◌, sym, ap, ◌∙◌}
use Prim.Native.Nat.{ℕ, ◌+◌, ◌-◌, ◌^◌, ◌<◌}
use native.Mathlib.Nat.{add-zero, mod-eq_of_lt}
use native.Mathlib.Omega.{arith}
use borrow.Author.Rules.{rules}
use lib.ListN.{get_or}
use Rattle.tsc.specs.Constants.{most_words, filter_words}
use Rattle.tsc.specs.Word.{◌⊞◌, further}
use Rattle.tsc.proofs.Word.{further-none}
use Rattle.filters.proofs.Rotated.{further_rotatable, further_next}
use Rattle.filters.proofs.filter.with_further.Goals as goal

-- a word of n bits with nothing added
plain : (n x : ℕ) → x < 2 ^ n → ◌⊞◌ n x 0 ≡ x
unfolding ◌⊞◌
plain n x l = rw add-zero (mod-eq_of_lt l)

pub loop-j-init : goal.loop-j-init
loop-j-init c = let a = c.args in
    let n = a.t.width.bits in
    let none = ap (◌⊞◌ n a.word) (further-none n (λ k. get_or a.s.words k 0)) in
    (omega arith, search rules, sym (none ∙ plain n a.word c.requires.has_further.1))

pub rotate_left-turned-requires : goal.rotate_left-turned-requires
rotate_left-turned-requires c = let j = c.loop-j.j in
    further_rotatable c.args.t c.requires.has_further.0 j (omega arith) _ (c.requires.by_index (filter_words + j) (omega arith))

pub add-sum-requires : goal.add-sum-requires
add-sum-requires c = c.requires.has_further.0.0

pub loop-j-preserved : goal.loop-j-preserved
loop-j-preserved c = let l = c.loop-j in (
  omega arith,
  l.invariant.1,
  further_next c.args.t c.requires.has_further.0 l.j (omega arith) (λ k. get_or c.args.s.words k 0) c.args.word l.sum _ _ l.invariant.2
      c.rotate_left-turned.ensures c.add-sum.ensures,
)

pub returns : goal.returns
returns c = let a = c.args in
    let n = a.t.width.bits in
    let l = c.loop-j in
    let all : l.j ≡ most_words - filter_words = omega arith in
    l.invariant.2 ∙ ap (λ (j : ℕ). ◌⊞◌ n a.word (further n (λ k. get_or a.s.words k 0) j)) all
