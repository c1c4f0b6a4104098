use mathlib.Core.Path.{◌≡◌, refl}
use Prim.Native.Nat.{◌-◌}
use native.Mathlib.Omega.{arith}
use borrow.Author.Rules.{rules}
use lib.ListN.{length, length-set, get_or-eq_default}
use lib.Seq.{take_all}
use Rattle.tsc.specs.Constants.{most_words}
use Rattle.words.proofs.Words.{below_next}
use Rattle.transposition.specs.Groups.{HasGroup}
use Rattle.transposition.proofs.Groups.{groups_all}
use Rattle.transposition.proofs.replace.replace_columns.Invariants.{replaced}
use Rattle.transposition.proofs.replace.replace_columns.Goals as goal

pub loop-g-init : goal.loop-g-init
loop-g-init c = (omega arith, refl, λ j l. absurd (omega arith))

pub loop-g-preserved : goal.loop-g-preserved
loop-g-preserved c = let a = c.args in
    let l = c.loop-g in
    let f = replaced a.powers.now.odd a.powers.now.even a.s.words a.selector a.low in
    let next = below_next (λ g x. HasGroup g x f) l.g c.group_of.result l.groups (omega arith) l.invariant.2 c.group_of.ensures in
    (omega arith, simp length-set l.invariant.1, next)

pub returns : goal.returns
returns c = let a = c.args in
    let l = c.loop-g in
    let f = replaced a.powers.now.odd a.powers.now.even a.s.words a.selector a.low in
    let ws = c.words_of.result.words in
    let all : length a.s.words ≡ most_words = search rules in
    let made : length ws ≡ most_words = search rules in
    record {
      columns = rw (take_all most_words a.s.words (omega arith)) (groups_all f l.groups ws (λ g h. l.invariant.2 g (omega arith)) c.words_of.ensures);
      others = λ k h. get_or-eq_default ws 0 {n = k} (omega arith);
    }
