use Rattle.std.proofs.Common.{◌≡◌, sym, ap, ◌∙◌, ◌||◌, ◌^◌, ℕ, eqb, ltb, arith}
use Rattle.cycle.specs.Fair.{largest_multiple}
use Rattle.samples.specs.Samples.{most_taken}
use Rattle.sample.proofs.Passed.{passed_none, passed-holds, passed_next, passed_all}
use Rattle.sample.proofs.draw.rank_by.Goals as goal

-- the test of a word, by the card's width
by_width : (t w k : ℕ) {m n : ℕ} → m ≡ n → (eqb t most_taken || ltb w (largest_multiple (2 ^ m) k)) ≡ (eqb t most_taken || ltb w (largest_multiple (2 ^ n) k))
by_width t w k e = ap (λ (m : ℕ). eqb t most_taken || ltb w (largest_multiple (2 ^ m) k)) e

pub loop-drawn-init : goal.loop-drawn-init
loop-drawn-init g c = λ card a h e. passed_none _ _ _ _ h.1

pub next-drawn-requires : goal.next-drawn-requires
next-drawn-requires g c = let p = c.requires.answers in
    p.1.callable _ (passed-holds _ _ _ p.2.0 _ _ (c.loop-drawn.invariant p.0 p.1 p.2 p.3))

pub overflow_add-taken : goal.overflow_add-taken
overflow_add-taken g c = let p = c.requires.answers in
    let i = c.loop-drawn.invariant p.0 p.1 p.2 p.3 in omega (arith, i.over.few)

pub decides-requires : goal.decides-requires
decides-requires g c = (c.requires.several.0, c.requires.several.1)

pub nonzero_rem-result : goal.nonzero_rem-result
nonzero_rem-result g c = c.requires.several.1

pub loop-drawn-smaller : goal.loop-drawn-smaller
loop-drawn-smaller g c = let p = c.requires.answers in
    let i = c.loop-drawn.invariant p.0 p.1 p.2 p.3 in omega (arith, i.over.few)

pub loop-drawn-preserved : goal.loop-drawn-preserved
loop-drawn-preserved g c = let l = c.loop-drawn in
    λ card a h e. let i = l.invariant card a h e in
    let o = c.next-drawn.result in
    passed_next _ _ _ h.0 _ _ i o (a.output l.held o (passed-holds _ _ _ h.0 _ _ i) c.next-drawn.ensures) (by_width _ o.word _ e ∙ sym c.decides.ensures ∙ c.if-decides.false)

pub returns : goal.returns
returns g c = let l = c.loop-drawn in
    λ card a h e. let i = l.invariant card a h e in
    let o = c.next-drawn.result in
    passed_all _ _ _ h.0 _ _ i o (a.output l.held o (passed-holds _ _ _ h.0 _ _ i) c.next-drawn.ensures) c.requires.several.2
    (by_width _ o.word _ e ∙ sym c.decides.ensures ∙ c.if-decides.true)
