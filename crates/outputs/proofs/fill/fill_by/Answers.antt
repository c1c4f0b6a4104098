use Rattle.std.proofs.Common.{arith}
use Rattle.outputs.proofs.Written.{row-none, row-holds, row_next, row-all}
use Rattle.outputs.proofs.fill.fill_by.Goals as goal

pub loop-k-init : goal.loop-k-init
loop-k-init g c = row-none _ c.args.s c.args.count c.args.words.now c.requires.room (λ card p. p.1)

pub next-drawn-requires : goal.next-drawn-requires
next-drawn-requires g c =
    let l = c.loop-k in
    let p = c.requires.answers in
    p.1.callable l.held (row-holds _ c.args.s c.args.count c.args.words.now c.requires.room (λ card p. p.1) l.k l.held l.words l.invariant p.0 (p.1, p.2))

pub loop-k-preserved : goal.loop-k-preserved
loop-k-preserved g c =
    let l = c.loop-k in
    let e = c.next-drawn in
    row_next _ c.args.s c.args.count c.args.words.now c.requires.room (λ card p. p.1) l.k l.held l.words l.invariant (omega arith) e.result
    (λ card p. p.0.output l.held e.result (row-holds _ c.args.s c.args.count c.args.words.now c.requires.room (λ card p. p.1) l.k l.held l.words l.invariant card p) e.ensures)

pub returns : goal.returns
returns g c =
    let l = c.loop-k in
    λ card a h. row-all _ c.args.s c.args.count c.args.words.now c.requires.room (λ card p. p.1) l.k l.held l.words l.invariant (omega arith) card (a, h)
