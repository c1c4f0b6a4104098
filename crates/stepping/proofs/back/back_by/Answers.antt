use Rattle.std.proofs.Common.{refl, ap, arith}
use Rattle.tsc.specs.Coverage.{step_back}
use Rattle.words.specs.declared.arithmetic.Width.{Width}
use Rattle.stepping.specs.State.{used}
use Rattle.stepping.proofs.Built.{built_lt, back_none, back_next, back_all}
use Rattle.stepping.proofs.Columns.{terms_width}
use Rattle.stepping.proofs.back.back_by.Goals as goal

pub loop-i-init : goal.loop-i-init
loop-i-init g c = let a = c.args in
    back_none a.card a.terms a.powers.now.odd a.powers.now.even a.s c.requires.0 _ refl

pub selector_by-select-requires : goal.selector_by-select-requires
selector_by-select-requires g c = (terms_width c.args.card c.args.terms c.requires.0.accepted c.requires.0.selects, c.requires.2)

pub replace_column-found-requires : goal.replace_column-found-requires
replace_column-found-requires g c =
    let a = c.args in
    let width = terms_width a.card a.terms c.requires.0.accepted c.requires.0.selects in record {
      i_lt_widest_width = (omega (arith, width.1), c.requires.2);
      by_index = built_lt (step_back a.card (used a.card a.s)) c.loop-i.i c.loop-i.found c.loop-i.invariant;
    }

pub loop-i-preserved : goal.loop-i-preserved
loop-i-preserved g c = let l = c.loop-i in
    let a = c.args in
    let u = c.requires.0 in
    back_next a.card a.terms a.powers.now.odd a.powers.now.even a.s u _ l.i _ l.found _ c.requires.1 (omega (arith, ap (λ (w : Width). w.bits) u.selects.width))
    (c.selector_by-select.ensures a.card u.selects c.requires.1) l.invariant c.replace_column-found.ensures

pub returns : goal.returns
returns g c = let l = c.loop-i in
    let a = c.args in
    let u = c.requires.0 in
    back_all a.card a.terms a.powers.now.odd a.powers.now.even a.s u l.i l.found (omega (arith, ap (λ (w : Width). w.bits) u.selects.width)) l.invariant
