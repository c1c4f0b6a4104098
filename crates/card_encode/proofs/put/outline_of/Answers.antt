use mathlib.Core.Path.{◌≡◌, refl, sym, ap, ◌∙◌}
use mathlib.Core.Bool.{cond}
use Prim.Native.Nat.{ℕ, ◌+◌, ◌^◌}
use native.Mathlib.Numerals.{add-one}
use native.Mathlib.Omega.{arith}
use lib.ListN.{length}
use Rattle.cycle.specs.Notation.{sum}
use Rattle.tsc.specs.declared.Card.{Card}
use Rattle.card_format.specs.Fields.{field_count}
use Rattle.card_format.specs.Writing.{is_written, field_bytes, map_to, written_to}
use Rattle.card_format.proofs.Bytes.{map_lt}
use Rattle.card_format.proofs.Writing.{length_to, length_suc, length_before, written-short}
use Rattle.card_encode.proofs.put.outline_of.Goals as goal

map_suc : (card : Card) (k : ℕ) → map_to card (k + 1) ≡ map_to card k + cond (is_written card k) (2 ^ k) 0
unfolding sum
map_suc card k = ap (map_to card) (add-one k)

pub loop-k-init : goal.loop-k-init
unfolding sum written_to
loop-k-init c = (refl, refl)

pub with_field-o-requires : goal.with_field-o-requires
with_field-o-requires c = let l = c.loop-k in
    let card = c.args.card in
    let few = c.requires in record {
      k_lt_field_count = (omega arith, few);
      map_bound = (
        omega (arith, l.invariant.0, map_lt l.k (is_written card)),
        omega (arith, l.invariant.1, length_before card l.k field_count (omega arith), written-short card few),
      );
    }

pub loop-k-preserved : goal.loop-k-preserved
loop-k-preserved c = let l = c.loop-k in
    let card = c.args.card in
    let e = c.with_field-o.ensures in (
      e.map_value ∙ ap (λ (n : ℕ). n + cond (is_written card l.k) (2 ^ l.k) 0) l.invariant.0 ∙ sym (map_suc card l.k),
      e.length_value ∙ ap (λ (n : ℕ). n + length (field_bytes card l.k)) l.invariant.1 ∙ sym (length_suc card l.k),
    )

pub returns : goal.returns
returns c = let l = c.loop-k in
    let card = c.args.card in
    let e : l.k ≡ field_count = omega arith in record { map_value = l.invariant.0 ∙ ap (map_to card) e; length_value = l.invariant.1 ∙ ap (length_to card) e }
