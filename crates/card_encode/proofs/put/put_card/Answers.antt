use Rattle.cycle.proofs.Lists.{length_front, part_rest, put_next, set_first, drop-set-first}
use mathlib.Core.Path.{◌≡◌, refl, sym, ap, ap₂, ◌∙◌}
use mathlib.Core.List.{List, ◌∷◌, ◌++◌}
use Prim.Native.Nat.{ℕ, ◌+◌, ◌-◌, ◌<◌, ◌≤◌}
use native.Mathlib.Omega.{arith}
use lib.ListN.{length, set, take, drop, length-set, length-drop}
use Rattle.tsc.specs.declared.Card.{Card}
use Rattle.card_format.specs.Fields.{field_count}
use Rattle.card_format.specs.Writing.{field_bytes, written_to, written}
use Rattle.card_format.proofs.Writing.{length_to, length_suc, written_to_suc, length_before, length_some}
use Rattle.card_encode.proofs.put.put_card.Invariants.{Front}
use Rattle.card_encode.proofs.put.put_card.Goals as goal

kept : (card : Card) (d page : List ℕ) (at k : ℕ) → Front card d page at k → length page ≡ length d
kept card d page at k h =
    ap (λ (p : List ℕ). length p) h.2 ∙ length_front (written_to card k) d at (sym h.1) (omega (arith, h.1, h.3, length_before card k field_count h.0))

-- there is room for field k
room : (card : Card) (d page : List ℕ) (at k : ℕ) → k < field_count → Front card d page at k → (at ≤ length page) × (at + length (field_bytes card k) ≤ length page)
room card d page at k l h =
    let n = kept card d page at k h in
    let t = length_before card (k + 1) field_count (omega arith) in
    (omega (arith, h.1, h.3, n, length_suc card k, t), omega (arith, h.1, h.3, n, length_suc card k, t))

pub bounds-page-0 : goal.bounds-page-0
bounds-page-0 c = omega (arith, c.requires.card_in_bounds, length_some c.args.card field_count)

pub loop-k-init : goal.loop-k-init
unfolding written_to
loop-k-init c = let a = c.args in
    let some : 0 < length a.page.now = omega (arith, c.requires.card_in_bounds, length_some a.card field_count) in (
      omega arith,
      refl,
      set_first a.page.now a.map some ∙ ap₂ (λ (x : ℕ) (r : List ℕ). x ∷ r) c.requires.card_value.1 (sym (drop-set-first a.page.now a.map 1 (omega arith))),
      omega (arith, length-set a.page.now 0 a.map, c.requires.card_in_bounds),
    )

pub put_field-at-requires : goal.put_field-at-requires
put_field-at-requires c = let l = c.loop-k in record {
  k_lt_field_count = (omega arith, c.requires.card_value.0);
  k_in_bounds = omega (
    arith,
    (room c.args.card _ l.page l.at l.k (omega arith) l.invariant).1,
    ap (λ (p : List ℕ). length p)
        (part_rest l.at l.page),
    length-drop l.at l.page,
  );
}

pub overflow_add-at : goal.overflow_add-at
overflow_add-at c = let l = c.loop-k in
    let a = c.args in
    omega (
      arith,
      c.put_field-at.ensures.value,
      (room a.card _ l.page l.at l.k (omega arith) l.invariant).1,
      kept a.card _ l.page l.at l.k l.invariant,
      length-set a.page.now 0 a.map,
    )

pub loop-k-preserved : goal.loop-k-preserved
loop-k-preserved c = let l = c.loop-k in
    let a = c.args in
    let card = a.card in
    let d = set a.page.now 0 a.map in
    let f = field_bytes card l.k in
    let e = c.put_field-at.ensures in (
      omega arith,
      ap₂ (λ (i j : ℕ). i + j) l.invariant.1 e.value ∙ sym (length_suc card l.k),
      ap (λ (v : List ℕ). take l.at l.page ++ (v ++ drop (length l.page - l.at) (drop l.at l.page))) e.part_after
          ∙ ap (λ (p : List ℕ). take l.at p ++ ((f ++ drop (length f) (take (length p - l.at) (drop l.at p))) ++ drop (length p - l.at) (drop l.at p))) l.invariant.2
          ∙ put_next (written_to card l.k) d f l.at (sym l.invariant.1)
          ∙ ap₂ (λ (w : List ℕ) (n : ℕ). w ++ drop n d) (sym (written_to_suc card l.k)) (ap (λ (n : ℕ). l.at + n) (sym e.value)),
      l.invariant.3,
    )

pub shape_of-page : goal.shape_of-page
shape_of-page c = let l = c.loop-k in
    let a = c.args in
    kept a.card _ l.page l.at l.k l.invariant ∙ length-set a.page.now 0 a.map

pub returns : goal.returns
returns c = let l = c.loop-k in
    let a = c.args in
    let card = a.card in
    let e : l.k ≡ field_count = omega arith in
    l.invariant.2 ∙ ap₂ (λ (w : List ℕ) (n : ℕ). w ++ drop n (set a.page.now 0 a.map)) (ap (written_to card) e) (l.invariant.1 ∙ ap (length_to card) e)
    ∙ ap (λ (r : List ℕ). written card ++ r) (drop-set-first a.page.now a.map (length_to card field_count) (length_some card field_count))
