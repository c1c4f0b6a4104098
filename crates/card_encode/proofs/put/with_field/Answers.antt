use mathlib.Core.Path.{sym, ap, ◌∙◌}
use Prim.Native.Nat.{ℕ, ◌+◌, ◌^◌, ◌≤◌}
use native.Mathlib.Nat.{add-zero}
use native.Mathlib.Omega.{arith}
use lib.Pow.{pow_mono}
use Rattle.card_format.proofs.Fields.{one_shifted}
use Rattle.card_format.proofs.Writing.{length-field_bytes, extent-few}
use Rattle.card_encode.proofs.put.with_field.Goals as goal

pub returns-then-not-is_written : goal.returns-then-not-is_written
returns-then-not-is_written c = let a = c.args in
    let w = sym c.is_written.ensures ∙ c.if-not-is_written.true in record { map_value = rw w (sym (add-zero _)); length_value = rw (length-field_bytes a.card a.k, w) (sym (add-zero _)) }

pub overflow_add-result : goal.overflow_add-result
overflow_add-result c = let k = c.args.k in
    let p : 2 ^ k ≤ 2 ^ 7 = pow_mono {j = 7} (omega arith) in
    omega (arith, one_shifted k 8 (omega arith), p, c.requires)

pub overflow_add-result-2 : goal.overflow_add-result-2
overflow_add-result-2 c = let a = c.args in
    omega (
      arith,
      c.extent_of.ensures,
      extent-few a.card.words c.requires.k_lt_field_count.1 a.k
          c.requires.k_lt_field_count.0,
    )

pub returns : goal.returns
returns c = let a = c.args in
    let w = sym c.is_written.ensures ∙ c.if-not-is_written.false in record { map_value = rw w (ap (λ (p : ℕ). a.o.map + p) (one_shifted a.k 8 c.requires.k_lt_field_count.0)); length_value = rw (length-field_bytes a.card a.k, w) (ap (λ (n : ℕ). a.o.length + n) c.extent_of.ensures) }
