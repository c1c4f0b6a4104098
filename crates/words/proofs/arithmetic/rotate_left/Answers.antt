use Rattle.std.proofs.Common.{◌≡◌, ℕ, ◌+◌, ◌-◌, ◌*◌, ◌/◌, ◌%◌, ◌^◌, refl, ap, ◌∙◌, ap₂, mod-eq_of_lt, arith, pow_mono, shr-shr}
use Rattle.tsc.specs.Word.{◌⋘◌}
use Rattle.tsc.proofs.Word.{rotate_lt}
use Rattle.cycle.proofs.Bits.{mod_pow_mod}
use Rattle.words.proofs.arithmetic.rotate_left.Goals as goal
use Rattle.words.proofs.arithmetic.rotate_left.Goals.{After-struct_known-1}

-- the two parts of the rotated word, before they are added
turned : (c : After-struct_known-1) → let a = c.args in
    c.reduce.result + a.x / 2 / 2 ^ (a.w.bits - 1 - a.places) ≡ ◌⋘◌ a.w.bits a.x a.places
unfolding ◌⋘◌
turned c =
    let x = c.args.x in
    let n = c.args.w.bits in
    let k = c.args.places in
    let all : k % n ≡ k = mod-eq_of_lt c.requires.2 in
    let down : 1 + (n - 1 - k) ≡ n - k = omega (arith, c.requires.2) in
    ap₂ (λ (u v : ℕ). u + v) (c.reduce.ensures ∙ mod_pow_mod 32 n (x * 2 ^ k) c.requires.0.1) (shr-shr x 1 (n - 1 - k) ∙ ap (λ (d : ℕ). x / 2 ^ d) down)
    ∙ rw all refl

pub reduce-requires : goal.reduce-requires
reduce-requires c = c.requires.0

pub overflow_add-result : goal.overflow_add-result
overflow_add-result c = let a = c.args in
    omega (arith, turned c, rotate_lt a.w.bits a.x a.places c.requires.0.0 c.requires.1, pow_mono {i = a.w.bits} {j = 32} c.requires.0.1)

pub returns : goal.returns
returns c = turned c
