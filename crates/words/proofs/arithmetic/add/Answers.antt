use Rattle.std.proofs.Common.{ℕ, ◌+◌, ◌%◌, ◌^◌, ap, ◌∙◌}
use Rattle.tsc.specs.Word.{◌⊞◌}
use Rattle.cycle.proofs.Bits.{mod_pow_mod}
use Rattle.words.proofs.arithmetic.add.Goals as goal

pub reduce-requires : goal.reduce-requires
reduce-requires c = c.requires

pub returns : goal.returns
unfolding ◌⊞◌
returns c = let a = c.args in
    c.reduce.ensures ∙ ap (λ (m : ℕ). m % 2 ^ a.w.bits) c.wrapping_add_u32.ensures.value ∙ mod_pow_mod 32 a.w.bits (a.x + a.y) c.requires.1
