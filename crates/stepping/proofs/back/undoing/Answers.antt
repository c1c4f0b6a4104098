use mathlib.Core.Path.{◌≡◌, ap, ap₂, ◌∙◌}
use Prim.Native.Nat.{ℕ, ◌-◌, ◌%◌, ◌^◌}
use native.Mathlib.Nat.{mod-lt}
use native.Mathlib.Omega.{arith}
use lib.Pow.{pow_pos, pow_mono}
use Rattle.tsc.specs.Constants.{most_words}
use Rattle.words.specs.declared.arithmetic.Width.{Width}
use Rattle.words.proofs.Reduced.{width_is}
use Rattle.stepping.proofs.back.undoing.Goals as goal
use Rattle.stepping.proofs.back.undoing.Goals.{After-reduce}

-- whole rounds left out
reduced : (c : After-reduce) → let a = c.args in c.reduce.result ≡ a.times % 2 ^ a.m
reduced c = let times = c.args.times in c.reduce.ensures ∙ ap (λ (w : Width). times % 2 ^ w.bits) c.width_of.ensures

pub entries-requires : goal.entries-requires
entries-requires c = c.requires.1

pub overflow_cast-result : goal.overflow_cast-result
overflow_cast-result c = omega (arith, c.entries.ensures, pow_mono {i = c.args.m} {j = most_words} c.requires.1)

pub width_of-requires : goal.width_of-requires
width_of-requires c = (c.requires.0, omega (arith, c.requires.1))

pub reduce-requires : goal.reduce-requires
reduce-requires c = width_is _ _ c.requires.0 (omega (arith, c.requires.1)) c.width_of.ensures

pub overflow_sub-result : goal.overflow_sub-result
overflow_sub-result c = let a = c.args in
    omega (arith, c.entries.ensures, reduced c, mod-lt a.times (pow_pos a.m))

pub returns : goal.returns
returns c = ap₂ (λ (x y : ℕ). x - y) c.entries.ensures (reduced c)
