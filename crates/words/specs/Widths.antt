-- A width as the code holds it: n and 2^n - 1.
use Rattle.std.specs.Prelude.{◌≡◌, ℕ, ◌-◌, ◌^◌, ◌<◌, ◌≤◌}
use Rattle.tsc.specs.Constants.{widest_width}
use Rattle.words.specs.declared.arithmetic.Width.{Width}

abbrev pub width_of : ℕ → Width
width_of n = record { bits = n; low = 2 ^ n - 1 }

abbrev pub IsWidth : Width → Type 0
IsWidth w = (0 < w.bits) × (w.bits ≤ widest_width) × (w ≡ width_of w.bits)
