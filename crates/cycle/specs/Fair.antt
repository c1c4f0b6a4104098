-- Fair ranks (document 02, Two): a number below M is passed over, or gives its remainder by k as the rank.
use Rattle.std.specs.Prelude.{Bool, ◌&&◌, ℕ, ◌-◌, ◌%◌, ltb, eqb}

-- L, the largest multiple of k not above M
abbrev pub largest_multiple : ℕ → ℕ → ℕ
largest_multiple M k = M - M % k

-- w is below L, and gives rank r
abbrev pub gives_rank : ℕ → ℕ → ℕ → ℕ → Bool
gives_rank M k r w = ltb w (largest_multiple M k) && eqb (w % k) r
