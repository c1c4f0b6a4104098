-- Periods of a sequence (document 02, Six).
use Rattle.std.specs.Prelude.{◌≡◌, ℕ, ◌+◌, ◌<◌}

-- a shift by d maps the sequence onto itself
abbrev pub Period : {A : Type 0} → (ℕ → A) → ℕ → Type 0
Period f d = (t : ℕ) → f (t + d) ≡ f t

-- a shift by N does, and no shift of 1 to N - 1
pub record LeastPeriod {A : Type 0} (f : ℕ → A) (N : ℕ) : Type 0 where
  pub positive : 0 < N
  pub period : Period f N
  pub least : (d : ℕ) → 0 < d → d < N → Period f d → ⊥
