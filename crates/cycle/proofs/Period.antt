-- Periods of a sequence: a multiple of a period is one, and so is the remainder of one period by another.
--   period-half        a period shorter than 2^e makes half of 2^e one: modulo 2^e some multiple of it is that half
--   least-period       2^e is the least exactly where the sequence somewhere differs from itself half of that on
use mathlib.Core.Path.{◌≡◌, sym, ap, ◌∙◌, subst}
use mathlib.Core.Logic.{◌↔◌, ◌≢◌}
use mathlib.Core.Bool.{Bool, not}
use Prim.Native.Nat.{ℕ, zero, suc, ◌+◌, ◌*◌, ◌/◌, ◌%◌, ◌^◌, ◌<◌}
use native.Mathlib.Nat.{add-zero, add_assoc, add_right_comm, zero-mul, suc-mul, pow-suc, mod-lt, mod-add-div'}
use native.Mathlib.Decide.{dec_lt}
use native.Mathlib.Omega.{arith}
use borrow.Author.Tests.{eqb-true, eqb-false, not-true, not-false}
use lib.Dec.{eqb}
use lib.Pow.{pow_pos}
use Rattle.cycle.specs.Notation.{first}
use Rattle.cycle.specs.Period.{Period, LeastPeriod}
use Rattle.cycle.proofs.First.{first_at, before-first}
use Rattle.cycle.proofs.Inverse.{half-multiple}

module _ {A : Type 0} (f : ℕ → A) where
  period-multiple : (d : ℕ) → Period f d → (k : ℕ) → Period f (k * d)
  period-multiple d p zero t = rw (zero-mul, add-zero)
  period-multiple d p (suc k) t = rw (suc-mul, ← add_assoc t (k * d) d) (p (t + k * d) ∙ period-multiple d p k t)

  period_remainder : (N a q : ℕ) → Period f N → Period f (a + q * N) → Period f a
  period_remainder N a q n p t = sym (period-multiple N n q (t + a)) ∙ ap f (add_assoc t a (q * N)) ∙ p t

  pub period-half : (e d : ℕ) → Period f (2 ^ e) → 0 < d → d < 2 ^ e → Period f d → Period f (2 ^ e / 2)
  period-half zero d n pos l p = absurd (omega arith)
  period-half (suc e) d n pos l p =
      let r = half-multiple e d pos l in
      let h : 2 ^ suc e / 2 ≡ 2 ^ e = omega (arith, pow-suc 2 e) in
      rw h (period_remainder (2 ^ suc e) (2 ^ e) r.1 n (subst (Period f) r.2 (period-multiple d p r.0)))

  -- a shift that maps the first N numbers of a sequence of period N onto themselves maps all
  period_of_round : (N d : ℕ) → 0 < N → Period f N → ((t : ℕ) → t < N → f (t + d) ≡ f t) → Period f d
  period_of_round N d pos n h t =
      let s : ℕ = t % N in
      let e : s + t / N * N ≡ t = mod-add-div' t N in
      ap (λ (a : ℕ). f (a + d)) (sym e) ∙ ap f (add_right_comm s (t / N * N) d) ∙ period-multiple N n (t / N) (s + d) ∙ h s (mod-lt t pos)
      ∙ sym (period-multiple N n (t / N) s) ∙ ap f e

pub least-period : (f : ℕ → ℕ) (e : ℕ) → 0 < e → Period f (2 ^ e) → LeastPeriod f (2 ^ e) ↔ ((t : ℕ) × (f t ≢ f (t + 2 ^ e / 2)))
least-period f zero pos n = absurd (omega arith)
least-period f (suc e) pos n = (forth, back)
  where
    N : ℕ
    N = 2 ^ suc e

    half : N / 2 ≡ 2 ^ e
    half = omega (arith, pow-suc 2 e)

    -- whether the sequence differs at t from itself half of N on, and where it first does
    differs : ℕ → Bool
    differs t = not (eqb (f t) (f (t + N / 2)))

    place : ℕ
    place = first N differs

    forth : LeastPeriod f N → (t : ℕ) × (f t ≢ f (t + N / 2))
    forth least = go (dec_lt place N)
      where
        go : Dec (place < N) → (t : ℕ) × (f t ≢ f (t + N / 2))
        go (yes l) = (place, eqb-false _ _ (not-true _ (first_at N differs l)))
        go (no l) =
            let p = period_of_round f N (N / 2) (pow_pos (suc e)) n (λ t lt. sym (eqb-true _ _ (not-false _ (before-first N differs t (omega arith))))) in
            absurd (least.least (N / 2) (omega (arith, half, pow_pos e)) (omega (arith, half, pow-suc 2 e, pow_pos e)) p)

    back : (t : ℕ) × (f t ≢ f (t + N / 2)) → LeastPeriod f N
    back (t, ne) = record { positive = pow_pos (suc e); period = n; least = λ d dpos l p. ne (sym (period-half f (suc e) d n dpos l p t)) }
