-- A map of the numbers below N is a single cycle exactly where its first return from 0 to 0 comes after N applications.
use mathlib.Core.Path.{◌≡◌, refl, sym, ap, ◌∙◌}
use mathlib.Core.Logic.{◌↔◌, ◌≢◌}
use Prim.Native.Nat.{ℕ, zero, suc, ◌+◌, ◌-◌, ◌≤◌, ◌<◌}
use native.Mathlib.Decide.{ℕ_discrete}
use native.Mathlib.Omega.{arith}
use borrow.Author.Tests.{eq-eqb, ne_eqb}
use Rattle.cycle.specs.Notation.{iterate}
use Rattle.cycle.specs.Cycle.{SingleCycle, return_from, first_return}
use Rattle.cycle.proofs.Pigeonhole.{Repeats, surjective_of_injective}
use Rattle.cycle.proofs.Iterate.{MapsBelow, iterate-below}
use Rattle.cycle.proofs.Cycle.{return_between, visits_once}

-- ---- one more application

pub return_none : (f : ℕ → ℕ) (d t x : ℕ) → d ≡ 0 → return_from f d t x ≡ 0
unfolding return_from
return_none f d t x e = rw e

pub return_here : (f : ℕ → ℕ) (d t x : ℕ) → x ≡ 0 → return_from f (suc d) t x ≡ t
unfolding return_from
return_here f d t x e = simp (eq-eqb _ _ e)

pub return_later : (f : ℕ → ℕ) (d t x : ℕ) → x ≢ 0 → return_from f (suc d) t x ≡ return_from f d (suc t) (f x)
unfolding return_from
return_later f d t x ne = simp (ne_eqb _ _ ne)

-- ---- the first return, by what stands before it

-- f returns from 0 to 0 after N applications, and at no earlier count from t on
record ReturnsAt (f : ℕ → ℕ) (N t : ℕ) : Type 0 where
  at : iterate f N 0 ≡ 0
  before : (u : ℕ) → t ≤ u → u < N → iterate f u 0 ≢ 0

module _ (f : ℕ → ℕ) (N : ℕ) where
  returns_at : (d t : ℕ) → 0 < N → return_from f d t (iterate f t 0) ≡ N → ReturnsAt f N t
  unfolding iterate
  returns_at zero t pos h =
      let z : ◌≡◌ {A = ℕ} 0 N = sym (return_none f 0 t (iterate f t 0) refl) ∙ h in
      absurd (omega arith)
  returns_at (suc d) t pos h = go (ℕ_discrete (iterate f t 0) 0) (λ later. returns_at d (suc t) pos later)
    where
      go : Dec (iterate f t 0 ≡ 0) → (return_from f d (suc t) (iterate f (suc t) 0) ≡ N → ReturnsAt f N (suc t)) → ReturnsAt f N t
      go (yes e) ih =
          let tn : t ≡ N = sym (return_here f d t (iterate f t 0) e) ∙ h in
          record { at = ap (λ (u : ℕ). iterate f u 0) (sym tn) ∙ e; before = λ u l k. absurd (omega arith) }
      go (no ne) ih =
          let r = ih (sym (return_later f d t (iterate f t 0) ne) ∙ h) in
          record { at = r.at; before = λ u l k. first u l k (ℕ_discrete u t) r }
        where
          first : (u : ℕ) → t ≤ u → u < N → Dec (u ≡ t) → ReturnsAt f N (suc t) → iterate f u 0 ≢ 0
          first u l k (yes e) r = rw e ne
          first u l k (no n) r = r.before u (omega arith) k

  found_at : (d t : ℕ) → t ≤ N → d + t ≡ suc N → ReturnsAt f N t → return_from f d t (iterate f t 0) ≡ N
  unfolding iterate
  found_at zero t l e r = absurd (omega arith)
  found_at (suc d) t l e r = go (ℕ_discrete t N) (λ k q. found_at d (suc t) k (omega arith) q)
    where
      go : Dec (t ≡ N) → (suc t ≤ N → ReturnsAt f N (suc t) → return_from f d (suc t) (iterate f (suc t) 0) ≡ N) → return_from f (suc d) t (iterate f t 0) ≡ N
      go (yes q) ih = return_here f d t (iterate f t 0) (ap (λ (u : ℕ). iterate f u 0) q ∙ r.at) ∙ q
      go (no n) ih =
          return_later f d t (iterate f t 0) (r.before t (omega arith) (omega arith))
          ∙ ih (omega arith) (record { at = r.at; before = λ u a b. r.before u (omega arith) b })

  pub first_return_cycle : 0 < N → MapsBelow N f → (first_return f N ≡ N) ↔ SingleCycle N f 0
  unfolding first_return iterate
  first_return_cycle pos below = (forth, back)
    where
      forth : first_return f N ≡ N → SingleCycle N f 0
      forth h =
          let r = returns_at N 1 pos h in
          record {
            reaches = surjective_of_injective N (λ k. iterate f k 0) (λ k l. iterate-below N f below k 0 pos) (never r);
            returns = r.at;
          }
        where
          never : ReturnsAt f N 1 → Repeats N (λ k. iterate f k 0) → ⊥
          never r (i, j, lt, lj, e) =
              r.before (j - i) (omega arith) (omega arith) (return_between f 0 N pos r.at i j (omega arith) e)

      back : SingleCycle N f 0 → first_return f N ≡ N
      back c =
          found_at N 1 pos (omega arith)
          (record {
            at = c.returns;
            before = λ u l k e. let z : u ≡ 0 = visits_once N f 0 pos c u 0 k pos e in absurd (omega arith);
          })
