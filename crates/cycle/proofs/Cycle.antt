-- Single cycles: what makes a map one, each number comes once a round, and the start is free.
use mathlib.Core.Path.{◌≡◌, sym, ap, ◌∙◌}
use Prim.Native.Nat.{ℕ, suc, pred, ◌+◌, ◌-◌, ◌*◌, ◌/◌, ◌%◌, ◌≤◌, ◌<◌}
use native.Mathlib.Nat.{mul-suc, suc-mul, add_comm, add_left_comm, mod-lt, mod-add-div', suc-pred-eq_of_pos, le_refl}
use native.Mathlib.Decide.{dec_lt}
use native.Mathlib.Omega.{arith}
use Rattle.cycle.specs.Notation.{sum, iterate}
use Rattle.cycle.specs.Cycle.{SingleCycle}
use Rattle.cycle.proofs.Pigeonhole.{le_of_surjective, pigeonhole, sum_permute}
use Rattle.cycle.proofs.Iterate.{iterate_add, iterate_rounds, iterate_mod, MapsBelow, iterate-below, iterate_agree}

-- from z, f comes by every number below N
abbrev pub Reaches : ℕ → (ℕ → ℕ) → ℕ → Type 0
Reaches N f z = (x : ℕ) → x < N → (k : ℕ) × (iterate f k z ≡ x)

-- maps that are the same below N are single cycles together
pub cycle-same : (N : ℕ) (f g : ℕ → ℕ) → 0 < N → MapsBelow N f → ((x : ℕ) → x < N → g x ≡ f x) → SingleCycle N f 0 → SingleCycle N g 0
cycle-same N f g pos below same c =
    record { reaches = λ x l. let (k, lk, e) = c.reaches x l in (k, lk, way k (omega arith) ∙ e); returns = way N (le_refl N) ∙ c.returns }
  where
    way : (k : ℕ) → k ≤ N → iterate g k 0 ≡ iterate f k 0
    way = iterate_agree f g N 0 (λ k l. same (iterate f k 0) (iterate-below N f below k 0 pos))

-- it returns no sooner than after N applications
pub le_of_reaches : (N : ℕ) (f : ℕ → ℕ) (z p : ℕ) → Reaches N f z → iterate f p z ≡ z → 0 < p → N ≤ p
le_of_reaches N f z p r back pos =
    le_of_surjective p N (λ k. iterate f k z) (λ x l.
    ((r x l).0 % p, mod-lt (r x l).0 pos, iterate_mod f p z back (r x l).0 ∙ (r x l).1))

-- where z returns at all, from z through k applications it can be completed to a return
pub home : (f : ℕ → ℕ) (z M : ℕ) → 0 < M → iterate f M z ≡ z → (k : ℕ) → iterate f (k * pred M) (iterate f k z) ≡ z
home f z M pos back k =
    let e : k * pred M + k ≡ k * M = sym (mul-suc k (pred M)) ∙ ap (λ (x : ℕ). k * x) (suc-pred-eq_of_pos pos) in
    sym (iterate_add f (k * pred M) k z) ∙ ap (λ (x : ℕ). iterate f x z) e ∙ iterate_rounds f M z back k

-- and a number that comes again d applications later makes z return after d
pub return_of_repeat : (f : ℕ → ℕ) (z M : ℕ) → 0 < M → iterate f M z ≡ z → (i d : ℕ) → iterate f i z ≡ iterate f (d + i) z → iterate f d z ≡ z
return_of_repeat f z M pos back i d e =
    ap (iterate f d) (sym (home f z M pos back i)) ∙ ap (iterate f d) (sym (iterate_add f (i * pred M) i z)) ∙ sym (iterate_add f d (i * pred M + i) z)
    ∙ ap (λ (x : ℕ). iterate f x z) (add_left_comm d (i * pred M) i) ∙ iterate_add f (i * pred M) (d + i) z
    ∙ ap (iterate f (i * pred M)) (sym e) ∙ home f z M pos back i

-- the same for two numbers of applications: z returns after as many as lie between
pub return_between : (f : ℕ → ℕ) (z M : ℕ) → 0 < M → iterate f M z ≡ z → (i j : ℕ) → i ≤ j → iterate f i z ≡ iterate f j z → iterate f (j - i) z ≡ z
return_between f z M pos back i j ij e =
    let ji : (j - i) + i ≡ j = omega arith in
    return_of_repeat f z M pos back i (j - i) (e ∙ ap (λ (x : ℕ). iterate f x z) (sym ji))

-- a map that reaches all N numbers and returns after N applications is a single cycle
pub cycle_of_return : (N : ℕ) (f : ℕ → ℕ) (z : ℕ) → 0 < N → Reaches N f z → iterate f N z ≡ z → SingleCycle N f z
cycle_of_return N f z pos r back =
    record {
      reaches = λ x l. ((r x l).0 % N, mod-lt (r x l).0 pos, iterate_mod f N z back (r x l).0 ∙ (r x l).1);
      returns = back;
    }

-- so is one of the numbers below N that reaches all of them and returns at all
pub cycle_of_reaches : (N : ℕ) (f : ℕ → ℕ) (z M : ℕ) → MapsBelow N f → z < N → Reaches N f z → 0 < M → iterate f M z ≡ z → SingleCycle N f z
cycle_of_reaches N f z M below l r pos back =
    let p = pigeonhole N (λ k. iterate f k z) (λ k j. iterate-below N f below k z l) in
    let i : ℕ = p.0 in
    let j : ℕ = p.1 in
    let lt : i < j = p.2 in
    let top : j < suc N = p.3 in
    let c : iterate f (j - i) z ≡ z = return_between f z M pos back i j (omega arith) p.4 in
    let le : N ≤ j - i = le_of_reaches N f z (j - i) r c (omega arith) in
    let dn : j - i ≡ N = omega arith in
    cycle_of_return N f z (omega arith) r (ap (λ (x : ℕ). iterate f x z) (sym dn) ∙ c)

module _ (N : ℕ) (f : ℕ → ℕ) (z : ℕ) (pos : 0 < N) (c : SingleCycle N f z) where
  pub cycle-reaches : Reaches N f z
  cycle-reaches x l = ((c.reaches x l).0, (c.reaches x l).2)

  no_repeat : (i j : ℕ) → i < j → j < N → iterate f i z ≡ iterate f j z → ⊥
  no_repeat i j lt l e =
      let h : iterate f (j - i) z ≡ z = return_between f z N pos c.returns i j (omega arith) e in
      let le : N ≤ j - i = le_of_reaches N f z (j - i) cycle-reaches h (omega arith) in
      omega arith

  pub visits_once : (i j : ℕ) → i < N → j < N → iterate f i z ≡ iterate f j z → i ≡ j
  visits_once i j li lj e = go (dec_lt i j) (dec_lt j i)
    where
      go : Dec (i < j) → Dec (j < i) → i ≡ j
      go (yes p) q = absurd (no_repeat i j p lj e)
      go (no p) (yes q) = absurd (no_repeat j i q li (sym e))
      go (no p) (no q) = omega arith

  -- it does not matter where it starts
  pub cycle_from : (w : ℕ) → w < N → SingleCycle N f w
  cycle_from w l =
      let k : ℕ = (c.reaches w l).0 in
      let kw : iterate f k z ≡ w = (c.reaches w l).2 in
      let back : iterate f N w ≡ w =
      ap (iterate f N) (sym kw) ∙ sym (iterate_add f N k z) ∙ ap (λ (x : ℕ). iterate f x z) (add_comm N k) ∙ iterate_add f k N z
      ∙ ap (iterate f k) c.returns ∙ kw in
      let zw : iterate f (k * pred N) w ≡ z = ap (iterate f (k * pred N)) (sym kw) ∙ home f z N pos c.returns k in
      cycle_of_return N f w pos (λ x lx.
      let r = c.reaches x lx in
      (r.0 + k * pred N, iterate_add f r.0 (k * pred N) w ∙ ap (iterate f r.0) zw ∙ r.2)) back

  -- k applications are undone by so many more that whole rounds are made
  pub cycle_undo : (k x : ℕ) → x < N → iterate f (N - k % N) (iterate f k x) ≡ x
  cycle_undo k x l =
      let rounds : N - k % N + k ≡ suc (k / N) * N = omega (arith, mod-add-div' k N, mod-lt k pos, suc-mul (k / N) N) in
      sym (iterate_add f (N - k % N) k x) ∙ ap (λ (t : ℕ). iterate f t x) rounds ∙ iterate_rounds f N x (cycle_from x l).returns (suc (k / N))

  -- a sum along one round is the sum over all numbers below N
  pub sum_around : MapsBelow N f → z < N → (h : ℕ → ℕ) → sum N (λ k. h (iterate f k z)) ≡ sum N h
  sum_around below l h = sum_permute N (λ k. iterate f k z) h (λ k j. iterate-below N f below k z l) c.reaches
