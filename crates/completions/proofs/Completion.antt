-- The entries at some places rule out a single cycle exactly where two of them are the same or some of them make a shorter cycle:
-- otherwise the paths that they make are laid end to end, entry by entry, till one place is left, whose entry closes the ring.
use mathlib.Core.Path.{◌≡◌, refl, sym, ap, ◌∙◌}
use mathlib.Core.Logic.Dec
use mathlib.Core.Logic.{◌↔◌, ◌⊎◌, ◌≢◌, inl, inr}
use mathlib.Core.Bool.{Bool, true, false, not, cond, ◌||◌, true≢false, Bool-discrete}
use Prim.Native.Nat.{ℕ, zero, suc, pred, ◌+◌, ◌-◌, ◌*◌, ◌%◌, ◌≤◌, ◌<◌}
use native.Mathlib.Nat.{le_refl}
use native.Mathlib.Decide.{ℕ_discrete, dec_lt, map_dec}
use native.Mathlib.Omega.{arith}
use borrow.Author.Tests.{eq-eqb, ne_eqb}
use lib.Dec.{eqb}
use Rattle.cycle.specs.Notation.{iterate, count}
use Rattle.cycle.specs.Cycle.{SingleCycle}
use Rattle.completions.specs.Completion.{Keeps, Excludes, RepeatIn, ShortCycleIn, Injective}
use Rattle.completions.proofs.Search.{First, None, search_first, some_dec, all_dec}
use Rattle.cycle.proofs.Count.{count_pos, count_less}
use Rattle.cycle.proofs.Pigeonhole.{le_of_surjective, surjective_of_injective, pigeonhole}
use Rattle.cycle.proofs.Iterate.{iterate_add, MapsBelow, iterate-below, iterate_agree}
use Rattle.cycle.proofs.Cycle.{Reaches, le_of_reaches, home, cycle_of_reaches, cycle-reaches, cycle_from, cycle_undo}

-- ---- tests

differ : (P : ℕ → Bool) {x y : ℕ} → P x ≡ true → P y ≡ false → x ≢ y
differ P h g e = true≢false (sym h ∙ ap P e ∙ g)

true_of : (b : Bool) → b ≢ false → b ≡ true
true_of true h = refl
true_of false h = absurd (h refl)

-- ---- what rules a single cycle out

module _ (N : ℕ) (f : ℕ → ℕ) (P : ℕ → Bool) where
  pub excluded_by_repeat : 0 < N → RepeatIn N f P → Excludes N f P
  unfolding iterate
  excluded_by_repeat pos r g c s =
      let i : ℕ = r.one in
      let j : ℕ = r.other in
      let ij : i < j = r.apart in
      let jN : j < N = r.below in
      let iN : i < N = omega arith in
      let e : g i ≡ g j = c.agrees i iN r.one_in ∙ r.same ∙ sym (c.agrees j jN r.other_in) in
      let q : i ≡ j = sym (cycle_undo N g 0 pos s 1 i iN) ∙ ap (iterate g (N - 1 % N)) e ∙ cycle_undo N g 0 pos s 1 j jN in
      omega arith

  pub excluded_by_cycle : MapsBelow N f → ShortCycleIn N f P → Excludes N f P
  excluded_by_cycle below r g c s =
      let x : ℕ = r.start in
      let xN : x < N = r.below in
      let same : iterate g r.size x ≡ iterate f r.size x =
      iterate_agree f g r.size x (λ k l. c.agrees (iterate f k x) (iterate-below N f below k x xN) (r.inside k l)) r.size (le_refl r.size) in
      let all : N ≤ r.size =
      le_of_reaches N g x r.size (cycle-reaches N g x (omega arith) (cycle_from N g 0 (omega arith) s x xN)) (same ∙ r.returns) r.some in
      omega (arith, r.short)

-- ---- a map that repeats no entry

module _ (N : ℕ) (f : ℕ → ℕ) (below : MapsBelow N f) (inj : Injective N f) where
  pub iterate_injective : (i x y : ℕ) → x < N → y < N → iterate f i x ≡ iterate f i y → x ≡ y
  unfolding iterate
  iterate_injective zero x y xN yN e = e
  iterate_injective (suc i) x y xN yN e =
      iterate_injective i x y xN yN (inj (iterate f i x) (iterate f i y) (iterate-below N f below i x xN) (iterate-below N f below i y yN) e)

  -- a place that comes again returns
  pub return_again : (i j z : ℕ) → i ≤ j → z < N → iterate f i z ≡ iterate f j z → iterate f (j - i) z ≡ z
  return_again i j z ij zN e =
      let ji : i + (j - i) ≡ j = omega arith in
      iterate_injective i (iterate f (j - i) z) z (iterate-below N f below (j - i) z zN) zN
      (sym (iterate_add f i (j - i) z) ∙ ap (λ (k : ℕ). iterate f k z) ji ∙ sym e)

  return_of_injective : (z : ℕ) → z < N → (M : ℕ) × (0 < M) × (iterate f M z ≡ z)
  return_of_injective z zN =
      let (i, j, ij, jN, e) = pigeonhole N (λ k. iterate f k z) (λ k l. iterate-below N f below k z zN) in
      (j - i, omega arith, return_again i j z (omega arith) zN e)

-- different places of P have different entries, where none of them is repeated
pub once_of_none : (N : ℕ) (f : ℕ → ℕ) (P : ℕ → Bool) → (RepeatIn N f P → ⊥) → (i j : ℕ) → i < N → j < N → P i ≡ true → P j ≡ true → f i ≡ f j → i ≡ j
once_of_none N f P r i j iN jN hi hj q = go (dec_lt i j) (dec_lt j i)
  where
    go : Dec (i < j) → Dec (j < i) → i ≡ j
    go (yes l) d = absurd (r (record { one = i; other = j; apart = l; below = jN; one_in = hi; other_in = hj; same = q }))
    go (no l) (yes m) = absurd (r (record { one = j; other = i; apart = m; below = iN; one_in = hj; other_in = hi; same = sym q }))
    go (no l) (no m) = omega arith

-- ---- a way that stays in P and makes no short cycle comes by every place

module _ (N : ℕ) (f : ℕ → ℕ) (P : ℕ → Bool) (below : MapsBelow N f) (z : ℕ) (zN : z < N) (stays : (k : ℕ) → k < N → P (iterate f k z) ≡ true) where
  short-cycle : (i j : ℕ) → i < j → j ≤ N → j - i < N → iterate f i z ≡ iterate f j z → ShortCycleIn N f P
  short-cycle i j ij jN s e =
      let ji : (j - i) + i ≡ j = omega arith in
      record {
        start = iterate f i z;
        size = j - i;
        below = iterate-below N f below i z zN;
        some = omega arith;
        short = s;
        returns = sym (iterate_add f (j - i) i z) ∙ ap (λ (k : ℕ). iterate f k z) ji ∙ sym e;
        inside = λ k l. ap P (sym (iterate_add f k i z)) ∙ stays (k + i) (omega arith);
      }

  comes_by : (ShortCycleIn N f P → ⊥) → (x : ℕ) → x < N → (k : ℕ) × (k < N) × (iterate f k z ≡ x)
  comes_by d =
      surjective_of_injective N (λ k. iterate f k z) (λ k l. iterate-below N f below k z zN) (λ r.
      let ij : r.0 < r.1 = r.2 in let jN : r.1 < N = r.3 in
      d (short-cycle r.0 r.1 ij (omega arith) (omega arith) r.4))

-- so where P is every place, f itself is a single cycle
pub cycle_of_whole : (N : ℕ) (f : ℕ → ℕ) (P : ℕ → Bool) → 0 < N → MapsBelow N f → ((x : ℕ) → x < N → P x ≡ true) → (ShortCycleIn N f P → ⊥) → SingleCycle N f 0
unfolding iterate
cycle_of_whole N f P pos below whole d =
    let r = met (iterate f N 0) (iterate-below N f below N 0 pos) in
    go r.0 r.1 r.2 (ℕ_discrete r.0 0)
  where
    stays : (k : ℕ) → k < N → P (iterate f k 0) ≡ true
    stays k l = whole (iterate f k 0) (iterate-below N f below k 0 pos)

    met : (x : ℕ) → x < N → (k : ℕ) × (k < N) × (iterate f k 0 ≡ x)
    met = comes_by N f P below 0 pos stays d

    go : (i : ℕ) → i < N → iterate f i 0 ≡ iterate f N 0 → Dec (i ≡ 0) → SingleCycle N f 0
    go i l e (yes z) = record { reaches = met; returns = sym e ∙ ap (λ (k : ℕ). iterate f k 0) z }
    go i l e (no nz) = absurd (d (short-cycle N f P below 0 pos stays i N l (le_refl N) (omega arith) e))

-- ---- a map whose ways all end outside P, and one more entry

-- y is the entry of a place of P
abbrev Taken : ℕ → (ℕ → ℕ) → (ℕ → Bool) → ℕ → Type 0
Taken N f P y = (v : ℕ) × (v < N) × ((P v ≡ true) × (f v ≡ y))

taken_dec : (N : ℕ) (f : ℕ → ℕ) (P : ℕ → Bool) (y : ℕ) → Dec (Taken N f P y)
taken_dec N f P y = some_dec (λ v. (P v ≡ true) × (f v ≡ y)) (λ v. Dec.and (Bool-discrete (P v) true) (ℕ_discrete (f v) y)) N

-- where a place is outside P, some number is not taken
free : (N : ℕ) (f : ℕ → ℕ) (P : ℕ → Bool) (e : ℕ) → e < N → P e ≡ false → (y : ℕ) × (y < N) × (Taken N f P y → ⊥)
free N f P e eN out = go (search_first (λ y. Taken N f P y → ⊥) (λ y. Dec.not (taken_dec N f P y)) N)
  where
    go : First (λ y. Taken N f P y → ⊥) N ⊎ None (λ y. Taken N f P y → ⊥) N → (y : ℕ) × (y < N) × (Taken N f P y → ⊥)
    go (inl (y, l, h, b)) = (y, l, h)
    go (inr none) =
        let over : suc N ≤ N = le_of_surjective N (suc N) (λ v. cond (P v) (f v) N) (λ x l. at x l (ℕ_discrete x N) (taken_dec N f P x)) in
        absurd (omega arith)
      where
        at : (x : ℕ) → x < suc N → Dec (x ≡ N) → Dec (Taken N f P x) → (k : ℕ) × (k < N) × (cond (P k) (f k) N ≡ x)
        at x l (yes q) t = (e, eN, ap (λ (b : Bool). cond b (f e) N) out ∙ sym q)
        at x l (no q) (yes (v, lv, h)) = (v, lv, ap (λ (b : Bool). cond b (f v) N) h.0 ∙ h.1)
        at x l (no q) (no t) = absurd (none x (omega arith) t)

-- f with the entry y at x, and P with x
put : (ℕ → ℕ) → ℕ → ℕ → ℕ → ℕ
put f x y v = cond (eqb v x) y (f v)

add : (ℕ → Bool) → ℕ → ℕ → Bool
add P x v = eqb v x || P v

put_here : (f : ℕ → ℕ) (x y v : ℕ) → v ≡ x → put f x y v ≡ y
unfolding put
put_here f x y v e = rw (eq-eqb v x e)

put_other : (f : ℕ → ℕ) (x y v : ℕ) → v ≢ x → put f x y v ≡ f v
unfolding put
put_other f x y v ne = rw (ne_eqb v x ne)

add_here : (P : ℕ → Bool) (x v : ℕ) → v ≡ x → add P x v ≡ true
unfolding add
add_here P x v e = rw (eq-eqb v x e)

add_other : (P : ℕ → Bool) (x v : ℕ) → v ≢ x → add P x v ≡ P v
unfolding add
add_other P x v ne = rw (ne_eqb v x ne)

-- from z, f comes to a place outside P, and is at places of P till then
abbrev Ends : (ℕ → ℕ) → (ℕ → Bool) → ℕ → Type 0
Ends f P z = (k : ℕ) × (P (iterate f k z) ≡ false) × ((j : ℕ) → j < k → P (iterate f j z) ≡ true)

-- the entries at P are different, and from every place f comes out of P
record Open (N : ℕ) (f : ℕ → ℕ) (P : ℕ → Bool) : Type 0 where
  below : MapsBelow N f
  once : (i j : ℕ) → i < N → j < N → P i ≡ true → P j ≡ true → f i ≡ f j → i ≡ j
  ends : (z : ℕ) → z < N → Ends f P z

abbrev Outside : (ℕ → ℕ) → (ℕ → Bool) → ℕ → ℕ → Type 0
Outside f P z k = P (iterate f k z) ≡ false

ends_or_stays : (f : ℕ → ℕ) (P : ℕ → Bool) (z n : ℕ) → Ends f P z ⊎ ((k : ℕ) → k < n → P (iterate f k z) ≡ true)
ends_or_stays f P z n = go (search_first (Outside f P z) (λ k. Bool-discrete (P (iterate f k z)) false) n)
  where
    go : First (Outside f P z) n ⊎ None (Outside f P z) n → Ends f P z ⊎ ((k : ℕ) → k < n → P (iterate f k z) ≡ true)
    go (inl (k, l, h, b)) = inl (k, h, λ j lj. true_of (P (iterate f j z)) (b j lj))
    go (inr none) = inr (λ k l. true_of (P (iterate f k z)) (none k l))

ends_of : (f : ℕ → ℕ) (P : ℕ → Bool) (z k : ℕ) → P (iterate f k z) ≡ false → Ends f P z
ends_of f P z k h = go (ends_or_stays f P z (suc k))
  where
    go : Ends f P z ⊎ ((j : ℕ) → j < suc k → P (iterate f j z) ≡ true) → Ends f P z
    go (inl r) = r
    go (inr stays) = absurd (true≢false (sym (stays k (le_refl (suc k))) ∙ h))

-- so it is where P leaves a place out, repeats no entry and has no short cycle
open_of_outside : (N : ℕ) (f : ℕ → ℕ) (P : ℕ → Bool) → MapsBelow N f → (RepeatIn N f P → ⊥) → (ShortCycleIn N f P → ⊥) → (e : ℕ) → e < N → P e ≡ false → Open N f P
open_of_outside N f P below r d e eN out =
    record { below = below; once = once_of_none N f P r; ends = λ z zN. go z zN (ends_or_stays f P z N) }
  where
    go : (z : ℕ) → z < N → Ends f P z ⊎ ((k : ℕ) → k < N → P (iterate f k z) ≡ true) → Ends f P z
    go z zN (inl r) = r
    go z zN (inr stays) = let r = comes_by N f P below z zN stays d e eN in ends_of f P z r.0 (ap P r.2 ∙ out)

module _ (N : ℕ) (f : ℕ → ℕ) (P : ℕ → Bool) (o : Open N f P) (x y : ℕ) (xN : x < N) (yN : y < N) (out : P x ≡ false) (untaken : Taken N f P y → ⊥) where
  put_below : MapsBelow N (put f x y)
  put_below v l = go (ℕ_discrete v x)
    where
      go : Dec (v ≡ x) → put f x y v < N
      go (yes e) = rw (put_here f x y v e) yN
      go (no ne) = rw (put_other f x y v ne) (o.below v l)

  put_in : (v : ℕ) → P v ≡ true → put f x y v ≡ f v
  put_in v h = put_other f x y v (differ P h out)

  put_once : (i j : ℕ) → i < N → j < N → add P x i ≡ true → add P x j ≡ true → put f x y i ≡ put f x y j → i ≡ j
  put_once i j iN jN hi hj e = go (ℕ_discrete i x) (ℕ_discrete j x)
    where
      -- y is x's entry only
      alone : (i j : ℕ) → j < N → add P x j ≡ true → put f x y i ≡ put f x y j → i ≡ x → j ≢ x → ⊥
      alone i j jN hj e p q = untaken (j, jN, (sym (add_other P x j q) ∙ hj, sym (put_other f x y j q) ∙ sym e ∙ put_here f x y i p))

      go : Dec (i ≡ x) → Dec (j ≡ x) → i ≡ j
      go (yes p) (yes q) = p ∙ sym q
      go (yes p) (no q) = absurd (alone i j jN hj e p q)
      go (no p) (yes q) = absurd (alone j i iN hi (sym e) q p)
      go (no p) (no q) =
          o.once i j iN jN (sym (add_other P x i p) ∙ hi) (sym (add_other P x j q) ∙ hj) (sym (put_other f x y i p) ∙ e ∙ put_other f x y j q)

  put_way : (z k : ℕ) → ((j : ℕ) → j < k → P (iterate f j z) ≡ true) → (j : ℕ) → j ≤ k → iterate (put f x y) j z ≡ iterate f j z
  put_way z k h = iterate_agree f (put f x y) k z (λ j l. put_in (iterate f j z) (h j l))

  -- the way from y ends at another place than x: the ways still end
  put_open : iterate f (o.ends y yN).0 y ≢ x → Open N (put f x y) (add P x)
  unfolding iterate
  put_open far = record { below = put_below; once = put_once; ends = λ z zN. go z (o.ends z zN) (ℕ_discrete (iterate f (o.ends z zN).0 z) x) }
    where
      go : (z : ℕ) (r : Ends f P z) → Dec (iterate f r.0 z ≡ x) → Ends (put f x y) (add P x) z
      go z (k, h, b) (no ne) =
          ends_of (put f x y) (add P x) z k (ap (add P x) (put_way z k b k (le_refl k)) ∙ add_other P x (iterate f k z) ne ∙ h)
      go z (k, h, b) (yes e) =
          let (m, q, c) = o.ends y yN in
          let here : iterate (put f x y) (suc k) z ≡ y = put_here f x y (iterate (put f x y) k z) (put_way z k b k (le_refl k) ∙ e) in
          let last : iterate (put f x y) (m + suc k) z ≡ iterate f m y =
          iterate_add (put f x y) m (suc k) z ∙ ap (iterate (put f x y) m) here ∙ put_way y m c m (le_refl m) in
          ends_of (put f x y) (add P x) z (m + suc k) (ap (add P x) last ∙ add_other P x (iterate f m y) far ∙ q)

  -- x is the only place outside P: the ways all lead to it, and now beyond it
  module _ (only : (v : ℕ) → v < N → P v ≡ false → v ≡ x) where
    add_whole : (v : ℕ) → v < N → add P x v ≡ true
    add_whole v l = true_of (add P x v) (λ h. go h (ℕ_discrete v x))
      where
        go : add P x v ≡ false → Dec (v ≡ x) → ⊥
        go h (yes q) = true≢false (sym (add_here P x v q) ∙ h)
        go h (no q) = q (only v l (sym (add_other P x v q) ∙ h))

    put_returns : (z : ℕ) → z < N → (M : ℕ) × (0 < M) × (iterate (put f x y) M z ≡ z)
    put_returns = return_of_injective N (put f x y) put_below (λ i j iN jN. put_once i j iN jN (add_whole i iN) (add_whole j jN))

    put_closes : SingleCycle N (put f x y) 0
    put_closes =
        let (M, pos, back) = put_returns x xN in
        cycle_from N (put f x y) x (omega arith) (cycle_of_reaches N (put f x y) x M put_below xN reach pos back) 0 (omega arith)
      where
        reach : Reaches N (put f x y) x
        reach z zN =
            let (k, h, b) = o.ends z zN in
            let (M, pos, back) = put_returns z zN in
            let there : iterate (put f x y) k z ≡ x = put_way z k b k (le_refl k) ∙ only (iterate f k z) (iterate-below N f o.below k z zN) h in
            (k * pred M, ap (iterate (put f x y) (k * pred M)) (sym there) ∙ home (put f x y) z M pos back k)

-- a completion of the larger set is one of P
put_keeps : (N : ℕ) (f : ℕ → ℕ) (P : ℕ → Bool) (x y : ℕ) → P x ≡ false → (g : ℕ → ℕ) → Keeps N (put f x y) (add P x) g → Keeps N f P g
put_keeps N f P x y out g c =
    record {
      below = c.below;
      agrees = λ v l h. let ne : v ≢ x = differ P h out in c.agrees v l (add_other P x v ne ∙ h) ∙ put_other f x y v ne;
    }

-- ---- all places

-- a completion that is a single cycle
abbrev Completed : ℕ → (ℕ → ℕ) → (ℕ → Bool) → Type 0
Completed N f P = (g : ℕ → ℕ) × Keeps N f P g × SingleCycle N g 0

complete_open : (n N : ℕ) (f : ℕ → ℕ) (P : ℕ → Bool) → 0 < N → Open N f P → count N (λ v. not (P v)) ≤ n → Completed N f P
complete_open zero N f P pos o l =
    let (k, h, b) = o.ends 0 pos in
    absurd (omega (arith, count_pos N (λ v. not (P v)) (iterate f k 0) (iterate-below N f o.below k 0 pos) (ap not h)))
complete_open (suc n) N f P pos o l =
    let (k, h, b) = o.ends 0 pos in
    let (y, yN, untaken) = free N f P (iterate f k 0) (iterate-below N f o.below k 0 pos) h in
    go y yN untaken (search_first (Else y yN) (λ x. Dec.and (Bool-discrete (P x) false) (Dec.not (ℕ_discrete x (end y yN)))) N) (complete_open n N)
  where
    -- where the way from y ends
    end : (y : ℕ) → y < N → ℕ
    end y yN = iterate f (o.ends y yN).0 y

    -- another place outside P
    Else : (y : ℕ) → y < N → ℕ → Type 0
    Else y yN x = (P x ≡ false) × (x ≢ end y yN)

    go : (y : ℕ) (yN : y < N) → (Taken N f P y → ⊥) → First (Else y yN) N ⊎ None (Else y yN) N
        → ((f : ℕ → ℕ) (P : ℕ → Bool) → 0 < N → Open N f P → count N (λ v. not (P v)) ≤ n → Completed N f P) → Completed N f P
    go y yN untaken (inl (x, xN, (out, ne), b)) ih =
        let fewer : count N (λ v. not (add P x v)) < count N (λ v. not (P v)) =
        count_less N (λ v. not (add P x v)) (λ v. not (P v)) (λ v lv. still v (ℕ_discrete v x)) x xN (ap not (add_here P x x refl)) (ap not out) in
        let (g, c, s) = ih (put f x y) (add P x) pos (put_open N f P o x y xN yN out untaken (λ e. ne (sym e))) (omega arith) in
        (g, put_keeps N f P x y out g c, s)
      where
        still : (v : ℕ) → Dec (v ≡ x) → not (add P x v) ≡ true → not (P v) ≡ true
        still v (yes e) h = absurd (true≢false (sym h ∙ ap not (add_here P x v e)))
        still v (no e) h = ap not (sym (add_other P x v e)) ∙ h
    go y yN untaken (inr none) ih =
        let x : ℕ = end y yN in
        let xN : x < N = iterate-below N f o.below (o.ends y yN).0 y yN in
        let out : P x ≡ false = (o.ends y yN).1 in (
          put f x y,
          record { below = put_below N f P o x y xN yN out untaken; agrees = λ v lv h. put_in N f P o x y xN yN out untaken v h },
          put_closes N f P o x y xN yN out untaken (λ v lv h. only v lv h (ℕ_discrete v x)),
        )
      where
        only : (v : ℕ) → v < N → P v ≡ false → Dec (v ≡ end y yN) → v ≡ end y yN
        only v lv h (yes e) = e
        only v lv h (no ne) = absurd (none v lv (h, ne))

completed : (N : ℕ) (f : ℕ → ℕ) (P : ℕ → Bool) → 0 < N → MapsBelow N f → (RepeatIn N f P → ⊥) → (ShortCycleIn N f P → ⊥) → Completed N f P
completed N f P pos below r d = go (search_first (λ x. P x ≡ false) (λ x. Bool-discrete (P x) false) N)
  where
    go : First (λ x. P x ≡ false) N ⊎ None (λ x. P x ≡ false) N → Completed N f P
    go (inl (e, eN, out, b)) = complete_open (count N (λ v. not (P v))) N f P pos (open_of_outside N f P below r d e eN out) (le_refl _)
    go (inr none) = (
      f,
      record { below = below; agrees = λ x l h. refl },
      cycle_of_whole N f P pos below (λ x l. true_of (P x) (none x l)) d,
    )

-- ---- whether there are such

repeat_dec : (N : ℕ) (f : ℕ → ℕ) (P : ℕ → Bool) → Dec (RepeatIn N f P)
repeat_dec N f P =
    map_dec
    (λ (r : Plain). record { one = r.2.0; other = r.0; apart = r.2.1; below = r.1; one_in = r.2.2.0; other_in = r.2.2.1.0; same = r.2.2.1.1 })
    (λ r. (r.other, r.below, (r.one, r.apart, (r.one_in, (r.other_in, r.same)))))
    (some_dec (λ j. At j) (λ j. some_dec (λ i. Pair i j) (λ i. Dec.and (Bool-discrete (P i) true) (Dec.and (Bool-discrete (P j) true) (ℕ_discrete (f i) (f j)))) j) N)
  where
    Pair : ℕ → ℕ → Type 0
    Pair i j = (P i ≡ true) × ((P j ≡ true) × (f i ≡ f j))

    At : ℕ → Type 0
    At j = (i : ℕ) × (i < j) × Pair i j

    Plain : Type 0
    Plain = (j : ℕ) × (j < N) × At j

cycle_dec : (N : ℕ) (f : ℕ → ℕ) (P : ℕ → Bool) → Dec (ShortCycleIn N f P)
cycle_dec N f P =
    map_dec
    (λ (r : Plain). record { start = r.0; size = r.2.0; below = r.1; some = r.2.2.0; short = r.2.1; returns = r.2.2.1.0; inside = r.2.2.1.1 })
    (λ r. (r.start, r.below, (r.size, r.short, (r.some, (r.returns, r.inside)))))
    (some_dec (λ x. From x) (λ x. some_dec (λ l. Back x l) (λ l. back_dec x l) N) N)
  where
    Back : ℕ → ℕ → Type 0
    Back x l = (0 < l) × ((iterate f l x ≡ x) × ((k : ℕ) → k < l → P (iterate f k x) ≡ true))

    From : ℕ → Type 0
    From x = (l : ℕ) × (l < N) × Back x l

    Plain : Type 0
    Plain = (x : ℕ) × (x < N) × From x

    back_dec : (x l : ℕ) → Dec (Back x l)
    back_dec x l =
        Dec.and (dec_lt 0 l) (Dec.and (ℕ_discrete (iterate f l x) x) (all_dec (λ k. P (iterate f k x) ≡ true) (λ k. Bool-discrete (P (iterate f k x)) true) l))

-- ---- the rule

pub excludes_iff : (N : ℕ) (f : ℕ → ℕ) (P : ℕ → Bool) → 0 < N → MapsBelow N f → Excludes N f P ↔ (RepeatIn N f P ⊎ ShortCycleIn N f P)
excludes_iff N f P pos below = (λ h. forth h (repeat_dec N f P) (cycle_dec N f P), back)
  where
    forth : Excludes N f P → Dec (RepeatIn N f P) → Dec (ShortCycleIn N f P) → RepeatIn N f P ⊎ ShortCycleIn N f P
    forth h (yes r) d = inl r
    forth h (no r) (yes d) = inr d
    forth h (no r) (no d) = let (g, c, s) = completed N f P pos below r d in absurd (h g c s)

    back : RepeatIn N f P ⊎ ShortCycleIn N f P → Excludes N f P
    back (inl r) = excluded_by_repeat N f P pos r
    back (inr d) = excluded_by_cycle N f P below d
