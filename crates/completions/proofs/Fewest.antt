-- The fewest places whose entries rule out a single cycle, and the first of several such sets: of the shortest cycles the one with the least place,
-- where they are fixed points or no entry is repeated; and where there is no fixed point, the first pair that repeats an entry or is a cycle.
use mathlib.Core.Path.{◌≡◌, refl, sym, ap, ◌∙◌}
use mathlib.Core.Logic.{◌↔◌, ◌⊎◌, ◌≢◌, inl, inr}
use mathlib.Core.Bool.{Bool, true, false, not, true≢false}
use Prim.Native.Nat.{ℕ, zero, suc, ◌+◌, ◌-◌, ◌*◌, ◌%◌, ◌≤◌, ◌<◌}
use native.Mathlib.Nat.{add_comm, mod-lt, le_refl, le_trans, le_of_eq, le-mul_of_pos_right}
use native.Mathlib.Decide.{ℕ_discrete, dec_lt}
use native.Mathlib.Omega.{arith}
use Rattle.cycle.specs.Notation.{iterate, count}
use Rattle.cycle.specs.Cycle.{SingleCycle}
use Rattle.completions.specs.Completion.{Excludes, RepeatIn, ShortCycleIn, Injective}
use Rattle.completions.specs.Sets.{members, precedes, LeastSet}
use Rattle.cycle.proofs.Count.{count_pos, count-some, count_not, two_met, same_of_count}
use Rattle.cycle.proofs.Pigeonhole.{Repeats, le_count, count_le_of_all, all_of_count}
use Rattle.cycle.proofs.Iterate.{iterate_add, iterate_rounds, iterate_mod, MapsBelow, iterate-below}
use Rattle.cycle.proofs.Cycle.{le_of_reaches, return_between, cycle-reaches, cycle_from}
use Rattle.completions.proofs.Completion.{excluded_by_repeat, excluded_by_cycle, excludes_iff, cycle_of_whole, iterate_injective, return_again}
use Rattle.completions.proofs.Members.{Before, before_of_precedes}

-- ---- by counts, and by the first place at which two sets differ

least_of_counts : (N : ℕ) (f : ℕ → ℕ) (P : ℕ → Bool) → Excludes N f P → ((Q : ℕ → Bool) → Excludes N f Q → count N P ≤ count N Q)
    → ((Q : ℕ → Bool) → Excludes N f Q → count N Q ≤ count N P → Before Q P 0 N → ⊥) → LeastSet N (Excludes N f) P
least_of_counts N f P excluded fewest first =
    record { wanted = excluded; fewest = fewest; first = λ Q h e. go Q h e (precedes (members N Q) (members N P)) refl }
  where
    go : (Q : ℕ → Bool) → Excludes N f Q → count N Q ≡ count N P → (b : Bool) → precedes (members N Q) (members N P) ≡ b → b ≡ false
    go Q h e false p = refl
    go Q h e true p = absurd (first Q h (le_of_eq e) (before_of_precedes N Q P e p))

-- ---- a cycle never leaves its set, and one that is no longer than any has no place twice

cycle-inside : (N : ℕ) (f : ℕ → ℕ) (Q : ℕ → Bool) (s : ShortCycleIn N f Q) (k : ℕ) → Q (iterate f k s.start) ≡ true
cycle-inside N f Q s k = ap Q (sym (iterate_mod f s.size s.start s.returns k)) ∙ s.inside (k % s.size) (mod-lt k s.some)

-- f returns to no place below N after fewer than l applications
abbrev pub NoShorter : ℕ → (ℕ → ℕ) → ℕ → Type 0
NoShorter N f l = (z k : ℕ) → z < N → 0 < k → k < l → iterate f k z ≢ z

cycle-apart : (N : ℕ) (f : ℕ → ℕ) (Q : ℕ → Bool) (l : ℕ) → NoShorter N f l → (s : ShortCycleIn N f Q) → Repeats l (λ k. iterate f k s.start) → ⊥
cycle-apart N f Q l least s (i, j, ij, jl, e) =
    least s.start (j - i) s.below (omega arith) (omega arith) (return_between f s.start s.size s.some s.returns i j (omega arith) e)

-- ---- the shortest cycle with the least place

pub record FirstCycle (N : ℕ) (f : ℕ → ℕ) (l x : ℕ) : Type 0 where
  pub below : x < N
  pub some : 0 < l
  pub short : l < N
  pub returns : iterate f l x ≡ x
  pub shortest : NoShorter N f l
  pub first : (z : ℕ) → z < x → iterate f l z ≢ z

module _ (N : ℕ) (f : ℕ → ℕ) (below : MapsBelow N f) (l x : ℕ) (c : FirstCycle N f l x) (few : RepeatIn N f (λ v. true) → l < 2)
    (P : ℕ → Bool) (is : (v : ℕ) → v < N → (P v ≡ true) ↔ ((k : ℕ) × (k < l) × (iterate f k x ≡ v))) where
  on_cycle : (k : ℕ) → k < l → P (iterate f k x) ≡ true
  on_cycle k lk = (is (iterate f k x) (iterate-below N f below k x c.below)).1 (k, lk, refl)

  count-cycle : count N P ≤ l
  count-cycle = count_le_of_all l N (λ k. iterate f k x) P (λ k lk. iterate-below N f below k x c.below) (λ v lv. (is v lv).0)

  repeat_short : (Q : ℕ → Bool) → RepeatIn N f Q → l < 2
  repeat_short Q r = few (record { one = r.one; other = r.other; apart = r.apart; below = r.below; one_in = refl; other_in = refl; same = r.same })

  le_excluding : (Q : ℕ → Bool) → RepeatIn N f Q ⊎ ShortCycleIn N f Q → l ≤ count N Q
  le_excluding Q (inl r) = omega (arith, repeat_short Q r, count_pos N Q r.other r.below r.other_in)
  le_excluding Q (inr s) =
      le_count l N (λ k. iterate f k s.start) Q (λ k lk. iterate-below N f below k s.start s.below) (λ k lk. cycle-inside N f Q s k)
      (cycle-apart N f Q l c.shortest s)

  cycle-first : (Q : ℕ → Bool) → RepeatIn N f Q ⊎ ShortCycleIn N f Q → count N Q ≤ count N P → Before Q P 0 N → ⊥
  unfolding iterate
  cycle-first Q (inl r) le b =
      let two : 1 < count N Q = two_met N Q r.one r.other r.apart r.below r.one_in r.other_in in
      omega (arith, repeat_short Q r, count-cycle)
  cycle-first Q (inr s) le b =
      let a : ℕ = b.at in
      let (k, lk, ka) = all a b.below b.here in
      let back : iterate f l a ≡ a = rw (sym ka) (sym (iterate_add f l k z) ∙ ap (λ (j : ℕ). iterate f j z) (add_comm l k) ∙ iterate_add f k l z ∙ ap (iterate f k) round) in
      after (dec_lt a x) (ℕ_discrete a x) back
    where
      z : ℕ
      z = s.start

      all : (v : ℕ) → v < N → Q v ≡ true → (k : ℕ) × (k < l) × (iterate f k z ≡ v)
      all =
          all_of_count l N (λ k. iterate f k z) Q (λ k lk. iterate-below N f below k z s.below) (λ k lk. cycle-inside N f Q s k)
          (cycle-apart N f Q l c.shortest s) (omega (arith, count-cycle))

      -- Q is a cycle of l places
      round : iterate f l z ≡ z
      round = let (k, lk, e) = all (iterate f l z) (iterate-below N f below l z s.below) (cycle-inside N f Q s l) in go k lk e (ℕ_discrete k 0)
        where
          go : (k : ℕ) → k < l → iterate f k z ≡ iterate f l z → Dec (k ≡ 0) → iterate f l z ≡ z
          go k lk e (yes q) = sym e ∙ ap (λ (j : ℕ). iterate f j z) q
          go k lk e (no q) =
              absurd (c.shortest z (l - k) s.below (omega arith) (omega arith) (return_between f z s.size s.some s.returns k l (omega arith) e))

      -- so x is in it, and it is the cycle of x
      after : Dec (b.at < x) → Dec (b.at ≡ x) → iterate f l b.at ≡ b.at → ⊥
      after (yes p) q back = c.first b.at p back
      after (no p) (yes q) back = true≢false (sym (on_cycle 0 c.some) ∙ ap P (sym q) ∙ b.there)
      after (no p) (no q) back =
          let (k, lk, kx) = all x c.below (b.same x (omega arith) (omega arith) ∙ on_cycle 0 c.some) in
          let inside : (v : ℕ) → v < N → P v ≡ true → Q v ≡ true = λ v lv h.
          let (j, lj, jv) = (is v lv).0 h in
          sym (ap Q (iterate_add f j k z ∙ ap (iterate f j) kx ∙ jv)) ∙ cycle-inside N f Q s (j + k) in
          true≢false (sym (same_of_count N P Q inside le b.at b.below b.here) ∙ b.there)

  -- it is half of the places at most where no entry stands twice: from another place on there are as many more
  pub cycle-half : Injective N f → 2 * count N P ≤ N
  cycle-half inj =
      let (y, yN, out) = count-some N others (omega (arith, both, count-cycle, c.short)) in
      let more : l ≤ count N others = le_count l N (λ k. iterate f k y) others (λ k lk. iterate-below N f below k y yN) (λ k lk. apart y yN out k) (different y yN) in
      omega (arith, both, count-cycle)
    where
      others : ℕ → Bool
      others v = not (P v)

      both : count N P + count N others ≡ N
      both = count_not N P

      different : (y : ℕ) → y < N → Repeats l (λ k. iterate f k y) → ⊥
      different y yN (i, j, ij, jl, e) = c.shortest y (j - i) yN (omega arith) (omega arith) (return_again N f below inj i j y (omega arith) yN e)

      -- a way that comes to the cycle has come from it
      apart : (y : ℕ) → y < N → others y ≡ true → (k : ℕ) → others (iterate f k y) ≡ true
      apart y yN out k = go (P (iterate f k y)) refl
        where
          go : (b : Bool) → P (iterate f k y) ≡ b → not b ≡ true
          go false e = refl
          go true e =
              let (j, lj, ej) = (is (iterate f k y) (iterate-below N f below k y yN)).0 e in
              let t : ℕ = k * l + j - k in
              let kt : k + t ≡ k * l + j = omega (arith, le-mul_of_pos_right k c.some) in
              let same : iterate f k (iterate f t x) ≡ iterate f k y =
              sym (iterate_add f k t x) ∙ ap (λ (n : ℕ). iterate f n x) (kt ∙ add_comm (k * l) j) ∙ iterate_add f j (k * l) x
              ∙ ap (iterate f j) (iterate_rounds f l x c.returns k) ∙ ej in
              let from : iterate f (t % l) x ≡ y =
              iterate_mod f l x c.returns t ∙ iterate_injective N f below inj k (iterate f t x) y (iterate-below N f below t x c.below) yN same in
              absurd (true≢false (sym out ∙ ap not (ap P (sym from) ∙ on_cycle (t % l) (mod-lt t c.some))))

  pub least_of_cycle : LeastSet N (Excludes N f) P
  least_of_cycle =
      least_of_counts N f P
      (excluded_by_cycle N f P below (record { start = x; size = l; below = c.below; some = c.some; short = c.short; returns = c.returns; inside = on_cycle }))
      (λ Q h. le_trans count-cycle (le_excluding Q ((excludes_iff N f Q pos below).0 h)))
      (λ Q h. cycle-first Q ((excludes_iff N f Q pos below).0 h))
    where
      pos : 0 < N
      pos = omega (arith, c.short)

-- a fixed point is a cycle of one place
pub least_of_fixed : (N : ℕ) (f : ℕ → ℕ) → MapsBelow N f → 1 < N → (x : ℕ) → x < N → f x ≡ x → ((z : ℕ) → z < x → f z ≢ z)
    → (P : ℕ → Bool) → ((v : ℕ) → v < N → (P v ≡ true) ↔ (v ≡ x)) → LeastSet N (Excludes N f) P
unfolding iterate
least_of_fixed N f below two x xN fixed first P is =
    least_of_cycle N f below 1 x
    (record { below = xN; some = le_refl 1; short = two; returns = fixed; shortest = λ z k zN p q. absurd (omega arith); first = first })
    (λ r. le_refl 2) P
    (λ v lv. (
      λ h. (0, le_refl 1, sym ((is v lv).0 h)),
      λ r.
          let k : ℕ = r.0 in
          let z : k ≡ 0 = omega (arith, r.1) in
          (is v lv).1 (sym r.2 ∙ ap (λ (j : ℕ). iterate f j x) z),
    ))

-- ---- the first pair

-- i and j have the same entry, or each is the other's
abbrev pub Clash : (ℕ → ℕ) → ℕ → ℕ → Type 0
Clash f i j = (f i ≡ f j) ⊎ ((f i ≡ j) × (f j ≡ i))

pub record FirstPair (N : ℕ) (f : ℕ → ℕ) (i j : ℕ) : Type 0 where
  pub apart : i < j
  pub below : j < N
  pub clash : Clash f i j
  pub least : (a b : ℕ) → a < b → b < N → Clash f a b → i ≤ a
  pub next : (b : ℕ) → i < b → b < N → Clash f i b → j ≤ b

pick : ℕ → ℕ → ℕ → ℕ
pick i j zero = i
pick i j (suc k) = j

-- two places of Q are all of it, where it has no more
both_of_two : (N : ℕ) (Q : ℕ → Bool) (a b : ℕ) → a ≢ b → a < N → b < N → Q a ≡ true → Q b ≡ true → count N Q ≤ 2 → (v : ℕ) → v < N → Q v ≡ true → (v ≡ a) ⊎ (v ≡ b)
unfolding pick
both_of_two N Q a b ne aN bN Qa Qb c v lv h = let (k, lk, e) = all_of_count 2 N (pick a b) Q bounds in_Q distinct c v lv h in which k e
  where
    bounds : (k : ℕ) → k < 2 → pick a b k < N
    bounds zero l = aN
    bounds (suc k) l = bN

    in_Q : (k : ℕ) → k < 2 → Q (pick a b k) ≡ true
    in_Q zero l = Qa
    in_Q (suc k) l = Qb

    distinct : Repeats 2 (pick a b) → ⊥
    distinct (zero, zero, ij, jl, e) = omega arith
    distinct (zero, suc j, ij, jl, e) = ne e
    distinct (suc i, j, ij, jl, e) = omega arith

    which : (k : ℕ) → pick a b k ≡ v → (v ≡ a) ⊎ (v ≡ b)
    which zero e = inl (sym e)
    which (suc k) e = inr (sym e)

-- two places of Q, which clash where Q has no more
record PairIn (N : ℕ) (f : ℕ → ℕ) (Q : ℕ → Bool) : Type 0 where
  one : ℕ
  other : ℕ
  apart : one < other
  below : other < N
  one_in : Q one ≡ true
  other_in : Q other ≡ true
  clash : count N Q ≤ 2 → Clash f one other

module _ (N : ℕ) (f : ℕ → ℕ) (below : MapsBelow N f) (moves : (z : ℕ) → z < N → f z ≢ z) where
  -- of a cycle in Q, a place and its entry
  pair_of_cycle : (Q : ℕ → Bool) → ShortCycleIn N f Q → PairIn N f Q
  unfolding iterate
  pair_of_cycle Q s = go (dec_lt z (f z)) (dec_lt (f z) z)
    where
      z : ℕ
      z = s.start

      w_n : f z < N
      w_n = below z s.below

      back : count N Q ≤ 2 → f (f z) ≡ z
      back c =
          which (both_of_two N Q z (f z) (λ e. moves z s.below (sym e)) s.below w_n (cycle-inside N f Q s 0) (cycle-inside N f Q s 1) c (f (f z)) (below (f z) w_n) (cycle-inside N f Q s 2))
        where
          which : (f (f z) ≡ z) ⊎ (f (f z) ≡ f z) → f (f z) ≡ z
          which (inl e) = e
          which (inr e) = absurd (moves (f z) w_n e)

      go : Dec (z < f z) → Dec (f z < z) → PairIn N f Q
      go (yes l) d =
          record {
            one = z;
            other = f z;
            apart = l;
            below = w_n;
            one_in = cycle-inside N f Q s 0;
            other_in = cycle-inside N f Q s 1;
            clash = λ c. inr (refl, back c);
          }
      go (no l) (yes m) =
          record {
            one = f z;
            other = z;
            apart = m;
            below = s.below;
            one_in = cycle-inside N f Q s 1;
            other_in = cycle-inside N f Q s 0;
            clash = λ c. inr (back c, refl);
          }
      go (no l) (no m) = absurd (moves z s.below (omega arith))

  pair_of_excluding : (Q : ℕ → Bool) → RepeatIn N f Q ⊎ ShortCycleIn N f Q → PairIn N f Q
  pair_of_excluding Q (inl r) =
      record {
        one = r.one;
        other = r.other;
        apart = r.apart;
        below = r.below;
        one_in = r.one_in;
        other_in = r.other_in;
        clash = λ c. inl r.same;
      }
  pair_of_excluding Q (inr s) = pair_of_cycle Q s

  module _ (i j : ℕ) (p : FirstPair N f i j) (three : 2 < N) (P : ℕ → Bool) (is : (v : ℕ) → v < N → (P v ≡ true) ↔ ((v ≡ i) ⊎ (v ≡ j))) where
    in_i : P i ≡ true
    in_i = (is i (omega (arith, p.apart, p.below))).1 (inl refl)

    in_j : P j ≡ true
    in_j = (is j p.below).1 (inr refl)

    pub count_pair : count N P ≤ 2
    unfolding pick
    count_pair = count_le_of_all 2 N (pick i j) P bounds (λ v lv h. which v ((is v lv).0 h))
      where
        bounds : (k : ℕ) → k < 2 → pick i j k < N
        bounds zero l = omega (arith, p.apart, p.below)
        bounds (suc k) l = p.below

        which : (v : ℕ) → (v ≡ i) ⊎ (v ≡ j) → (k : ℕ) × (k < 2) × (pick i j k ≡ v)
        which v (inl e) = (0, omega arith, sym e)
        which v (inr e) = (1, le_refl 2, sym e)

    pair_excludes : Clash f i j → Excludes N f P
    unfolding iterate
    pair_excludes (inl e) =
        excluded_by_repeat N f P (omega arith) (record { one = i; other = j; apart = p.apart; below = p.below; one_in = in_i; other_in = in_j; same = e })
    pair_excludes (inr (e, g)) =
        excluded_by_cycle N f P below
        (record { start = i; size = 2; below = omega (arith, p.apart, p.below); some = omega arith; short = three; returns = ap f e ∙ g; inside = inside })
      where
        inside : (k : ℕ) → k < 2 → P (iterate f k i) ≡ true
        inside zero l = in_i
        inside (suc zero) l = ap P e ∙ in_j
        inside (suc (suc k)) l = absurd (omega arith)

    -- where a set of two comes before P, i is in it, and so is j
    pair_first : (Q : ℕ → Bool) → PairIn N f Q → count N Q ≤ count N P → Before Q P 0 N → ⊥
    pair_first Q q le t = go (in_Q at t.below t.here)
      where
        at : ℕ
        at = t.at

        a : ℕ
        a = q.one

        b : ℕ
        b = q.other

        ab : a < b
        ab = q.apart

        in_Q : (v : ℕ) → v < N → Q v ≡ true → (v ≡ a) ⊎ (v ≡ b)
        in_Q = both_of_two N Q a b (omega arith) (omega (arith, q.below)) q.below q.one_in q.other_in (omega (arith, count_pair))

        earlier : (v : ℕ) → v < at → P v ≡ true → (v ≡ a) ⊎ (v ≡ b)
        earlier v l h = in_Q v (omega (arith, t.below)) (t.same v (omega arith) l ∙ h)

        other : (v : ℕ) → P v ≡ true → at ≢ v
        other v h e = true≢false (sym h ∙ ap P (sym e) ∙ t.there)

        clash : Clash f a b
        clash = q.clash (omega (arith, count_pair))

        least : i ≤ a
        least = p.least a b ab q.below clash

        same : i < at → i ≡ a
        same l = which (earlier i l in_i)
          where
            which : (i ≡ a) ⊎ (i ≡ b) → i ≡ a
            which (inl e) = e
            which (inr e) = absurd (omega (arith, least))

        go : (at ≡ a) ⊎ (at ≡ b) → ⊥
        go (inl e) = let ne : at ≢ i = other i in_i in ne (e ∙ sym (same (omega (arith, least))))
        go (inr e) =
            let ia : i ≡ a = same (omega (arith, least)) in
            let jb : j ≤ b = p.next b (omega arith) q.below (rw ia clash) in
            let ne : at ≢ j = other j in_j in
            which ia ne (earlier j (omega arith) in_j)
          where
            which : i ≡ a → at ≢ j → (j ≡ a) ⊎ (j ≡ b) → ⊥
            which ia ne (inl g) = omega (arith, p.apart)
            which ia ne (inr g) = ne (e ∙ sym g)

    pub least_of_pair : LeastSet N (Excludes N f) P
    least_of_pair =
        least_of_counts N f P (pair_excludes p.clash) (λ Q h. le_trans count_pair (two Q (pair_of_excluding Q ((excludes_iff N f Q (omega arith) below).0 h))))
        (λ Q h. pair_first Q (pair_of_excluding Q ((excludes_iff N f Q (omega arith) below).0 h)))
      where
        two : (Q : ℕ → Bool) → PairIn N f Q → 1 < count N Q
        two Q q = two_met N Q q.one q.other q.apart q.below q.one_in q.other_in

-- a map is a single cycle exactly where it returns to no place before N applications
pub single_cycle_iff : (N : ℕ) (f : ℕ → ℕ) → 0 < N → MapsBelow N f → SingleCycle N f 0 ↔ NoShorter N f N
single_cycle_iff N f pos below = (forth, back)
  where
    forth : SingleCycle N f 0 → NoShorter N f N
    forth c z k zN some short e = omega (arith, le_of_reaches N f z k (cycle-reaches N f z pos (cycle_from N f 0 pos c z zN)) e some)

    back : NoShorter N f N → SingleCycle N f 0
    back h = cycle_of_whole N f (λ v. true) pos below (λ x l. refl) (λ s. h s.start s.size s.below s.some s.short s.returns)
