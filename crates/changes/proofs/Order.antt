-- The order of changes: what is no later, and the test that finds it.
use mathlib.Core.Path.{◌≡◌, refl, sym, ◌∙◌}
use mathlib.Core.Bool.{Bool, true, false, not, ◌&&◌, ◌||◌, true≢false}
use mathlib.Core.List.{List}
use Prim.Native.Nat.{ℕ, ◌<◌}
use native.Mathlib.Nat.{le_refl}
use native.Mathlib.Decide.{ℕ_discrete, dec_lt}
use native.Mathlib.Omega.{arith}
use borrow.Author.Tests.{lt-ltb, le-ltb, eq-eqb, ne_eqb}
use lib.Dec.{eqb, ltb}
use lib.ListN.{get_or}
use Rattle.cycle.proofs.Count.{same_test}
use Rattle.changes.specs.declared.Change.{Change}
use Rattle.changes.specs.Change.{NoLater}
use Rattle.changes.specs.Others.{before}

module _ (shovels : List ℕ) where
  pub no_later_refl : (c : Change) → NoLater shovels c c
  no_later_refl c = record { seconds = le_refl _; number = λ q. le_refl _; direction = λ q n r. r }

  pub no_later_trans : (a b c : Change) → NoLater shovels a b → NoLater shovels b c → NoLater shovels a c
  no_later_trans a b c p q =
      record {
        seconds = omega (arith, p.seconds, q.seconds);
        number = λ s. omega (arith, p.number (first_two s), q.number (last_two s));
        direction = λ s n r.
            let m = p.number (first_two s) in
            let l = q.number (last_two s) in
            q.direction (last_two s) (omega arith) (p.direction (first_two s) (omega arith) r);
      }
    where
      first_two : a.seconds ≡ c.seconds → a.seconds ≡ b.seconds
      first_two s = omega (arith, p.seconds, q.seconds)

      last_two : a.seconds ≡ c.seconds → b.seconds ≡ c.seconds
      last_two s = omega (arith, p.seconds, q.seconds)

  -- two that are no later than each other agree: there is one least change at most
  pub no_later_both : (c e : Change) → NoLater shovels c e → NoLater shovels e c
      → (c.seconds ≡ e.seconds) × (get_or shovels c.place 0 ≡ get_or shovels e.place 0) × (c.raised ≡ e.raised)
  no_later_both c e p q =
      let s : c.seconds ≡ e.seconds = omega (arith, p.seconds, q.seconds) in
      let n : get_or shovels c.place 0 ≡ get_or shovels e.place 0 = omega (arith, p.number s, q.number (sym s)) in
      (s, n, same_test c.raised e.raised (p.direction s n) (q.direction (sym s) (sym n)))

  -- what the test tells
  abbrev pub Told : Change → Change → Bool → Type 0
  Told c e true = NoLater shovels c e
  Told c e false = NoLater shovels e c

  pub before_told : (c e : Change) → Told c e (before shovels c e)
  unfolding before
  before_told c e = go (dec_lt s t) (ℕ_discrete s t) (dec_lt m n) (ℕ_discrete m n) c.raised e.raised refl refl
    where
      s : ℕ
      s = c.seconds

      t : ℕ
      t = e.seconds

      m : ℕ
      m = get_or shovels c.place 0

      n : ℕ
      n = get_or shovels e.place 0

      fewer : {a b : Change} → a.seconds < b.seconds → NoLater shovels a b
      fewer l = record { seconds = omega arith; number = λ z. absurd (omega arith); direction = λ z w r. absurd (omega arith) }

      lower : {a b : Change} → a.seconds ≡ b.seconds → get_or shovels a.place 0 < get_or shovels b.place 0 → NoLater shovels a b
      lower q l = record { seconds = omega arith; number = λ z. omega arith; direction = λ z w r. absurd (omega arith) }

      same : {a b : Change} → a.seconds ≡ b.seconds → get_or shovels a.place 0 ≡ get_or shovels b.place 0 → (a.raised ≡ true → b.raised ≡ true) → NoLater shovels a b
      same q l d = record { seconds = omega arith; number = λ z. omega arith; direction = λ z w. d }

      go : Dec (s < t) → Dec (s ≡ t) → Dec (m < n) → Dec (m ≡ n) → (a b : Bool) → c.raised ≡ a → e.raised ≡ b
          → Told c e (ltb s t || (eqb s t && (ltb m n || (eqb m n && (not a && b)))))
      go (yes l) d f g a b p q = rw (lt-ltb s t l) (fewer l)
      go (no l) (no d) f g a b p q = rw (le-ltb s t (omega arith), ne_eqb s t d) (fewer (omega arith))
      go (no l) (yes d) (yes f) g a b p q = rw (le-ltb s t (omega arith), eq-eqb s t d, lt-ltb m n f) (lower d f)
      go (no l) (yes d) (no f) (no g) a b p q = rw (le-ltb s t (omega arith), eq-eqb s t d, le-ltb m n (omega arith), ne_eqb m n g) (lower (sym d) (omega arith))
      go (no l) (yes d) (no f) (yes g) true b p q = rw (le-ltb s t (omega arith), eq-eqb s t d, le-ltb m n (omega arith), eq-eqb m n g) (same (sym d) (sym g) (λ r. p))
      go (no l) (yes d) (no f) (yes g) false true p q = rw (le-ltb s t (omega arith), eq-eqb s t d, le-ltb m n (omega arith), eq-eqb m n g) (same d g (λ r. q))
      go (no l) (yes d) (no f) (yes g) false false p q =
          rw (le-ltb s t (omega arith), eq-eqb s t d, le-ltb m n (omega arith), eq-eqb m n g) (same (sym d) (sym g) (λ r. absurd (true≢false (sym r ∙ q))))
