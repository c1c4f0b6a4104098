-- Whether a number stands twice, by looking before each.
use mathlib.Core.Path.{◌≡◌, refl, sym, ap, ◌∙◌}
use mathlib.Core.Bool.{Bool, true, false}
use mathlib.Core.List.{List}
use Prim.Native.Nat.{ℕ, ◌≤◌, ◌<◌}
use native.Mathlib.Decide.{dec_lt}
use native.Mathlib.Omega.{arith}
use borrow.Author.Tests.{eqb-true, eq-eqb, lt-ltb, ltb-true, le-ltb, ltb-false, le-leb, lt-leb}
use lib.Dec.{eqb, leb, ltb}
use lib.ListN.{length, get_or, take}
use Rattle.cycle.proofs.Every.{every_of, every_not}
use Rattle.cycle.specs.Notation.{count}
use Rattle.ties.specs.Ties.{occurs, twice}
use Rattle.ties.proofs.Entries.{any-entry, count-front, any-number}
use Rattle.std.specs.List.{list_any, range_with_len}
use Rattle.cycle.proofs.Count.{count_pos, count-some, count_two, two_counted}
use Rattle.tie_list.specs.Repeats.{repeats_at}

module _ (xs : List ℕ) where
  alike : ℕ → ℕ → Bool
  alike x j = eqb (get_or xs j 0) x

  -- as it is looked for: whether an entry before i is the same number
  pub repeats-any : (i : ℕ) → i ≤ length xs → list_any (λ y. eqb y (get_or xs i 0)) (take i xs) ≡ repeats_at xs i
  unfolding repeats_at
  repeats-any i l = let same = λ (y : ℕ). eqb y (get_or xs i 0) in any-entry same 0 (take i xs) ∙ ap (ltb 0) (count-front same 0 xs i l)

  twice_found : (i : ℕ) → i < length xs → repeats_at xs i ≡ true → twice xs ≡ true
  unfolding repeats_at twice alike
  twice_found i l h =
      let x : ℕ = get_or xs i 0 in
      simp (every_not (length xs) (λ i. leb (occurs xs (get_or xs i 0)) 1) i l
      (lt-leb (occurs xs x) 1 (two_counted (length xs) (alike x) i l (eq-eqb x x refl) (ltb-true 0 (count i (alike x)) h))))

  twice-none : ((i : ℕ) → i < length xs → repeats_at xs i ≡ false) → twice xs ≡ false
  unfolding repeats_at twice alike
  twice-none h =
      simp (every_of (length xs) (λ i. leb (occurs xs (get_or xs i 0)) 1)
      (λ i l. le-leb (occurs xs (get_or xs i 0)) 1 (once (get_or xs i 0) (dec_lt 1 (occurs xs (get_or xs i 0))))))
    where
      once : (x : ℕ) → Dec (1 < occurs xs x) → occurs xs x ≤ 1
      once x (no n) = omega arith
      once x (yes l) =
          let r = count_two (length xs) (alike x) l in
          let j : ℕ = r.0 in
          let e : get_or xs j 0 ≡ x = eqb-true (get_or xs j 0) x r.2 in
          absurd (omega (arith, r.3, ap (λ (y : ℕ). count j (alike y)) e, ltb-false 0 (count j (alike (get_or xs j 0))) (h j r.1)))

  -- as it is looked for: whether a number is the same as one before it
  pub twice-any : list_any (repeats_at xs) (range_with_len 0 (length xs)) ≡ twice xs
  twice-any = any-number (length xs) (repeats_at xs) ∙ go (dec_lt 0 (count (length xs) (repeats_at xs)))
    where
      never : (b : Bool) → (b ≡ true → ⊥) → b ≡ false
      never true h = absurd (h refl)
      never false h = refl

      go : Dec (0 < count (length xs) (repeats_at xs)) → ltb 0 (count (length xs) (repeats_at xs)) ≡ twice xs
      go (yes l) = let r = count-some (length xs) (repeats_at xs) l in lt-ltb 0 _ l ∙ sym (twice_found r.0 r.1 r.2)
      go (no n) = le-ltb 0 _ (omega arith) ∙ sym (twice-none (λ i l. never (repeats_at xs i) (λ t. n (count_pos (length xs) (repeats_at xs) i l t))))
