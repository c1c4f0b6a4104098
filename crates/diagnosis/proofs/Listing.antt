-- The marked places listed one after the other.
use mathlib.Core.Path.{◌≡◌, refl, sym, ap, ap₂, ◌∙◌}
use mathlib.Core.Bool.{Bool, true, false, cond}
use mathlib.Core.List.{List, [], ◌∷◌, ◌++◌, append-nil}
use Prim.Native.Nat.{ℕ, suc, ◌+◌, ◌≤◌, ◌<◌}
use native.Mathlib.Numerals.{add-one}
use native.Mathlib.Omega.{arith}
use lib.ListN.{length, set}
use Rattle.cycle.specs.Notation.{one, count, zero_filled}
use Rattle.cycle.proofs.Lists.{filled_more}
use Rattle.cycle.proofs.Count.{count_next, count_prefix}
use Rattle.completions.specs.Sets.{members}
use Rattle.completions.proofs.Members.{members-count, members_next}

module _ (most : ℕ) (P : ℕ → Bool) (x : ℕ) where
  -- room is left where the next one counts
  pub room : (N : ℕ) → x < N → count N P ≤ most → P x ≡ true → count x P < most
  room N l fits h = omega (arith, count_prefix (suc x) N P l, count_next x P, ap one h)

  next : (b : Bool) → P x ≡ b → members (x + 1) P ≡ members x P ++ cond b (x ∷ []) []
  next b h = ap (λ (k : ℕ). members k P) (add-one x) ∙ members_next x P ∙ ap (λ (b : Bool). members x P ++ cond b (x ∷ []) []) h

  -- a marked place goes to the end of the list, and another leaves it as it is
  pub listed_marked : (places : List ℕ) (n : ℕ) → places ≡ zero_filled most (members x P) → n ≡ count x P → P x ≡ true → n < most → set places n x ≡ zero_filled most (members (x + 1) P)
  listed_marked places n e c h l =
      let k : n ≡ length (members x P) = c ∙ sym (members-count x P) in
      ap₂ (λ (l : List ℕ) (k : ℕ). set l k x) e k ∙ filled_more most (members x P) x (omega (arith, k))
      ∙ ap (zero_filled most) (sym (next true h))

  pub listed_passed : (places : List ℕ) → places ≡ zero_filled most (members x P) → P x ≡ false → places ≡ zero_filled most (members (x + 1) P)
  listed_passed places e h = e ∙ ap (zero_filled most) (sym (next false h ∙ append-nil (members x P)))

  -- whichever it is
  pub listed_next : (places : List ℕ) (n : ℕ) → places ≡ zero_filled most (members x P) → n ≡ count x P → (P x ≡ true → n < most)
      → cond (P x) (set places n x) places ≡ zero_filled most (members (x + 1) P)
  listed_next places n e c r = go (P x) refl
    where
      go : (b : Bool) → P x ≡ b → cond b (set places n x) places ≡ zero_filled most (members (x + 1) P)
      go true h = listed_marked places n e c h (r h)
      go false h = listed_passed places e h
