-- std's chunks of two are the definition's pairs.
use Rattle.std.proofs.Common.{◌≡◌, ℕ, ◌<◌, min, List, [], ◌∷◌, ◌++◌, length, None, eqb, true, refl, subst, ◌∙◌, arith}
use Rattle.std.specs.Slice.Iter.{chunks_rest, chunks_size, chunks_steps}
use Rattle.std.specs.declared.slice.Chunks.{Chunks}
use Rattle.std.proofs.lemmas.Iterator.{YieldsList}
use Rattle.std.proofs.lemmas.Iterator.Splits.{YieldsList-from_shown_while}
use borrow.Author.Tests.{eqb-true}
use Rattle.case_fields.specs.Lists.{pairs, is_nothing, bytes_in}

-- the first pair
first : (ys zs : List ℕ) → length ys ≡ min 2 (length (ys ++ zs)) → 0 < length (ys ++ zs) → pairs (ys ++ zs) ≡ ys ∷ pairs zs
unfolding pairs
first [] zs h n = absurd (omega arith)
first (a ∷ []) [] h n = refl
first (a ∷ []) (z ∷ zs) h n = absurd (omega arith)
first (a ∷ b ∷ []) zs h n = refl
first (a ∷ b ∷ y ∷ ys) zs h n = absurd (omega arith)

none : (xs : List ℕ) → length xs ≡ 0 → length (pairs xs) ≡ 0
unfolding pairs
none [] h = refl
none (x ∷ xs) h = absurd (omega arith)

some : (xs ys zs : List ℕ) (n : ℕ) → n ≡ 2 → xs ≡ ys ++ zs → length ys ≡ min n (length xs) → 0 < length xs → pairs xs ≡ ys ∷ pairs zs
some xs ys zs n e c h m = rw (c) (first ys zs (rw (← c, ← e) h) (rw (← c) m))

YieldsList-from_pairs : {s : Chunks ℕ} → chunks_size s ≡ 2 → YieldsList chunks_steps (λ x. x.now) s (pairs (chunks_rest s))
YieldsList-from_pairs {s} e =
    YieldsList-from_shown_while chunks_steps (λ x. x.now) (λ r. pairs (chunks_rest r)) (λ r. chunks_size r ≡ 2)
    (λ r t p k. none (chunks_rest r) k.1.0)
    (λ r x t p k. (k.0 ∙ p, some (chunks_rest r) x.now (chunks_rest t) (chunks_size r) p k.1.0 k.1.1 k.1.2))
    s e

-- the same of a text that is still whole
pub YieldsList-from_whole : {s : Chunks ℕ} (xs : List ℕ) → chunks_size s ≡ 2 → chunks_rest s ≡ xs → YieldsList chunks_steps (λ x. x.now) s (pairs xs)
YieldsList-from_whole {s} xs e h = subst (λ ys. YieldsList chunks_steps (λ x. x.now) s (pairs ys)) h (YieldsList-from_pairs e)

-- where there is no byte at all, none can be read
pub no_bytes : (n : ℕ) (xs : List ℕ) → eqb (length xs) 0 ≡ true → bytes_in n xs ≡ None
unfolding bytes_in is_nothing
no_bytes n [] h = refl
no_bytes n (x ∷ xs) h = absurd (omega (arith, eqb-true _ _ h))
