-- For loops over words: from the last to the first, what is left from word k on; and words filled in one by one.
use Rattle.std.proofs.Common.{◌≡◌, ℕ, zero, suc, ◌+◌, ◌-◌, ◌<◌, ◌≤◌, List, [], ◌∷◌, length, get_or, take, drop, set, refl, ap, ◌∙◌, le_refl, arith, drop_of_length-le, length-take-le, get_or-set_other, get_or-set_same}
use Rattle.cycle.proofs.Every.{extend}

-- the words from k on, of the first m
abbrev pub words_from : ℕ → ℕ → List ℕ → List ℕ
words_from k m xs = drop k (take m xs)

pub words-past : (k m : ℕ) (xs : List ℕ) → m ≤ k → m ≤ length xs → words_from k m xs ≡ []
words-past k m xs l h =
    let e : length (take m xs) ≤ k = omega (arith, length-take-le m xs h) in
    drop_of_length-le (take m xs) e

pub words-none : (m : ℕ) (xs : List ℕ) → m ≤ length xs → words_from m m xs ≡ []
words-none m xs h = words-past m m xs (le_refl m) h

words_cons : (k m : ℕ) (xs : List ℕ) → k < m → m ≤ length xs → words_from k m xs ≡ get_or xs k 0 ∷ words_from (suc k) m xs
words_cons k zero xs l h = absurd (omega arith)
words_cons k (suc m) [] l h = absurd (omega arith)
words_cons zero (suc m) (x ∷ xs) l h = refl
words_cons (suc k) (suc m) (x ∷ xs) l h = words_cons k m xs (omega arith) (omega arith)

-- one word more, for a loop that has come down to k
pub words_next : (k m : ℕ) (xs : List ℕ) → 0 < k → k ≤ m → m ≤ length xs → words_from (k - 1) m xs ≡ get_or xs (k - 1) 0 ∷ words_from k m xs
words_next k m xs p l h =
    let e : suc (k - 1) ≡ k = omega arith in
    words_cons (k - 1) m xs (omega arith) h ∙ ap (λ (j : ℕ). get_or xs (k - 1) 0 ∷ words_from j m xs) e

-- ---- words filled in one by one

-- P j of word j of t, for the first n words
abbrev pub Below : (ℕ → ℕ → Type 0) → ℕ → List ℕ → Type 0
Below P n t = (j : ℕ) → j < n → P j (get_or t j 0)

pub below_next : (P : ℕ → ℕ → Type 0) (n v : ℕ) (t : List ℕ) → n < length t → Below P n t → P n v → Below P (n + 1) (set t n v)
below_next P n v t l h b =
    extend (λ j. P j (get_or (set t n v) j 0)) n (λ j lj. rw (get_or-set_other t n j v 0 (λ e. omega arith)) (h j lj)) (rw (get_or-set_same t n v 0 l) b)
