-- For the loops: lists whose front or part is written over, and arrays filled from the front.
use mathlib.Core.Path.{◌≡◌, refl, sym, ap, ap₂, ◌∙◌}
use mathlib.Core.List.{List, [], ◌∷◌, ◌++◌, append_assoc, append-nil}
use Prim.Native.Nat.{ℕ, zero, suc, ◌+◌, ◌-◌, ◌<◌, ◌≤◌}
use native.Mathlib.Nat.{le_of_eq, zero-add, zero-sub, sub-zero, suc-sub-suc}
use native.Mathlib.Numerals.{add-one}
use native.Mathlib.Omega.{arith}
use lib.ListN.{length, get_or, set, take, drop, replicate, length-append, length-drop, length-replicate, drop_of_length-le}
use lib.Seq.{paste-suc, take_all, length-take-le, drop-nil, drop-drop, take_at, drop_at, take-append_seam, set-append_seam, append_snoc}
use Rattle.cycle.specs.Notation.{tabulate, zero_filled}
use Rattle.cycle.proofs.Digits.{length-tabulate, get_d_tabulate}

-- d with the first n of s in its place
abbrev pub over : List ℕ → List ℕ → ℕ → List ℕ
over s d n = take n s ++ drop n d

pub over_suc : (s d : List ℕ) (i : ℕ) → i < length s → i < length d → set (over s d i) i (get_or s i 0) ≡ over s d (i + 1)
over_suc s d i hs hd =
    ap₂ (λ (j k : ℕ). set (take i s ++ drop j d) k (get_or s i 0)) (sym (zero-add i)) (sym (zero-add i))
    ∙ paste-suc d 0 s i 0 (omega arith) hs
    ∙ ap₂ (λ (j k : ℕ). take j s ++ drop k d) (sym (add-one i)) (zero-add (suc i) ∙ sym (add-one i))

pub over_all : (s d : List ℕ) (n : ℕ) → length s ≡ n → length d ≡ n → over s d n ≡ s
over_all s d n hs hd = ap₂ (λ (x y : List ℕ). x ++ y) (take_all n s (le_of_eq hs)) (drop_of_length-le d (le_of_eq hd)) ∙ append-nil s

pub front_over : (s d : List ℕ) (n : ℕ) → length s ≡ n → take n (over s d n) ≡ s
front_over s d n e = ap (λ (front : List ℕ). take n (front ++ drop n d)) (take_all n s (le_of_eq e)) ∙ take_at s (drop n d) n e

-- an array of zeros whose front is filled by f, one entry after the other
pub filled_next : (n most : ℕ) (f : ℕ → ℕ) (l : List ℕ) (i x : ℕ) → n ≤ most → i < n → l ≡ over (tabulate n f) (replicate most 0) i → x ≡ f i
    → set l i x ≡ over (tabulate n f) (replicate most 0) (i + 1)
filled_next n most f l i x h li e ex =
    ap₂ (λ (l : List ℕ) (y : ℕ). set l i y) e (ex ∙ sym (get_d_tabulate n f i li))
    ∙ over_suc (tabulate n f) (replicate most 0) i (omega (arith, length-tabulate n f)) (omega (arith, length-replicate {A = ℕ} most 0))

pub filled_front : (n most : ℕ) (f : ℕ → ℕ) (l : List ℕ) (i : ℕ) → i ≡ n → l ≡ over (tabulate n f) (replicate most 0) i → take n l ≡ tabulate n f
filled_front n most f l i e h =
    ap (take n) (h ∙ ap (over (tabulate n f) (replicate most 0)) e) ∙ front_over (tabulate n f) (replicate most 0) n (length-tabulate n f)

-- a front written over keeps the length
pub length_front : (w d : List ℕ) (at : ℕ) → length w ≡ at → at ≤ length d → length (w ++ drop at d) ≡ length d
length_front w d at e h = omega (arith, length-append w (drop at d), length-drop at d)

pub length_over : (s d : List ℕ) (i : ℕ) → i ≤ length s → i ≤ length d → length (over s d i) ≡ length d
length_over s d i hs hd = length_front (take i s) d i (length-take-le i s hs) hd

pub drop-replicate : (n i a : ℕ) → drop i (replicate n a) ≡ replicate (n - i) a
drop-replicate zero i a = drop-nil i ∙ ap (λ (k : ℕ). replicate k a) (sym (zero-sub i))
drop-replicate (suc n) zero a = ap (λ (k : ℕ). replicate k a) (sym (sub-zero (suc n)))
drop-replicate (suc n) (suc i) a = drop-replicate n i a ∙ ap (λ (k : ℕ). replicate k a) (sym (suc-sub-suc n i))

-- where entries past the end count as a, more of a at the end changes no entry
pub get_or_filler : (n k a : ℕ) → get_or (replicate n a) k a ≡ a
get_or_filler zero k a = refl
get_or_filler (suc n) zero a = refl
get_or_filler (suc n) (suc k) a = get_or_filler n k a

pub get_or-filled : (xs : List ℕ) (n k a : ℕ) → get_or (xs ++ replicate n a) k a ≡ get_or xs k a
get_or-filled [] n k a = get_or_filler n k a
get_or-filled (x ∷ xs) n zero a = refl
get_or-filled (x ∷ xs) n (suc k) a = get_or-filled xs n k a

-- zeros whose front is written over
pub over_zeros : (s : List ℕ) (n i : ℕ) → i ≤ length s → over s (replicate n 0) i ≡ zero_filled n (take i s)
over_zeros s n i h =
    ap (λ (r : List ℕ). take i s ++ r) (drop-replicate n i 0 ∙ ap (λ (k : ℕ). replicate (n - k) 0) (sym (length-take-le i s h)))

pub take-filled : (n i : ℕ) (xs : List ℕ) → length xs ≡ i → take i (zero_filled n xs) ≡ xs
take-filled n i xs e = ap (λ (k : ℕ). take k (zero_filled n xs)) (sym e) ∙ take-append_seam xs _

-- one more entry at the end
pub filled_more : (n : ℕ) (xs : List ℕ) (a : ℕ) → length xs < n → set (zero_filled n xs) (length xs) a ≡ zero_filled n (xs ++ (a ∷ []))
filled_more n xs a l =
    let rest : n - length xs ≡ suc (n - suc (length xs)) = omega arith in
    let more : length (xs ++ (a ∷ [])) ≡ suc (length xs) = length-append xs (a ∷ []) ∙ add-one (length xs) in
    ap (λ (k : ℕ). set (xs ++ replicate k 0) (length xs) a) rest ∙ set-append_seam xs 0 (replicate (n - suc (length xs)) 0) a
    ∙ sym (append_snoc xs a (replicate (n - suc (length xs)) 0)) ∙ ap (λ (k : ℕ). (xs ++ (a ∷ [])) ++ replicate (n - k) 0) (sym more)

-- the part `&l[a..]`
pub part_rest : (a : ℕ) (l : List ℕ) → take (length l - a) (drop a l) ≡ drop a l
part_rest a l = take_all (length l - a) (drop a l) (omega (arith, length-drop a l))

-- a list whose part from a on has come back with f at its front
pub put_part : (l f : List ℕ) (a : ℕ) → let part = take (length l - a) (drop a l) in
    take a l ++ ((f ++ drop (length f) part) ++ drop (length l - a) (drop a l)) ≡ take a l ++ f ++ drop (a + length f) l
put_part l f a =
    ap (λ (r : List ℕ). take a l ++ r)
    (ap₂ (λ (x y : List ℕ). (f ++ drop (length f) x) ++ y) (part_rest a l) (drop_of_length-le (drop a l) (le_of_eq (length-drop a l)))
    ∙ append-nil _ ∙ ap (λ (r : List ℕ). f ++ r) (drop-drop (length f) a l))
    ∙ sym (append_assoc (take a l) f _)

-- the same of a page whose front is w
pub put_next : (w d f : List ℕ) (at : ℕ) → length w ≡ at → let page = w ++ drop at d in let part = take (length page - at) (drop at page) in
    take at page ++ ((f ++ drop (length f) part) ++ drop (length page - at) (drop at page)) ≡ (w ++ f) ++ drop (at + length f) d
put_next w d f at e =
    let page = w ++ drop at d in
    let rest = ap (drop (length f)) (drop_at w (drop at d) at e) in
    put_part page f at
    ∙ ap₂ (λ (x y : List ℕ). x ++ f ++ y) (take_at w (drop at d) at e) (sym (drop-drop (length f) at page) ∙ rest ∙ drop-drop (length f) at d)

-- the first entry set
pub set_first : (l : List ℕ) (x : ℕ) → 0 < length l → set l 0 x ≡ x ∷ drop 1 l
set_first [] x h = absurd (omega arith)
set_first (y ∷ l) x h = refl

pub drop-set-first : (l : List ℕ) (x n : ℕ) → 0 < n → drop n (set l 0 x) ≡ drop n l
drop-set-first l x zero h = absurd (omega arith)
drop-set-first [] x (suc n) h = refl
drop-set-first (y ∷ l) x (suc n) h = refl
