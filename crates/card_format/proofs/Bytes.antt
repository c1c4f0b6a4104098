-- One field: its numbers from its bytes and back, and the map byte from its bits and back. First the lists and tests that they need.
use mathlib.Core.Path.{◌≡◌, refl, sym, ap, ap₂, ◌∙◌}
use mathlib.Core.Bool.{Bool, true, false, cond, not}
use mathlib.Core.List.{List, [], ◌∷◌, ◌++◌}
use Prim.Native.Nat.{ℕ, zero, suc, ◌+◌, ◌*◌, ◌/◌, ◌%◌, ◌^◌, ◌≤◌, ◌<◌, zero-le}
use native.Mathlib.Nat.{one-mul, zero-mul, mul-zero, mod-lt, mod-eq_of_lt, div-add-mod', div-lt_iff_lt-mul, le_refl, le-add_right, lt_of_le_of_lt, lt_of_mul-lt-mul_left}
use native.Mathlib.Omega.{arith}
use borrow.Author.Tests.{ltb-false, le-ltb}
use lib.Arith.{digits_lt, digits_div, digits_mod}
use lib.Dec.{eqb, lit<}
use lib.ListN.{length, get_or, take, length-append, get_or-append}
use lib.Seq.{take_all}
use Rattle.cycle.specs.Notation.{sum, bit}
use Rattle.cycle.proofs.Sum.{sum_ext}
use Rattle.cycle.proofs.Bits.{bit_lt}
use Rattle.cycle.proofs.Parity.{two_pos, bit_cases}
use Rattle.cycle.proofs.Digits.{from_digits, from_digits_ext, from_digits_lt, from_digits_of, digit_from_digits, length-tabulate, get_d_tabulate, tabulate_ext, tabulate-get_or}
use Rattle.refusals.specs.Refusals.{Check, NoneApplies}
use Rattle.card_format.specs.Fields.{Field, Bytes, extent, numbers, bytes_of, same}
use Rattle.card_format.specs.Reading.{part_checks}
use Rattle.card_format.proofs.Fields.{allowed_at, same_refl, same_true}
use Rattle.card_format.proofs.Sound.{Fitting}

-- ---- lists and tests

pub cond_le : (b : Bool) (x : ℕ) → cond b x 0 ≤ x
cond_le true x = le_refl x
cond_le false x = zero-le

pub length-cond : (b : Bool) (xs : List ℕ) → length (cond b xs []) ≡ cond b (length xs) 0
length-cond true xs = refl
length-cond false xs = refl

pub length-one : (xs : List ℕ) → length xs ≡ 1 → get_or xs 0 0 ∷ [] ≡ xs
length-one [] e = absurd (omega arith)
length-one (x ∷ []) e = refl
length-one (x ∷ y ∷ xs) e = absurd (omega arith)

-- a byte; past the end, 0 counts
pub byte_lt : (b : List ℕ) → Bytes b → (i : ℕ) → get_or b i 0 < 256
byte_lt [] h i = lit< tt
byte_lt (x ∷ xs) h zero = h 0 (omega arith)
byte_lt (x ∷ xs) h (suc i) = byte_lt xs (λ j l. h (suc j) (omega arith)) i

-- ---- a field's numbers and bytes

pub length-bytes_of : (f : Field) (xs : List ℕ) → length (bytes_of f xs) ≡ extent f
unfolding bytes_of
length-bytes_of f xs = length-tabulate (extent f) _

pub numbers-bytes_of : (f : Field) (xs rest : List ℕ) → length xs ≡ f.count → ((i : ℕ) → i < length xs → get_or xs i 0 < 256 ^ f.size)
    → numbers f (bytes_of f xs ++ rest) ≡ xs
unfolding numbers bytes_of
numbers-bytes_of f xs rest c h =
    tabulate_ext f.count _ (λ j. get_or xs j 0) number ∙ tabulate-get_or f.count xs (omega arith) ∙ take_all f.count xs (omega arith)
  where
    byte : (j i : ℕ) → j < f.count → i < f.size → get_or (bytes_of f xs ++ rest) (j * f.size + i) 0 ≡ get_or xs j 0 / 256 ^ i % 256
    byte j i lj li =
        get_or-append (bytes_of f xs) rest 0 (j * f.size + i) (rw length-bytes_of (digits_lt lj li))
        ∙ get_d_tabulate (extent f) _ (j * f.size + i) (digits_lt lj li)
        ∙ ap₂ (λ (q r : ℕ). get_or xs q 0 / 256 ^ r % 256) (digits_div j li) (digits_mod j li)

    number : (j : ℕ) → j < f.count → from_digits 256 f.size (λ i. get_or (bytes_of f xs ++ rest) (j * f.size + i) 0) ≡ get_or xs j 0
    number j lj =
        from_digits_ext 256 f.size _ (λ i. get_or xs j 0 / 256 ^ i % 256) (λ i li. byte j i lj li)
        ∙ from_digits_of 256 f.size (get_or xs j 0) (lit< tt) ∙ mod-eq_of_lt (h j (omega arith))

pub bytes_of-numbers : (f : Field) (part : List ℕ) → ((i : ℕ) → get_or part i 0 < 256) → extent f ≤ length part
    → bytes_of f (numbers f part) ≡ take (extent f) part
unfolding numbers bytes_of
bytes_of-numbers f part b l = tabulate_ext (extent f) _ (λ p. get_or part p 0) byte ∙ tabulate-get_or (extent f) part l
  where
    byte : (p : ℕ) → p < extent f → get_or (numbers f part) (p / f.size) 0 / 256 ^ (p % f.size) % 256 ≡ get_or part p 0
    byte p lp =
        let s = f.size in
        let pos : 0 < s = lt_of_mul-lt-mul_left f.count (rw mul-zero (omega arith)) in
        ap (λ (x : ℕ). x / 256 ^ (p % s) % 256) (get_d_tabulate f.count _ (p / s) ((div-lt_iff_lt-mul pos).1 lp))
        ∙ digit_from_digits 256 s (λ i. get_or part (p / s * s + i) 0) (lit< tt) (λ i li. b (p / s * s + i)) (p % s) (mod-lt p pos)
        ∙ ap (λ (i : ℕ). get_or part i 0) (div-add-mod' p s)

-- ---- a field, read and written. It is written where it differs from its absent value

pub read_differs : (f : Field) (part : List ℕ) (here : Bool) (cs : List Check) → NoneApplies (cond here (part_checks f part) cs)
    → not (same (cond here (numbers f part) f.absent) f.absent) ≡ here
unfolding part_checks NoneApplies
read_differs f part true cs h = rw h.1.1.0
read_differs f part false cs h = rw (same_refl f.absent)

pub read_bytes : (f : Field) (part : List ℕ) (here : Bool) (cs : List Check) → NoneApplies (cond here (part_checks f part) cs)
    → ((i : ℕ) → get_or part i 0 < 256)
    → cond here (bytes_of f (cond here (numbers f part) f.absent)) [] ≡ take (cond here (extent f) 0) part
unfolding part_checks NoneApplies
read_bytes f part true cs h b = bytes_of-numbers f part b (ltb-false (length part) (extent f) h.0)
read_bytes f part false cs h b = refl

pub written_read : (f : Field) (part xs rest : List ℕ) (cs : List Check) → Fitting f xs → f.most < 256 ^ f.size
    → (xs ≡ f.absent → NoneApplies cs) → let here = not (same xs f.absent) in
    part ≡ cond here (bytes_of f xs) [] ++ rest
    → (cond here (numbers f part) f.absent ≡ xs) × NoneApplies (cond here (part_checks f part) cs)
unfolding part_checks NoneApplies
written_read f part xs rest cs fit room none = go (same xs f.absent) refl
  where
    go : (t : Bool) → same xs f.absent ≡ t → part ≡ cond (not t) (bytes_of f xs) [] ++ rest
        → (cond (not t) (numbers f part) f.absent ≡ xs) × NoneApplies (cond (not t) (part_checks f part) cs)
    go true e p = let a = same_true xs f.absent e in (sym a, none a)
    go false e p =
        let whole : extent f ≤ length part = rw (p, length-append, length-bytes_of) (le-add_right (extent f) (length rest)) in
        let n : numbers f part ≡ xs =
        ap (numbers f) p ∙ numbers-bytes_of f xs rest fit.count (λ i l. lt_of_le_of_lt (allowed_at f xs fit.allow i l).1 room) in
        (n, (le-ltb (length part) (extent f) whole, (rw (n, fit.allow), (rw (n, e), tt))))

-- ---- the map: the number with these bits

pub flag : (t : Bool) (x : ℕ) → (cond t x 0 ≡ cond t 1 0 * x) × (cond t 1 0 < 2) × (eqb (cond t 1 0) 1 ≡ t)
flag true x = (sym (one-mul x), lit< tt, refl)
flag false x = (sym (zero-mul x), lit< tt, refl)

pub map_lt : (n : ℕ) (b : ℕ → Bool) → sum n (λ j. cond (b j) (2 ^ j) 0) < 2 ^ n
map_lt n b = rw (sum_ext n _ _ (λ j l. (flag (b j) (2 ^ j)).0)) (from_digits_lt 2 n (λ j. cond (b j) 1 0) (λ j l. (flag (b j) 0).1))

pub bit-map : (n : ℕ) (b : ℕ → Bool) (k : ℕ) → k < n → eqb (bit k (sum n (λ j. cond (b j) (2 ^ j) 0))) 1 ≡ b k
bit-map n b k l =
    ap (λ (x : ℕ). eqb (bit k x) 1) (sum_ext n _ _ (λ j lj. (flag (b j) (2 ^ j)).0))
    ∙ ap (λ (d : ℕ). eqb d 1) (digit_from_digits 2 n (λ j. cond (b j) 1 0) two_pos (λ j lj. (flag (b j) 0).1) k l) ∙ (flag (b k) 0).2

pub map-bit : (n x : ℕ) → x < 2 ^ n → sum n (λ j. cond (eqb (bit j x) 1) (2 ^ j) 0) ≡ x
map-bit n x l =
    sum_ext n _ _ (λ j lj. bit_cases (λ b. cond (eqb b 1) (2 ^ j) 0 ≡ b * 2 ^ j) (sym (zero-mul (2 ^ j))) (sym (one-mul (2 ^ j))) (bit j x) (bit_lt j x))
    ∙ from_digits_of 2 n x two_pos ∙ mod-eq_of_lt l
