-- Laws of the fields: those of one number, the table, and tests of whole lists by their entries.
use mathlib.Core.Path.{◌≡◌, refl, sym, ap, ap₂, ◌∙◌}
use mathlib.Core.Logic.{◌≢◌}
use mathlib.Core.Bool.{Bool, true, false, cond, not, ◌&&◌, and-eq-true_iff, true≢false}
use mathlib.Core.List.{List, [], ◌∷◌}
use Prim.Native.Nat.{ℕ, zero, suc, ◌+◌, ◌-◌, ◌*◌, ◌%◌, ◌^◌, ◌≤◌, ◌<◌}
use native.Mathlib.Nat.{one-mul, mul-one, zero-mul, zero-add, add-zero, mod-eq_of_lt, suc_inj}
use native.Mathlib.Decide.{ℕ_discrete}
use native.Mathlib.Omega.{arith}
use borrow.Author.Tests.{leb-true, le-leb, lt-ltb, le-ltb, eq-eqb, eqb-true}
use lib.Dec.{eqb, leb, ltb}
use lib.ListN.{length, get_or, take, drop, replicate, length-drop, length-replicate, get_or-replicate}
use lib.Pow.{pow_pos, pow-lt, pow_mono}
use lib.Seq.{length-take-le, get_or-take, get_or-drop}
use Rattle.cycle.specs.Notation.{sum, tabulate}
use Rattle.cycle.proofs.Digits.{tabulate_ext, tabulate-get_or}
use Rattle.cycle.proofs.Sum.{sum_ext}
use Rattle.tsc.specs.Constants.{tsc1_table, most_words}
use Rattle.card_format.specs.Fields.{Field, fields, field, field_count, table_bit, constant_bit, extent, numbers, allowed, same}
use Rattle.refusals.specs.Refusals.{first_of}
use Rattle.card_format.specs.Reading.{part_checks}
use Rattle.card_format.specs.Writing.{unused_clear}

-- ---- the fields but the table: one number each

-- what holds of the seven
pub each_number : (P : ℕ → Type 0) → P 0 → P 1 → P 3 → P 4 → P 5 → P 6 → P 7 → (k : ℕ) → k < field_count → k ≢ table_bit → P k
each_number P p0 p1 p3 p4 p5 p6 p7 zero l ne = p0
each_number P p0 p1 p3 p4 p5 p6 p7 (suc zero) l ne = p1
each_number P p0 p1 p3 p4 p5 p6 p7 (suc (suc zero)) l ne = absurd (ne refl)
each_number P p0 p1 p3 p4 p5 p6 p7 (suc (suc (suc zero))) l ne = p3
each_number P p0 p1 p3 p4 p5 p6 p7 (suc (suc (suc (suc zero)))) l ne = p4
each_number P p0 p1 p3 p4 p5 p6 p7 (suc (suc (suc (suc (suc zero))))) l ne = p5
each_number P p0 p1 p3 p4 p5 p6 p7 (suc (suc (suc (suc (suc (suc zero)))))) l ne = p6
each_number P p0 p1 p3 p4 p5 p6 p7 (suc (suc (suc (suc (suc (suc (suc zero))))))) l ne = p7
each_number P p0 p1 p3 p4 p5 p6 p7 (suc (suc (suc (suc (suc (suc (suc (suc k)))))))) l ne = absurd (omega arith)

pub by_table : (P : ℕ → Type 0) → P table_bit → ((k : ℕ) → k < field_count → k ≢ table_bit → P k) → (k : ℕ) → k < field_count → P k
by_table P t others k l = go (ℕ_discrete k table_bit)
  where
    go : Dec (k ≡ table_bit) → P k
    go (yes e) = rw e t
    go (no ne) = others k l ne

pub count-one : (m k : ℕ) → k < field_count → k ≢ table_bit → (field m k).count ≡ 1
unfolding fields field
count-one m = each_number (λ k. (field m k).count ≡ 1) refl refl refl refl refl refl refl

pub absent-one : (m k : ℕ) → k < field_count → k ≢ table_bit → get_or (field m k).absent 0 0 ∷ [] ≡ (field m k).absent
unfolding fields field
absent-one m = each_number (λ k. get_or (field m k).absent 0 0 ∷ [] ≡ (field m k).absent) refl refl refl refl refl refl refl

-- a number has one byte, where it is not the constant
pub size-one : (m k : ℕ) → k < field_count → k ≢ table_bit → k ≢ constant_bit → (field m k).size ≡ 1
unfolding fields field
size-one m =
    each_number (λ k. k ≢ constant_bit → (field m k).size ≡ 1) (λ c. refl) (λ c. refl) (λ c. refl) (λ c. refl) (λ c. absurd (c refl)) (λ c. refl) (λ c. refl)

-- the number of such a field, low byte first
abbrev pub low_first : ℕ → List ℕ → ℕ
low_first size part = sum size (λ i. get_or part i 0 * 256 ^ i)

pub numbers-one : (f : Field) (part : List ℕ) → f.count ≡ 1 → numbers f part ≡ low_first f.size part ∷ []
unfolding numbers tabulate
numbers-one f part one =
    rw one (ap (λ (x : ℕ). x ∷ [])
    (sum_ext f.size _ _ (λ i l. ap (λ (p : ℕ). get_or part p 0 * 256 ^ i) (ap (λ (z : ℕ). z + i) (zero-mul f.size) ∙ zero-add i))))

-- the refusal of a field, by its numbers
pub part_refusal : (f : Field) (part xs : List ℕ) → numbers f part ≡ xs
    → first_of (part_checks f part) ≡ cond (ltb (length part) (extent f)) 1 (cond (not (allowed f xs)) 2 (cond (same xs f.absent) 3 0))
unfolding part_checks first_of
part_refusal f part xs e = rw e refl

-- ---- tests of lists by their entries

not_so : (b : Bool) → b ≢ true → b ≡ false
not_so true h = absurd (h refl)
not_so false h = refl

pub allowed_at : (f : Field) (xs : List ℕ) → allowed f xs ≡ true → (i : ℕ) → i < length xs → (f.least ≤ get_or xs i 0) × (get_or xs i 0 ≤ f.most)
unfolding allowed
allowed_at f [] h i l = absurd (omega arith)
allowed_at f (x ∷ xs) h zero l =
    let a = (and-eq-true_iff (leb f.least x && leb x f.most) (allowed f xs)).0 h in
    let b = (and-eq-true_iff (leb f.least x) (leb x f.most)).0 a.0 in
    (leb-true f.least x b.0, leb-true x f.most b.1)
allowed_at f (x ∷ xs) h (suc i) l =
    allowed_at f xs ((and-eq-true_iff (leb f.least x && leb x f.most) (allowed f xs)).0 h).1 i (omega arith)

pub allowed_all : (f : Field) (xs : List ℕ) → ((i : ℕ) → i < length xs → (f.least ≤ get_or xs i 0) × (get_or xs i 0 ≤ f.most)) → allowed f xs ≡ true
unfolding allowed
allowed_all f [] h = refl
allowed_all f (x ∷ xs) h =
    simp (le-leb _ _ (h 0 (omega arith)).0, le-leb _ _ (h 0 (omega arith)).1) (allowed_all f xs (λ i l. h (suc i) (omega arith)))

pub allowed_not : (f : Field) (xs : List ℕ) (i : ℕ) → i < length xs → f.most < get_or xs i 0 → allowed f xs ≡ false
allowed_not f xs i l h = not_so (allowed f xs) (λ t. omega (arith, (allowed_at f xs t i l).1))

pub same_all : (xs ys : List ℕ) → length xs ≡ length ys → ((i : ℕ) → i < length xs → get_or xs i 0 ≡ get_or ys i 0) → same xs ys ≡ true
unfolding same
same_all [] [] e h = refl
same_all [] (y ∷ ys) e h = absurd (omega arith)
same_all (x ∷ xs) [] e h = absurd (omega arith)
same_all (x ∷ xs) (y ∷ ys) e h = simp (eq-eqb x y (h 0 (omega arith))) (same_all xs ys (suc_inj e) (λ i l. h (suc i) (omega arith)))

pub same_refl : (xs : List ℕ) → same xs xs ≡ true
unfolding same
same_refl [] = refl
same_refl (x ∷ xs) = rw (eq-eqb x x refl) (same_refl xs)

pub same_true : (xs ys : List ℕ) → same xs ys ≡ true → xs ≡ ys
unfolding same
same_true [] [] h = refl
same_true [] (y ∷ ys) h = absurd (true≢false (sym h))
same_true (x ∷ xs) [] h = absurd (true≢false (sym h))
same_true (x ∷ xs) (y ∷ ys) h =
    let b = (and-eq-true_iff (eqb x y) (same xs ys)).0 h in
    ap₂ (λ (z : ℕ) (zs : List ℕ). z ∷ zs) (eqb-true x y b.0) (same_true xs ys b.1)

pub same_not : (xs ys : List ℕ) → xs ≢ ys → same xs ys ≡ false
same_not xs ys ne = not_so (same xs ys) (λ h. ne (same_true xs ys h))

-- ---- powers of two

-- 1 << n in w bits
pub one_shifted : (n w : ℕ) → n < w → 1 * 2 ^ n % 2 ^ w ≡ 2 ^ n
one_shifted n w h = rw one-mul (mod-eq_of_lt (pow-lt h))

-- a table has room for the entries of m words
pub few-entries : (m : ℕ) → m ≤ most_words → 2 ^ m ≤ 2 ^ most_words
few-entries m h = pow_mono h

-- ---- the table

-- the numbers of the table are its bytes
pub numbers_table : (m : ℕ) (part : List ℕ) → 2 ^ m ≤ length part → numbers (field m table_bit) part ≡ take (2 ^ m) part
unfolding numbers field fields sum
numbers_table m part h =
    tabulate_ext (2 ^ m) _ (λ i. get_or part i 0) (λ i l. rw (mul-one, mul-one, zero-add, add-zero) refl) ∙ tabulate-get_or (2 ^ m) part h

pub table_short : (m : ℕ) (part : List ℕ) → length part < 2 ^ m → first_of (part_checks (field m table_bit) part) ≡ 1
unfolding part_checks first_of field fields
table_short m part h = simp (mul-one, lt-ltb _ _ h)

-- the table's refusal, where its bytes are there, by the table that holds them
pub table_refusal : (m : ℕ) (part : List ℕ) → 2 ^ m ≤ length part → (xs : List ℕ) → xs ≡ take (2 ^ m) part
    → first_of (part_checks (field m table_bit) part) ≡ cond (not (allowed (field m table_bit) xs)) 2 (cond (same xs tsc1_table) 3 0)
unfolding field fields
table_refusal m part h xs e = part_refusal (field m table_bit) part xs (numbers_table m part h ∙ sym e) ∙ simp (mul-one, le-ltb _ _ h)

-- the used entries of a table are allowed where they are below 2^m
pub entries-allowed : (m : ℕ) (t : List ℕ) → 2 ^ m ≤ length t → ((i : ℕ) → i < 2 ^ m → get_or t i 0 < 2 ^ m) → allowed (field m table_bit) (take (2 ^ m) t) ≡ true
unfolding field fields
entries-allowed m t z h =
    let n = length-take-le (2 ^ m) t z in
    allowed_all (field m table_bit) (take (2 ^ m) t) (λ i l. (omega arith, omega (arith, get_or-take (2 ^ m) t i 0 (omega arith), h i (omega arith), pow_pos m)))

pub entry_not_allowed : (m : ℕ) (t : List ℕ) (i : ℕ) → 2 ^ m ≤ length t → i < 2 ^ m → 2 ^ m ≤ get_or t i 0 → allowed (field m table_bit) (take (2 ^ m) t) ≡ false
unfolding field fields
entry_not_allowed m t i z l h =
    allowed_not (field m table_bit) (take (2 ^ m) t) i (omega (arith, length-take-le (2 ^ m) t z)) (omega (arith, get_or-take (2 ^ m) t i 0 l, pow_pos m))

-- the unused entries of a table are 0
pub unused_clear_lem : (m : ℕ) (t : List ℕ) → ((i : ℕ) → i < length t → 2 ^ m ≤ i → get_or t i 0 ≡ 0) → unused_clear m t ≡ true
unused_clear_lem m t h =
    let rest = drop (2 ^ m) t in
    same_all rest (replicate (length rest) 0) (sym (length-replicate _ 0))
    (λ i l. get_or-drop (2 ^ m) t i 0 ∙ h (2 ^ m + i) (omega (arith, length-drop (2 ^ m) t)) (omega arith) ∙ sym (get_or-replicate _ i 0 0 l))

pub unused_not_clear : (m : ℕ) (t : List ℕ) (i : ℕ) → i < length t → 2 ^ m ≤ i → get_or t i 0 ≢ 0 → unused_clear m t ≡ false
unused_not_clear m t i l h ne =
    let rest = drop (2 ^ m) t in
    let j : 2 ^ m + (i - 2 ^ m) ≡ i = omega arith in
    same_not rest (replicate (length rest) 0)
    (λ e. ne (ap (λ (k : ℕ). get_or t k 0) (sym j) ∙ sym (get_or-drop (2 ^ m) t (i - 2 ^ m) 0) ∙ ap (λ (r : List ℕ). get_or r (i - 2 ^ m) 0) e
    ∙ get_or-replicate (length rest) (i - 2 ^ m) 0 0 (omega (arith, length-drop (2 ^ m) t))))
