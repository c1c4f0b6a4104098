-- Numbers in base B, lowest digit first; and lists by their entries.
use mathlib.Core.Path.{◌≡◌, refl, sym, ap, ap₂, ◌∙◌}
use mathlib.Core.List.{List, [], ◌∷◌}
use Prim.Native.Nat.{ℕ, zero, suc, ◌+◌, ◌-◌, ◌*◌, ◌/◌, ◌%◌, ◌^◌, ◌≤◌, ◌<◌}
use native.Mathlib.Nat.{mul-zero, mul-suc, mul_assoc, add_comm, le_refl, pow-zero, pow-suc, pow-succ', one-le-pow, mod-one, mod-eq_of_lt, add-mul-div_right, add-mul-mod_self_right}
use native.Mathlib.Decide.{ℕ_discrete}
use native.Mathlib.Omega.{arith}
use lib.Arith.{digits_div, digits_mod, digits_lt, mod-mul}
use lib.ListN.{length, get_or, take}
use lib.Pow.{pow-add}
use Rattle.cycle.specs.Notation.{sum, tabulate}
use Rattle.cycle.proofs.Sum.{sum_ext}

-- B ^ n where the base is itself a power
pub pow_mul : (b m n : ℕ) → b ^ (m * n) ≡ (b ^ m) ^ n
pow_mul b m zero = ap (λ (a : ℕ). b ^ a) (mul-zero m) ∙ pow-zero b ∙ sym (pow-zero (b ^ m))
pow_mul b m (suc n) = ap (λ (a : ℕ). b ^ a) (mul-suc m n) ∙ pow-add b (m * n) m ∙ ap (λ (a : ℕ). a * b ^ m) (pow_mul b m n) ∙ sym (pow-suc (b ^ m) n)

-- ---- the number with the n digits d 0 .. d (n - 1)

abbrev pub from_digits : ℕ → ℕ → (ℕ → ℕ) → ℕ
from_digits B n d = sum n (λ i. d i * B ^ i)

abbrev pub Digits : ℕ → ℕ → (ℕ → ℕ) → Type 0
Digits B n d = (i : ℕ) → i < n → d i < B

fewer : (B n : ℕ) (d : ℕ → ℕ) → Digits B (suc n) d → Digits B n d
fewer B n d h i l = h i (omega arith)

pub from_digits_ext : (B n : ℕ) (d e : ℕ → ℕ) → ((i : ℕ) → i < n → d i ≡ e i) → from_digits B n d ≡ from_digits B n e
from_digits_ext B n d e h = sum_ext n (λ i. d i * B ^ i) (λ i. e i * B ^ i) (λ i l. ap (λ (a : ℕ). a * B ^ i) (h i l))

pub from_digits_suc : (B n : ℕ) (d : ℕ → ℕ) → from_digits B (suc n) d ≡ d n * B ^ n + from_digits B n d
unfolding sum
from_digits_suc B n d = add_comm (sum n (λ i. d i * B ^ i)) (d n * B ^ n)

pub from_digits_lt : (B n : ℕ) (d : ℕ → ℕ) → Digits B n d → from_digits B n d < B ^ n
unfolding sum
from_digits_lt B zero d h = rw pow-zero (le_refl 1)
from_digits_lt B (suc n) d h =
    rw (from_digits_suc B n d, pow-succ' B n) (digits_lt (h n (le_refl (suc n))) (from_digits_lt B n d (fewer B n d h)))

-- the top digit, and the digits below it
pub from_digits_div : (B n : ℕ) (d : ℕ → ℕ) → Digits B n d → from_digits B (suc n) d / B ^ n ≡ d n
from_digits_div B n d h = rw from_digits_suc (digits_div (d n) (from_digits_lt B n d h))

pub from_digits_mod : (B n : ℕ) (d : ℕ → ℕ) → Digits B n d → from_digits B (suc n) d % B ^ n ≡ from_digits B n d
from_digits_mod B n d h = rw from_digits_suc (digits_mod (d n) (from_digits_lt B n d h))

-- the n lowest digits of x make x modulo B ^ n
pub from_digits_of : (B n x : ℕ) → 0 < B → from_digits B n (λ i. x / B ^ i % B) ≡ x % B ^ n
unfolding sum
from_digits_of B zero x pos = rw (pow-zero, mod-one)
from_digits_of B (suc n) x pos =
    from_digits_suc B n (λ i. x / B ^ i % B) ∙ ap (λ (a : ℕ). x / B ^ n % B * B ^ n + a) (from_digits_of B n x pos)
    ∙ sym (ap (λ (a : ℕ). x % a) (pow-succ' B n) ∙ mod-mul x pos (one-le-pow n B pos))

-- digit j of the number is d j
pub digit_from_digits : (B n : ℕ) (d : ℕ → ℕ) → 0 < B → Digits B n d → (j : ℕ) → j < n → from_digits B n d / B ^ j % B ≡ d j
digit_from_digits B zero d pos h j l = absurd (omega arith)
digit_from_digits B (suc n) d pos h j l = go (ℕ_discrete j n) (λ k. digit_from_digits B n d pos (fewer B n d h) j k)
  where
    go : Dec (j ≡ n) → (j < n → from_digits B n d / B ^ j % B ≡ d j) → from_digits B (suc n) d / B ^ j % B ≡ d j
    go (yes e) ih = rw (e, from_digits_div B n d (fewer B n d h)) (mod-eq_of_lt (h n (le_refl (suc n))))
    go (no ne) ih =
        let k : ℕ = n - suc j in
        let nk : k + suc j ≡ n = omega arith in
        let pw : d n * B ^ n ≡ d n * B ^ k * B * B ^ j =
        ap (λ (a : ℕ). d n * B ^ a) (sym nk) ∙ ap (λ (a : ℕ). d n * a) (pow-add B k (suc j)) ∙ sym (mul_assoc (d n) (B ^ k) (B ^ suc j))
        ∙ ap (λ (a : ℕ). d n * B ^ k * a) (pow-succ' B j) ∙ sym (mul_assoc (d n * B ^ k) B (B ^ j)) in
        ap (λ (a : ℕ). a / B ^ j % B) (from_digits_suc B n d ∙ add_comm (d n * B ^ n) (from_digits B n d) ∙ ap (λ (a : ℕ). from_digits B n d + a) pw)
        ∙ ap (λ (a : ℕ). a % B) (add-mul-div_right (from_digits B n d) (d n * B ^ k * B) (one-le-pow j B pos))
        ∙ add-mul-mod_self_right (from_digits B n d / B ^ j) (d n * B ^ k) B ∙ ih (omega arith)

-- digits are determined by their number
pub from_digits_injective : (B n : ℕ) (d e : ℕ → ℕ) → 0 < B → Digits B n d → Digits B n e → from_digits B n d ≡ from_digits B n e
    → (j : ℕ) → j < n → d j ≡ e j
from_digits_injective B n d e pos hd he q j l =
    sym (digit_from_digits B n d pos hd j l) ∙ ap (λ (a : ℕ). a / B ^ j % B) q ∙ digit_from_digits B n e pos he j l

-- ---- a list by its entries

pub length-tabulate : (n : ℕ) (f : ℕ → ℕ) → length (tabulate n f) ≡ n
unfolding tabulate
length-tabulate zero f = refl
length-tabulate (suc n) f = ap suc (length-tabulate n (λ i. f (suc i)))

pub get_d_tabulate : (n : ℕ) (f : ℕ → ℕ) (i : ℕ) → i < n → get_or (tabulate n f) i 0 ≡ f i
unfolding tabulate
get_d_tabulate zero f i l = absurd (omega arith)
get_d_tabulate (suc n) f zero l = refl
get_d_tabulate (suc n) f (suc i) l = get_d_tabulate n (λ j. f (suc j)) i (omega arith)

pub tabulate_ext : (n : ℕ) (f g : ℕ → ℕ) → ((i : ℕ) → i < n → f i ≡ g i) → tabulate n f ≡ tabulate n g
unfolding tabulate
tabulate_ext zero f g h = refl
tabulate_ext (suc n) f g h =
    ap₂ (λ (x : ℕ) (l : List ℕ). x ∷ l) (h 0 (omega arith)) (tabulate_ext n (λ i. f (suc i)) (λ i. g (suc i)) (λ i l. h (suc i) (omega arith)))

pub tabulate-get_or : (n : ℕ) (xs : List ℕ) → n ≤ length xs → tabulate n (λ i. get_or xs i 0) ≡ take n xs
unfolding tabulate
tabulate-get_or zero xs l = refl
tabulate-get_or (suc n) [] l = absurd (omega arith)
tabulate-get_or (suc n) (x ∷ xs) l = ap (λ (r : List ℕ). x ∷ r) (tabulate-get_or n xs (omega arith))
