-- For the readers of places: a number with its bias, and where the colon is.
use Rattle.std.proofs.Common.{◌≡◌, ◌≢◌, ℕ, ◌+◌, ◌-◌, ◌<◌, ◌≤◌, Option, Some, None, List, [], ◌∷◌, length, take, drop, eqb, true, false, add-one, refl, sym, ap, ◌∙◌, arith}
use lib.Pointwise.{pointwise}
use Rattle.std.specs.Option.{SomeIff}
use Rattle.std.proofs.lemmas.Bool.Decides.{nat_tests}
use Rattle.std.specs.Option.{MatchOption, unwrap_or}
use Rattle.std.specs.List.{AllWithin, HoldsAt}
use Rattle.std.proofs.lemmas.Bool.{eq-eqb, ne_eqb}
use Rattle.std.proofs.lemmas.Iterator.{index_from_first}
use Rattle.case_numbers.specs.Numbers.{numeral}
use Rattle.case_fields.specs.Text.{index_of}
use Rattle.case_map.specs.Coordinates.{is_negative, below, above, biased_in}

-- std's test for a minus is the definition's
pub same_minus : (xs : List ℕ) → is_negative xs ≡ pointwise eqb (take 1 xs) (45 ∷ [])
unfolding is_negative
same_minus [] = refl
same_minus (x ∷ xs) = grind (arith, nat_tests)

pub lowered : (x : ℕ) (r : Option ℕ) → SomeIff r (x ≤ 2147483648) (2147483648 - x) → r ≡ below (Some x)
unfolding below
lowered x None h = grind (arith, nat_tests, h)
lowered x (Some y) h = grind (arith, nat_tests, h.0, h.1)

pub raised : (x : ℕ) (r : Option ℕ) → SomeIff r (2147483648 + x < 4294967296) (2147483648 + x) → r ≡ above (Some x)
unfolding above
raised x None h = grind (arith, nat_tests, h)
raised x (Some y) h = grind (arith, nat_tests, h.0, h.1)

-- none stays none
pub below_none : (n r : Option ℕ) → n ≡ None → r ≡ None → r ≡ below n
unfolding below
below_none n r e f = f ∙ sym (ap below e)

pub above_none : (n r : Option ℕ) → n ≡ None → r ≡ None → r ≡ above n
unfolding above
above_none n r e f = f ∙ sym (ap above e)

-- what is read behind the minus, and without one
pub with_minus : (xs digits : List ℕ) (n r : Option ℕ) → pointwise eqb (take 1 xs) (45 ∷ []) ≡ true → digits ≡ drop 1 xs → n ≡ numeral 10 digits → r ≡ below n → r ≡ biased_in xs
unfolding biased_in
with_minus xs digits n r m d e f = simp (same_minus xs ∙ m) (f ∙ ap below (e ∙ ap (numeral 10) d))

pub without : (xs : List ℕ) (n r : Option ℕ) → pointwise eqb (take 1 xs) (45 ∷ []) ≡ false → n ≡ numeral 10 xs → r ≡ above n → r ≡ biased_in xs
unfolding biased_in
without xs n r m e f = simp (same_minus xs ∙ m) (f ∙ ap above e)

-- where the colon is
here : (x : ℕ) (xs : List ℕ) → x ≡ 58 → index_of 58 (x ∷ xs) ≡ 0
unfolding index_of
here x xs e = simp (eq-eqb x 58 e)

later : (x : ℕ) (xs : List ℕ) → x ≢ 58 → index_of 58 (x ∷ xs) ≡ index_of 58 xs + 1
unfolding index_of
later x xs e = simp (ne_eqb x 58 e) (sym (add-one _))

nowhere : index_of 58 [] ≡ 0
unfolding index_of
nowhere = refl

pub colon_at : (xs : List ℕ) (r : Option ℕ) → MatchOption r (AllWithin (λ x. x ≢ 58) xs 0 (length xs)) (λ i. (i < length xs) × HoldsAt (λ x. x ≡ 58) xs i × AllWithin (λ x. x ≢ 58) xs 0 i)
    → index_of 58 xs ≡ unwrap_or r (length xs)
colon_at xs r h = index_from_first (index_of 58) (λ x. x ≡ 58) (λ x. x ≢ 58) nowhere here later xs r h

-- nothing is read as nothing
pub nothing : biased_in [] ≡ None
unfolding biased_in is_negative numeral above
nothing = refl
