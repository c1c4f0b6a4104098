use Rattle.std.proofs.Common.{rules, ◌≡◌, ℕ, zero, suc, ◌-◌, ◌^◌, ◌<◌, List, [], ◌∷◌, Bool, ◌&&◌, take, refl, ap₂, ◌∙◌, arith, pow_pos}
use borrow.Author.Tests.{tests}
use Rattle.std.proofs.lemmas.Bool.Decides.{nat_tests}
use lib.Dec.{leb, ltb}
use Rattle.std.specs.List.{list_all}
use Rattle.std.proofs.lemmas.Iterator.{YieldsList-from_slice}
use Rattle.std.proofs.lemmas.Iterator.Search.{all_from_yields_List}
use Rattle.card_format.specs.Fields.{field, fields, table_bit, allowed}
use Rattle.card_table.proofs.table.entries_allowed.Goals as goal

-- below 2^m is from 0 to 2^m - 1
within : (x n : ℕ) → 0 < n → ltb x n ≡ (leb 0 x && leb x (n - 1))
within x zero pos = absurd (omega arith)
within x (suc n) pos = grind (arith, nat_tests)

all_allowed : (m : ℕ) (xs : List ℕ) → list_all (λ x. ltb x (2 ^ m)) xs ≡ allowed (field m table_bit) xs
unfolding field fields allowed
all_allowed m [] = refl
all_allowed m (x ∷ xs) = ap₂ (λ (a b : Bool). a && b) (within x (2 ^ m) (pow_pos m)) (all_allowed m xs)

pub returns : goal.returns
returns c =
    let entries = take (2 ^ c.args.m) c.args.table.now in
    all_from_yields_List (λ x. ltb x (2 ^ c.args.m)) _ _ c.all.result c.all.ensures.ran (YieldsList-from_slice entries (cc)) (λ x b q k. search (rules, tests))
    ∙ all_allowed c.args.m entries
