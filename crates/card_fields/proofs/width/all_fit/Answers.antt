use mathlib.Core.Path.{◌≡◌, sym}
use mathlib.Core.Bool.{Bool, true, false}
use mathlib.Core.List.{List}
use Prim.Native.Nat.{ℕ, ◌^◌, ◌<◌, ◌≤◌}
use native.Mathlib.Omega.{arith}
use borrow.Author.Tests.{tests, lt-ltb, le-ltb}
use lib.Dec.{ltb}
use lib.ListN.{length, get_or}
use Rattle.std.proofs.Common.{rules}
use Rattle.std.specs.Bool.{MatchBool}
use Rattle.std.specs.List.{AllWithin, HoldsAt}
use Rattle.std.proofs.lemmas.Iterator.{cases_from_all, YieldsList-from_slice}
use Rattle.cycle.specs.Notation.{every}
use Rattle.cycle.proofs.Every.{every_of, every_not}
use Rattle.card_fields.proofs.width.all_fit.Goals as goal

-- the answer of `all`, as a test of each place
tested : (words : List ℕ) (n : ℕ) (b : Bool)
    → MatchBool b (AllWithin (λ x. x < 2 ^ n) words 0 (length words)) ((k : ℕ) × (k < length words) × HoldsAt (λ x. 2 ^ n ≤ x) words k)
    → b ≡ every (length words) (λ k. ltb (get_or words k 0) (2 ^ n))
tested words n true h = sym (every_of (length words) _ (λ k l. lt-ltb (get_or words k 0) (2 ^ n) (h k 0 (omega arith) l)))
tested words n false h = sym (every_not (length words) _ h.0 h.1 (le-ltb (get_or words h.0 0) (2 ^ n) (h.2 0)))

pub returns : goal.returns
returns c =
    tested _ _ _
    (cases_from_all _ _ _ (λ x. x < 2 ^ c.args.n) (λ x. 2 ^ c.args.n ≤ x) c.all.ensures.ran (YieldsList-from_slice c.args.words.now cc)
    (λ x q k. search (rules, tests)) (λ x q k. search (rules, tests)))
