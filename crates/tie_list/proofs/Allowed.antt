-- What is known of a list that is not refused.
use mathlib.Core.Path.{◌≡◌, refl}
use mathlib.Core.Bool.{false}
use mathlib.Core.List.{List}
use Prim.Native.Nat.{ℕ, ◌≤◌, ◌<◌}
use native.Mathlib.Omega.{arith}
use borrow.Author.Tests.{eqb-true, eqb-false, eq-eqb, ne_eqb, ltb-false, le-ltb, not-false}
use lib.ListN.{length}
use Rattle.refusals.specs.Refusals.{first_of, NoneApplies}
use Rattle.refusals.proofs.Refusals.{none_first}
use Rattle.ties.specs.Ties.{most_shovels, twice}
use Rattle.tie_list.specs.Checks.{list_checks}

pub record Allowed (shovels times : List ℕ) : Type 0 where
  pub paired : length shovels ≡ length times
  pub some : 0 < length times
  pub few : length times ≤ most_shovels
  pub once : twice shovels ≡ false

pub list_allowed : (shovels times : List ℕ) → first_of (list_checks shovels times) ≡ 0 → Allowed shovels times
unfolding list_checks NoneApplies
list_allowed shovels times z =
    let h = none_first (list_checks shovels times) z in
    let e = eqb-true (length shovels) (length times) (not-false _ h.0) in
    record {
      paired = e;
      some = omega (arith, eqb-false (length shovels) 0 h.1.0);
      few = omega (arith, ltb-false most_shovels (length shovels) h.1.1.0);
      once = h.1.1.1.0;
    }

pub allowed_list : (shovels times : List ℕ) → Allowed shovels times → first_of (list_checks shovels times) ≡ 0
unfolding list_checks first_of
allowed_list shovels times ok =
    rw (
      eq-eqb (length shovels) (length times) ok.paired,
      ne_eqb (length shovels) 0 (omega (arith, ok.paired, ok.some)),
      le-ltb most_shovels (length shovels) (omega (arith, ok.paired, ok.few)),
      ok.once,
    ) refl
