use Rattle.std.proofs.Common.{rules, ◌≡◌, sym, ap, ◌∙◌, Option, Some, None, List, [], ◌∷◌, ℕ, ◌<◌, length, min, arith}
use Rattle.std.specs.List.{reduce}
use Rattle.std.specs.Option.{option_map, IsSome}
use Rattle.std.proofs.lemmas.Iterator.{YieldsList-from_slice}
use Rattle.std.proofs.lemmas.Iterator.Consumers.{min_from_yields_List}
use Rattle.ties.proofs.Least.{least-reduced}
use Rattle.tie_time.proofs.time.least_time.Goals as goal

some : {A : Type 0} (f : A → ℕ) (o : Option A) (times : List ℕ) → 0 < length times → option_map f o ≡ reduce min times → IsSome o
some f (Some y) times l e = search rules
some f None [] l e = absurd (omega arith)
some f None (x ∷ xs) l e = absurd (grind (arith, e))

pub unwrap-requires : goal.unwrap-requires
unwrap-requires c = let times = c.args.times.now in some (λ y. y.now) c.min.result times c.requires (min_from_yields_List _ _ c.min.ensures.ran (YieldsList-from_slice times (cc)))

pub returns : goal.returns
returns c = let times = c.args.times.now in
    least-reduced times _ (sym (ap (option_map (λ y. y.now)) c.unwrap.ensures) ∙ min_from_yields_List _ _ c.min.ensures.ran (YieldsList-from_slice times (cc)))
