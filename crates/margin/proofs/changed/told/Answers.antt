use mathlib.Core.Path.{◌≡◌, refl, sym, ap, ◌∙◌}
use mathlib.Core.List.{List}
use Prim.Native.Nat.{ℕ}
use native.Mathlib.Omega.{arith}
use lib.ListN.{length, take}
use Rattle.ties.specs.Ties.{ties, chosen}
use Rattle.ties.proofs.Least.{ties_le}
use Rattle.tries.specs.declared.row.Ranked.{Ranked}
use Rattle.tries.specs.Tries.{ranked}
use Rattle.changes.proofs.Listing.{length-changed}
use Rattle.margin.proofs.changed.told.Goals as goal
use Rattle.margin.proofs.changed.told.Goals.{After-changed_times-list}

-- the changed times are as many
size : (c : After-changed_times-list) → let n = length c.args.times.now in length (take n c.changed_times-list.result) ≡ n
size c = ap length c.changed_times-list.ensures ∙ length-changed _ _

pub slice_bounds-pick_by-end : goal.slice_bounds-pick_by-end
slice_bounds-pick_by-end c = sym (size (goal.at.slice_bounds-pick_by-end c).After-changed_times-list)

pub pick_by-p-requires : goal.pick_by-p-requires
pick_by-p-requires c = let n = size (goal.at.pick_by-p-requires c).After-changed_times-list in
    (c.requires.width_le_widest_width.0, c.requires.width_le_widest_width.1 ∙ sym n, omega (arith, n, c.requires.place_in_bounds.0), omega (arith, n, c.requires.width_le_widest_width.2))

pub overflow_cast-result : goal.overflow_cast-result
overflow_cast-result c = omega (arith, c.pick_by-p.ensures.ties, ties_le (take (length c.args.times.now) c.changed_times-list.result), size (goal.at.overflow_cast-result c).After-changed_times-list, c.requires.width_le_widest_width.2)

pub returns : goal.returns
returns c = let a = c.args in
    let p = c.pick_by-p.ensures in
    let e = c.changed_times-list.ensures in
    let drawn : List ℕ → Ranked = λ ys. ranked a.known.width a.known.words (ties ys) in record {
      change = (refl, refl, refl);
      shovel = p.shovel ∙ ap (λ (ys : List ℕ). chosen a.shovels.now ys (drawn ys).rank) e;
      ties = p.ties ∙ ap ties e;
      taken = p.taken ∙ ap (λ (ys : List ℕ). (drawn ys).taken) e;
    }
