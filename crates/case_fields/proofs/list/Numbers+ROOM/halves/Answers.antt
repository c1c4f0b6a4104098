use Rattle.std.proofs.Common.{ℕ, ◌%◌, map, ap, ◌∙◌, arith, rules}
use Rattle.case_fields.specs.Lists.{Held}
use Rattle.case_fields.proofs.Lists.{mapped, mapped_next}
use Rattle.case_fields.proofs.list.Numbers+ROOM.halves.Goals as goal

pub loop-k-preserved : goal.loop-k-preserved
loop-k-preserved c = let l = c.loop-k in
    (search rules, mapped_next (λ (x : ℕ). x % 65536) c.self.inside.words l.halves l.k _ (search rules) (search rules) l.invariant.1)

pub returns : goal.returns
returns c =
    mapped (λ (x : ℕ). x % 65536) c.self.inside.words c.loop-k.halves 600 (search rules) c.loop-k.invariant.0 (λ i h. c.loop-k.invariant.1 i (omega (arith, h)))
    ∙ ap (λ (h : Held). map (λ (x : ℕ). x % 65536) h.words) c.self.view_is
