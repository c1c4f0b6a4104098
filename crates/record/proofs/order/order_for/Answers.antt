use mathlib.Core.Path.{◌≡◌, sym, ap, ◌∙◌}
use mathlib.Core.List.{List}
use Prim.Native.Nat.{ℕ}
use native.Mathlib.Omega.{arith}
use Rattle.std.specs.Prelude.{Result, Ok}
use Rattle.records.specs.Reading.{record_of}
use Rattle.records.specs.Orders.{order_for, SameOrder}
use Rattle.records.proofs.Orders.{order_torn, order_other, order_own, cabs_alike}
use Rattle.record_form.proofs.Places.{truck-bytes, shovel-bytes}
use Rattle.record.proofs.Tested.{whole, facts}
use Rattle.record.proofs.order.order_for.Goals as goal
use Rattle.record.proofs.order.order_for.Goals.{After-half_at}

-- an answer is what every record with the same truck and shovel gets
alike : {r : Result ℕ ℕ} (truck : ℕ) (bytes : List ℕ) → order_for truck bytes ≡ r
    → (r ≡ order_for truck bytes) × ((other : List ℕ) → SameOrder bytes other → r ≡ order_for truck other)
alike truck bytes e = (sym e, λ other h. sym e ∙ cabs_alike bytes other h truck)

truck-is : (c : After-half_at) → c.half_at.result ≡ (record_of c.args.bytes.now).truck
unfolding record_of
truck-is c = c.half_at.ensures ∙ sym (truck-bytes _ ((facts _ c.is_whole.ensures c.if-not-is_whole.false)).low)

pub returns-then-not-is_whole : goal.returns-then-not-is_whole
returns-then-not-is_whole c = let both = alike _ _ (order_torn _ _ (sym c.is_whole.ensures ∙ c.if-not-is_whole.true)) in record { answer = both.0; alone = both.1 }

pub half_at-requires : goal.half_at-requires
half_at-requires c = omega (arith, (facts _ c.is_whole.ensures c.if-not-is_whole.false).long)

pub returns-then-truck-half_at : goal.returns-then-truck-half_at
returns-then-truck-half_at c = let both = alike _ _ (order_other _ _ (whole _ c.is_whole.ensures c.if-not-is_whole.false) (λ e. c.if-truck-half_at.true (e ∙ sym (truck-is (goal.at.returns-then-truck-half_at c).After-half_at)))) in record { answer = both.0; alone = both.1 }

pub half_at-requires-2 : goal.half_at-requires-2
half_at-requires-2 c = omega (arith, (facts _ c.is_whole.ensures c.if-not-is_whole.false).long)

pub returns : goal.returns
unfolding record_of
returns c = let both = alike _ _
    (order_own _ _ (whole _ c.is_whole.ensures c.if-not-is_whole.false) (c.if-truck-half_at.false ∙ truck-is (goal.at.returns c).After-half_at)
    ∙ ap Ok (shovel-bytes _ (facts _ c.is_whole.ensures c.if-not-is_whole.false).low ∙ sym c.half_at-2.ensures)) in record { answer = both.0; alone = both.1 }
