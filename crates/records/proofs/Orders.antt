-- THE CAB LEARNS NOTHING ELSE: what it is told depends on whether the record is whole, its truck and its shovel, and on nothing else; and on all of these.
use mathlib.Core.Path.{◌≡◌, refl, sym, ap, ◌∙◌}
use mathlib.Core.Logic.{◌≢◌}
use mathlib.Core.Bool.{Bool, true, false, cond, not, true≢false}
use mathlib.Core.List.{List}
use Prim.Native.Nat.{ℕ}
use borrow.Author.Tests.{eqb-true, eq-eqb, ne_eqb}
use lib.Dec.{eqb}
use Rattle.refusals.specs.Refusals.{first_of, number}
use Rattle.refusals.specs.declared.Refusal.TheVariants.{MalformedRecord, TruckMismatch}
use Rattle.std.specs.Prelude.{Result, Ok, Err}
use Rattle.records.specs.Reading.{is_whole, Whole, record_of}
use Rattle.records.specs.Orders.{order_for, heard, SameOrder}

-- by those three alone
pub order-heard : (cab : ℕ) (bytes : List ℕ) → order_for cab bytes ≡ heard cab (is_whole bytes) (record_of bytes).truck (record_of bytes).shovel
unfolding order_for first_of
order-heard cab bytes = go (is_whole bytes) (eqb cab (record_of bytes).truck)
  where
    go : (w t : Bool) → let s = (record_of bytes).shovel in
        let r = cond (not w) (number MalformedRecord) (cond (not t) (number TruckMismatch) 0) in
        cond (eqb r 0) (Ok s) (Err r) ≡ cond w (cond t (Ok s) (Err (number TruckMismatch))) (Err (number MalformedRecord))
    go true true = refl
    go true false = refl
    go false true = refl
    go false false = refl

-- by case
pub order_torn : (cab : ℕ) (bytes : List ℕ) → is_whole bytes ≡ false → order_for cab bytes ≡ Err 20
order_torn cab bytes t = order-heard cab bytes ∙ rw t refl

pub order_other : (cab : ℕ) (bytes : List ℕ) → Whole bytes → cab ≢ (record_of bytes).truck → order_for cab bytes ≡ Err 21
order_other cab bytes w ne = order-heard cab bytes ∙ rw (w, ne_eqb cab _ ne) refl

pub order_own : (cab : ℕ) (bytes : List ℕ) → Whole bytes → cab ≡ (record_of bytes).truck → order_for cab bytes ≡ Ok (record_of bytes).shovel
order_own cab bytes w e = order-heard cab bytes ∙ rw (w, eq-eqb cab _ e) refl

-- two whole records with the same truck and shovel: every cab hears the same
pub cabs_alike : (a b : List ℕ) → SameOrder a b → (cab : ℕ) → order_for cab a ≡ order_for cab b
cabs_alike a b h cab =
    order-heard cab a
    ∙ (λ i. heard cab ((h.whole_a ∙ sym h.whole_b) i) (h.truck i) (h.shovel i))
    ∙ sym (order-heard cab b)

-- ---- and conversely

-- what is heard by a record's own cab tells its shovel, and of another record that it is whole and has the same truck and shovel
abbrev shovel_in : Result ℕ ℕ → ℕ
shovel_in (Ok s) = s
shovel_in (Err r) = 0

abbrev is_order : Result ℕ ℕ → Bool
is_order (Ok s) = true
is_order (Err r) = false

own : (truck shovel : ℕ) → heard truck true truck shovel ≡ Ok shovel
own truck shovel = rw (eq-eqb truck truck refl) refl

heard_back : (cab : ℕ) (w : Bool) (t s s₂ : ℕ) → heard cab w t s ≡ Ok s₂ → (w ≡ true) × (cab ≡ t) × (s₂ ≡ s)
heard_back cab false t s s₂ e = absurd (true≢false (sym (ap is_order e)))
heard_back cab true t s s₂ e = go (eqb cab t) refl e
  where
    go : (b : Bool) → eqb cab t ≡ b → cond b (Ok s) (Err (number TruckMismatch)) ≡ Ok s₂ → (true ≡ true) × (cab ≡ t) × (s₂ ≡ s)
    go true q e = (refl, eqb-true cab t q, sym (ap shovel_in e))
    go false q e = absurd (true≢false (sym (ap is_order e)))

-- its cab is answered by both alike
pub cab_tells : (a b : List ℕ) → Whole a → order_for (record_of a).truck a ≡ order_for (record_of a).truck b → SameOrder a b
cab_tells a b w e =
    let t = (record_of a).truck in
    let told = sym (ap (λ (w : Bool). heard t w t (record_of a).shovel) w ∙ own t (record_of a).shovel) in
    let h = heard_back t (is_whole b) (record_of b).truck (record_of b).shovel (record_of a).shovel (sym (order-heard t b) ∙ sym e ∙ order-heard t a ∙ sym told) in
    record { whole_a = w; whole_b = h.0; truck = h.1; shovel = h.2 }
