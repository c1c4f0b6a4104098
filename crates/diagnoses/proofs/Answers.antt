-- What is answered: one answer alone, the places of the least fatal set, exactly where 7 is told; and whoever leaves these entries as they are can't mend the table.
use mathlib.Core.Path.{◌≡◌, refl, sym, ap, ap₂, ◌∙◌, subst}
use mathlib.Core.Logic.{◌↔◌, ◌≢◌}
use mathlib.Core.Bool.{Bool, true, false, cond}
use mathlib.Core.List.{List, []}
use Prim.Native.Nat.{ℕ, ◌-◌, ◌*◌, ◌^◌, ◌≤◌, ◌<◌}
use native.Mathlib.Decide.{ℕ_discrete}
use native.Mathlib.Omega.{arith}
use borrow.Author.Tests.{eq-eqb, ne_eqb}
use lib.ListN.{length, get_or, take, get_or-eq_default}
use lib.Pow.{pow_mono}
use Rattle.cycle.specs.Notation.{count, zero_filled}
use Rattle.cycle.specs.Cycle.{SingleCycle, first_return}
use Rattle.cycle.proofs.Lists.{get_or-filled, take-filled}
use Rattle.cycle.proofs.Iterate.{MapsBelow}
use Rattle.completions.specs.Completion.{Excludes}
use Rattle.completions.specs.Sets.{members, LeastSet}
use Rattle.completions.proofs.Least.{least_exists}
use Rattle.completions.proofs.Members.{members-count, member_at, member_of, members_ascend, least-unique}
use Rattle.tsc.specs.declared.Card.{Card}
use Rattle.tsc.specs.Step.{entry}
use Rattle.tsc.specs.Coverage.{WellFormed}
use Rattle.tsc.proofs.Table.{table_below}
use Rattle.refusals.specs.Refusals.{check, first_of, number}
use Rattle.refusals.specs.declared.Refusal.TheVariants.{NotSingleCycle, SingleCycle as SoundRing}
use Rattle.refusals.proofs.Refusals.{first-append, first-left, first_both, none_first}
use Rattle.card_format.specs.Reading.{card_of, form_checks, SoundForm}
use Rattle.card_format.specs.Verdict.{verdict}
use Rattle.card_format.proofs.Sound.{sound_card}
use Rattle.card_format.proofs.Verdict.{verdict-period, verdict-form, words-sound}
use Rattle.diagnoses.specs.declared.BadPlaces.{BadPlaces}
use Rattle.diagnoses.specs.BadPlaces.{Fatal, is_single_cycle, bad_checks, most_places, showing, no_places, Shows}
use Rattle.diagnoses.proofs.Fatal.{seven_iff, least_fatal}

-- ---- which refusal

module _ (bytes : List ℕ) where
  abbrev N : ℕ
  N = 2 ^ (card_of bytes).words

  abbrev f : ℕ → ℕ
  f = entry (card_of bytes)

  -- of a card of bad form, what the reader and check tell
  pub form_told : first_of (form_checks bytes) ≢ 0 → first_of (bad_checks bytes) ≡ first_of (form_checks bytes)
  unfolding bad_checks
  form_told ne = first-left (form_checks bytes) _ ne

  pub bad_form : first_of (form_checks bytes) ≢ 0 → first_of (bad_checks bytes) ≡ verdict bytes
  bad_form ne = form_told ne ∙ verdict-form bytes ne

  -- places are shown of cards of sound form alone, whose table is no single cycle
  pub shown-sound : first_of (bad_checks bytes) ≡ 0 → SoundForm bytes
  unfolding bad_checks
  shown-sound z = none_first (form_checks bytes) (first_both (form_checks bytes) _ z).0

  module _ (s : SoundForm bytes) where
    below : MapsBelow N f
    below = (sound_card bytes s).entries

    pub told : (b : Bool) → is_single_cycle (card_of bytes) ≡ b → first_of (bad_checks bytes) ≡ cond b (number SoundRing) 0
    unfolding bad_checks first_of
    told b e = first-append (form_checks bytes) _ s ∙ ap (λ (b : Bool). cond b (number SoundRing) 0) e

    -- 26 of a single cycle, and of no other table
    told_ring : SingleCycle N f 0 → first_of (bad_checks bytes) ≡ number SoundRing
    told_ring c = told true (eq-eqb _ _ ((table_below (card_of bytes) below).1 c))

    told_none : (SingleCycle N f 0 → ⊥) → first_of (bad_checks bytes) ≡ 0
    told_none none = told false (ne_eqb _ _ (λ e. none ((table_below (card_of bytes) below).0 e)))

    pub ring_iff : (first_of (bad_checks bytes) ≡ number SoundRing) ↔ SingleCycle N f 0
    ring_iff = (λ e. go (ℕ_discrete (first_return f N) N) e, told_ring)
      where
        go : Dec (first_return f N ≡ N) → first_of (bad_checks bytes) ≡ number SoundRing → SingleCycle N f 0
        go (yes q) e = (table_below (card_of bytes) below).0 q
        go (no q) e = absurd (omega (arith, told false (ne_eqb _ _ q)))

    -- places are shown exactly where check tells 7
    pub shown_iff : (first_of (bad_checks bytes) ≡ 0) ↔ (verdict bytes ≡ number NotSingleCycle)
    shown_iff = (
      λ z. sym (verdict-period bytes s) ∙ (seven_iff (card_of bytes) below).1 (λ c. let r = told_ring c in omega arith),
      λ v. told_none ((seven_iff (card_of bytes) below).0 (verdict-period bytes s ∙ v)),
    )

-- ---- what fits

pub shows_refused : (bytes : List ℕ) (r : BadPlaces) (n : ℕ) → first_of (bad_checks bytes) ≡ n → n ≢ 0 → r ≡ no_places n → Shows bytes r
shows_refused bytes r n e ne h = record { refused = λ p. h ∙ ap no_places (sym e); shown = λ z. absurd (ne (sym e ∙ z)) }

pub shows_least : (bytes : List ℕ) (r : BadPlaces) (P : ℕ → Bool) → let card = card_of bytes in first_of (bad_checks bytes) ≡ 0
    → LeastSet (2 ^ card.words) (Excludes (2 ^ card.words) (entry card)) P → r ≡ showing (2 ^ card.words) P → Shows bytes r
shows_least bytes r P z least h = record { refused = λ p. absurd (omega arith); shown = λ z. (P, least_fatal (card_of bytes) P least, h) }

-- ---- what is shown

-- the list at the front, zeros past it
module _ (N : ℕ) (P : ℕ → Bool) where
  shown_at : (k : ℕ) → get_or (showing N P).places k 0 ≡ get_or (members N P) k 0
  shown_at k = get_or-filled (members N P) (most_places - length (members N P)) k 0

  shown-past : (k : ℕ) → count N P ≤ k → get_or (showing N P).places k 0 ≡ 0
  shown-past k l = shown_at k ∙ get_or-eq_default (members N P) 0 (omega (arith, members-count N P))

-- an answer that is refused, or that shows places
by_told : {A : Type 0} (n : ℕ) → (0 < n → A) → (n ≡ 0 → A) → A
by_told {A} n some none = go (ℕ_discrete n 0)
  where
    go : Dec (n ≡ 0) → A
    go (yes z) = none z
    go (no p) = some (omega arith)

-- ascending, and zeros past them
abbrev pub Ascends : BadPlaces → Type 0
Ascends r = (j k : ℕ) → j < k → k < r.count → get_or r.places j 0 < get_or r.places k 0

pub ascending : (bytes : List ℕ) (r : BadPlaces) → Shows bytes r → Ascends r
ascending bytes r a =
    by_told (first_of (bad_checks bytes)) (λ p. subst Ascends (sym (a.refused p)) (λ j k jk l. absurd (omega arith)))
    (λ z. let (P, least, e) = a.shown z in subst Ascends (sym e) (λ j k jk l. rw (shown_at _ P j, shown_at _ P k) (members_ascend _ P j k jk l)))

abbrev pub ZerosPast : BadPlaces → Type 0
ZerosPast r = (k : ℕ) → r.count ≤ k → get_or r.places k 0 ≡ 0

pub zeros-past : (bytes : List ℕ) (r : BadPlaces) → Shows bytes r → ZerosPast r
zeros-past bytes r a =
    by_told (first_of (bad_checks bytes)) (λ p. subst ZerosPast (sym (a.refused p)) (λ k l. get_or-filled [] most_places k 0))
    (λ z. let (P, least, e) = a.shown z in subst ZerosPast (sym e) (shown-past _ P))

-- the places of the least fatal set
pub exactly : (bytes : List ℕ) (r : BadPlaces) → Shows bytes r → first_of (bad_checks bytes) ≡ 0 → let N = 2 ^ (card_of bytes).words in
    (P : ℕ → Bool) × LeastSet N (Fatal (card_of bytes)) P × (r.count ≡ count N P) × (take r.count r.places ≡ members N P)
exactly bytes r a z =
    let N = 2 ^ (card_of bytes).words in
    let (P, least, e) = a.shown z in (
      P,
      least,
      ap (λ (r : BadPlaces). r.count) e,
      ap (λ (r : BadPlaces). take r.count r.places) e ∙ take-filled most_places (count N P) (members N P) (members-count N P),
    )

-- each is a place of the table
pub shown-below : (bytes : List ℕ) (r : BadPlaces) → Shows bytes r → first_of (bad_checks bytes) ≡ 0 → (k : ℕ) → k < r.count → get_or r.places k 0 < 2 ^ (card_of bytes).words
shown-below bytes r a z k =
    let N = 2 ^ (card_of bytes).words in
    let (P, least, e) = a.shown z in
    subst (λ (r : BadPlaces). k < r.count → get_or r.places k 0 < N) (sym e) (λ l. rw (shown_at N P k) (member_at N P k l).0)

-- ---- there is one answer, and half of the places are told at most

module _ (bytes : List ℕ) (z : first_of (bad_checks bytes) ≡ 0) where
  abbrev card : Card
  card = card_of bytes

  formed : WellFormed card
  formed = sound_card bytes (shown-sound bytes z)

  unsound : SingleCycle (2 ^ card.words) (entry card) 0 → ⊥
  unsound c = let r = (ring_iff bytes (shown-sound bytes z)).1 c in omega arith

  chosen : (P : ℕ → Bool) × (LeastSet (2 ^ card.words) (Excludes (2 ^ card.words) (entry card)) P × (2 * count (2 ^ card.words) P ≤ 2 ^ card.words))
  chosen = least_exists (2 ^ card.words) (entry card) (pow_mono formed.words) formed.entries unsound

pub shows_exists : (bytes : List ℕ) → (r : BadPlaces) × Shows bytes r
shows_exists bytes =
    by_told (first_of (bad_checks bytes)) (λ p. let n = first_of (bad_checks bytes) in (no_places n, shows_refused bytes (no_places n) n refl (λ z. omega arith) refl))
    (λ z. let (P, c) = chosen bytes z in let r = showing (2 ^ (card_of bytes).words) P in (r, shows_least bytes r P z c.0 refl))

pub shows_unique : (bytes : List ℕ) (r s : BadPlaces) → Shows bytes r → Shows bytes s → r ≡ s
shows_unique bytes r s a b =
    by_told (first_of (bad_checks bytes)) (λ p. a.refused p ∙ sym (b.refused p))
    (λ z.
    let N = 2 ^ (card_of bytes).words in
    let (P, least, e) = a.shown z in
    let (Q, also, g) = b.shown z in
    let l = least-unique N (Fatal (card_of bytes)) P Q least also in
    let c : count N P ≡ count N Q = sym (members-count N P) ∙ ap length l ∙ members-count N Q in
    e ∙ ap₂ (λ (xs : List ℕ) (n : ℕ). record { places = zero_filled most_places xs; count = n; refusal = 0 }) l c ∙ sym g)

pub shown-half : (bytes : List ℕ) (r : BadPlaces) → Shows bytes r → first_of (bad_checks bytes) ≡ 0 → 2 * r.count ≤ 2 ^ (card_of bytes).words
shown-half bytes r a z =
    let (P, c) = chosen bytes z in
    let s = showing (2 ^ (card_of bytes).words) P in
    let e = shows_unique bytes r s a (shows_least bytes s P z c.0 refl) in
    omega (arith, c.1, ap (λ (r : BadPlaces). r.count) e)

-- so every answer fits its array
pub shown-fits : (bytes : List ℕ) (r : BadPlaces) → Shows bytes r → r.count ≤ most_places
shown-fits bytes r a =
    by_told (first_of (bad_checks bytes)) (λ p. omega (arith, ap (λ (r : BadPlaces). r.count) (a.refused p)))
    (λ z. omega (arith, shown-half bytes r a z, pow_mono (words-sound bytes (shown-sound bytes z))))

-- ---- what does not mend it

-- a card of as many words whose entries at the places shown are the same gets 7 as well
pub still_seven : (bytes other : List ℕ) (r : BadPlaces) → Shows bytes r → first_of (bad_checks bytes) ≡ 0 → SoundForm other → (card_of other).words ≡ (card_of bytes).words
    → ((k : ℕ) → k < r.count → let x = get_or r.places k 0 in entry (card_of other) x ≡ entry (card_of bytes) x) → verdict other ≡ number NotSingleCycle
still_seven bytes other r a z s w =
    let N = 2 ^ (card_of bytes).words in
    let (P, least, e) = a.shown z in
    subst (λ (r : BadPlaces). ((k : ℕ) → k < r.count → let x = get_or r.places k 0 in entry (card_of other) x ≡ entry (card_of bytes) x) → verdict other ≡ number NotSingleCycle)
    (sym e)
    (λ keep.
    sym (verdict-period other s)
    ∙ least.wanted (card_of other) (record {
      words = w;
      allowed = subst (λ (m : ℕ). (x : ℕ) → x < 2 ^ m → entry (card_of other) x < 2 ^ m) w (sound_card other s).entries;
      agrees = λ x l h.
          let (k, lk, g) = member_of N P x l h in
          subst (λ (x : ℕ). entry (card_of other) x ≡ entry (card_of bytes) x) (shown_at N P k ∙ g) (keep k lk);
    }))
