-- THE CLAIM: the user's three demands in the user's order, each part a statement, and what the requests of document 02 add. proofs/Demands.antt proves them all.
-- What a call answers, and what it leaves in the words or the page lent to it, is by its contract what the definitions named here say, for every input.
use Rattle.std.specs.Prelude.{◌≡◌, ◌↔◌, ◌⊎◌, ◌≢◌, Bool, true, false, List, [], ◌∷◌, ◌++◌, reverse, ℕ, suc, ◌+◌, ◌-◌, ◌*◌, ◌/◌, ◌%◌, ◌^◌, ◌≤◌, ◌<◌, max, eqb, ℤ, pos, nat_abs, ◌+ℤ◌, ◌-ℤ◌, ◌*ℤ◌, length, get_or, take, drop, Result, None, Ok, Err}
use Rattle.refusals.specs.Refusals.{Check, first_of, NoneApplies, number}
use Rattle.refusals.specs.declared.Refusal.TheVariants.{NoSuchChange}
use Rattle.cycle.specs.Notation.{one, count, All, iterate, bit}
use Rattle.cycle.specs.Cycle.{SingleCycle}
use Rattle.cycle.specs.Period.{Period, LeastPeriod}
use Rattle.cycle.specs.Fair.{gives_rank}
use Rattle.completions.specs.Completion.{RepeatIn, ShortCycleIn}
use Rattle.completions.specs.Sets.{members, LeastSet}
use Rattle.tsc.specs.declared.Card.{Card}
use Rattle.tsc.specs.Columns.{column}
use Rattle.tsc.specs.Selector.{selector}
use Rattle.tsc.specs.Step.{entry, power, step, orbit}
use Rattle.tsc.specs.Word.{filtered, word, word_at, orbit_words}
use Rattle.tsc.specs.Coverage.{IsState, states, step_back}
use Rattle.tsc.specs.Opposite.{opposite, Differs}
use Rattle.card_format.specs.Fields.{Bytes}
use Rattle.card_format.specs.Reading.{present, card_of, form_checks, reading}
use Rattle.card_format.specs.Verdict.{card_checks, verdict, ZeroIffCovers, Accepted}
use Rattle.card_format.specs.Writing.{written, write_checks, writing, page_after, rewrite_checks, rewriting, page_rewritten}
use Rattle.card_format.specs.Examples.{p1, p2}
use Rattle.diagnoses.specs.declared.BadPlaces.{BadPlaces}
use Rattle.diagnoses.specs.BadPlaces.{Fatal, bad_checks, no_places, Shows}
use Rattle.periods.specs.WordPeriod.{WordPeriod, repeating}
use Rattle.draws.specs.Calls.{call_checks, refusal_for, stepped, stepped_back, drawing, OnlyBefore}
use Rattle.gates.specs.Formulas.{Formula, on_bits, on_words, equation16, equation17}
use Rattle.gates.specs.Tsc1.{tsc1_card, GivesPower, gate_step}
use Rattle.fills.specs.Fills.{fill_checks, fill_refusal, filled, filled_state}
use Rattle.fills.specs.Draws.{drawn_strip, draws_made}
use Rattle.ties.specs.Ties.{is_tie, ties, chosen, TieAt}
use Rattle.ties.specs.Order.{SameShovels}
use Rattle.samples.specs.Samples.{most_taken, limit, taken, drawn_rank, drawn_state}
use Rattle.picks.specs.declared.Pick.TheVariants as Pick
use Rattle.picks.specs.Picks.{pick_checks, picking, words_taken, picked}
use Rattle.places.specs.Distances.{square, squared_distance}
use Rattle.places.specs.Places.{Places, distances_of, paired, is_on_map, on_map, is_radius}
use Rattle.places.specs.Order.{SamePlaces}
use Rattle.map_picks.specs.MapPicks.{map_pick_checks, map_picking, map_picked}
use Rattle.map_picks.specs.Shift.{Call, mixed_answers, mixed_state, AlikeCalls}
use Rattle.nearby.specs.Calls.{within_checks, listing, no_list, within_radius}
use Rattle.changes.specs.declared.Change.{Change}
use Rattle.changes.specs.Change.{changed, Counts}
use Rattle.margins.specs.declared.Nearest.{Nearest}
use Rattle.margins.specs.Margins.{Elsewhere, Tells, IsMargin}
use Rattle.picks.specs.Shift.{Request, answers, state_after, Alike}
use Rattle.picks.specs.Fair.{sent_by_first}
use Rattle.records.specs.declared.Record.{Record}
use Rattle.records.specs.Fields.{record_bytes}
use Rattle.records.specs.Reading.{is_whole, Whole, record_checks, record_of, reading_record}
use Rattle.records.specs.Writing.{state_of, encoded, Fits, full_record, recorded_on}
use Rattle.records.specs.Orders.{order_checks, order_for, heard, SameOrder}
use Rattle.recorded_picks.specs.Recorded.{Halves, recorded_checks, recorded_picking, recorded_state, record_left, recorded_page}
use Rattle.bit_counts.specs.Bits.{bits_of, text, words_read}
use Rattle.bit_counts.specs.Counts.{balance, running_sum, furthest, runs, counts_of, peak, trough}
use Rattle.bit_counts.specs.Calls.{strip_bits, bit_checks, counting_bits, bit_page}
use Rattle.bit_counts.specs.Examples.{ExamplesHold}
use Rattle.recorded_picks.specs.Shift.{Dispatch, pages_lent, outcomes, end_state, pages_after, AlikeDispatches}

-- ---- demand 1: whatever card, state, page or shovel list is handed over, the call ends with an answer or the paper's refusal number, and a refusal leaves
-- state and page as lent. (That every call ends is part of its proof.)

-- what a call that has these checks answers and leaves, `result`: where no check applies it is `good`; else it is the refusal of the first that applies, and
-- what was lent as it was
pub record ByTable {A L : Type 0} (refused : ℕ → A) (checks : List Check) (lent : L) (good result : A × L) : Type 0 where
  pub passes : NoneApplies checks → result ≡ good
  pub refuses : first_of checks ≢ 0 → result ≡ (refused (first_of checks), lent)

-- where nothing is lent that the call could change
abbrev pub nothing : Unit {0}
nothing = tt

pub record AnsweredOrRefused : Type 0 where
  pub of_check : (bytes : List ℕ) → ByTable (λ r. r) (card_checks bytes) nothing (0, nothing) (verdict bytes, nothing)
  pub of_read : (bytes : List ℕ) →
      ByTable Err (form_checks bytes) nothing (Ok (card_of bytes), nothing) (reading bytes, nothing)
  pub of_write : (card : Card) (page : List ℕ) → ByTable Err (write_checks card (length page)) page
      (Ok (length (written card)), written card ++ drop (length (written card)) page) (writing card (length page), page_after card page)
  pub of_rewrite : (bytes page : List ℕ) → ByTable Err (rewrite_checks bytes (length page)) page
      (Ok (length bytes), bytes ++ drop (length bytes) page) (rewriting bytes (length page), page_rewritten bytes page)
  pub of_step : (bytes xs : List ℕ) → ByTable (λ r. r) (call_checks bytes xs) xs (0, step (card_of bytes) xs) (refusal_for bytes xs, stepped bytes xs)
  pub of_step_back : (bytes xs : List ℕ) → ByTable (λ r. r) (call_checks bytes xs) xs (0, step_back (card_of bytes) xs) (refusal_for bytes xs, stepped_back bytes xs)
  pub of_draw : (bytes xs : List ℕ) → let next = step (card_of bytes) xs in
      ByTable Err (call_checks bytes xs) xs (Ok (word (card_of bytes) next), next) (drawing bytes xs, stepped bytes xs)
  pub of_fill : (bytes xs strip : List ℕ) (place count : ℕ) → let card = card_of bytes in
      ByTable {L = List ℕ × List ℕ} (λ r. r) (fill_checks bytes xs strip place count) (strip, xs)
      (0, (take place strip ++ orbit_words card xs count ++ drop (place + count) strip, orbit card xs count))
      (fill_refusal bytes xs strip place count, (filled bytes xs strip place count, filled_state bytes xs strip place count))
  pub of_pick : (bytes xs shovels times : List ℕ) → let card = card_of bytes in let k = ties times in
      ByTable Pick.Refused (pick_checks bytes xs shovels times) xs
      (Pick.Shovel (chosen shovels times (drawn_rank card xs k)) k (taken card xs k), drawn_state card xs k)
      (picking bytes xs shovels times, picked bytes xs shovels times)
  -- with room on the page a recorded pick is the pick, and its record is put there
  pub of_recorded_pick : (bytes xs shovels times : List ℕ) (truck : ℕ) (page : List ℕ) → let room = length page in let p = picking bytes xs shovels times in
      ByTable {L = List ℕ × List ℕ} Pick.Refused (recorded_checks bytes xs shovels times room) (xs, page)
      (p, (picked bytes xs shovels times, recorded_on (record_left truck xs p) page))
      (recorded_picking bytes xs shovels times room, (recorded_state bytes xs shovels times room, recorded_page bytes xs shovels times truck page))
  pub of_read_record : (bytes : List ℕ) → ByTable Err (record_checks bytes) nothing
      (Ok (record_of bytes), nothing) (reading_record bytes, nothing)
  pub of_order : (truck : ℕ) (bytes : List ℕ) →
      ByTable Err (order_checks truck bytes) nothing (Ok (record_of bytes).shovel, nothing) (order_for truck bytes, nothing)
  pub of_bit_counts : (bytes strip page : List ℕ) → let bits = strip_bits bytes strip in
      ByTable Err (bit_checks bytes strip (length page)) page
      (Ok (counts_of bits), text bits ++ drop (length bits) page) (counting_bits bytes strip (length page), bit_page bytes strip page)
  -- a pick by the map is the timed pick by the squared distances
  pub of_pick_by_map : (bytes state : List ℕ) (q : Places) → let ds = distances_of q in
      ByTable Pick.Refused (map_pick_checks bytes state q) state
      (picking bytes state q.shovels ds, picked bytes state q.shovels ds) (map_picking bytes state q, map_picked bytes state q)
  pub of_within : (q : Places) (radius : ℤ) →
      ByTable no_list (within_checks q radius) nothing (listing q radius, nothing) (within_radius q radius, nothing)
  -- bad places where nothing is refused: document 02, Eleven, below
  pub of_bad_places : (bytes : List ℕ) (r : BadPlaces) → Shows bytes r → let n = first_of (bad_checks bytes) in n ≢ 0 → r ≡ no_places n
  -- a margin is refused as the pick is; where it is not, document 02, Four, below
  pub of_margin : (bytes xs shovels times : List ℕ) (m : Result Nearest ℕ) → IsMargin bytes xs shovels times m → let r = first_of (pick_checks bytes xs shovels times) in
      r ≢ 0 → m ≡ Err r

-- ---- demand 2: each step and word equals the published definition, step back undoes step and step undoes step back for accepted cards, an accepted card
-- written out again has the same bytes, a tie goes by drawn rank among the equal shovels by ascending number, so list order makes no difference

-- a card that the check accepts, and a state of its size: no step, step back or draw is refused
pub record Ready (bytes xs : List ℕ) : Type 0 where
  pub accepted : verdict bytes ≡ 0
  pub state : IsState (card_of bytes) xs

-- 2a. The step, column by column (document 002, 12); t calls leave state number t of the orbit (3), and the next draws the word of state number t + 1 (15, 20)
pub record Published : Type 0 where
  pub columns : (bytes xs : List ℕ) → Ready bytes xs → (i : ℕ) → i < (card_of bytes).width → let card = card_of bytes in
      column i (stepped bytes xs) ≡ iterate (entry card) (power card (bit i (selector card xs))) (column i xs)
  pub states : (bytes xs : List ℕ) → Ready bytes xs → (t : ℕ) → iterate (stepped bytes) t xs ≡ orbit (card_of bytes) xs t
  pub words : (bytes xs : List ℕ) → Ready bytes xs → (t : ℕ)
      → drawing bytes (iterate (stepped bytes) t xs) ≡ Ok (word_at (card_of bytes) xs t)

-- 2b. Of the calls, and of the definitions
pub record Undone : Type 0 where
  pub back_of_step : (bytes xs : List ℕ) → Ready bytes xs → stepped_back bytes (stepped bytes xs) ≡ xs
  pub step_of_back : (bytes xs : List ℕ) → Ready bytes xs → stepped bytes (stepped_back bytes xs) ≡ xs
  pub only : (bytes xs ys : List ℕ) → Ready bytes xs → Ready bytes ys → stepped bytes xs ≡ ys → xs ≡ stepped_back bytes ys
  pub back_of_step_defined : (card : Card) → Accepted card → (xs : List ℕ) → IsState card xs → step_back card (step card xs) ≡ xs
  pub only_defined : (card : Card) → Accepted card → (xs : List ℕ) → IsState card xs → OnlyBefore card (step_back card xs) xs

-- 2c. An accepted card, read and written to a page with room: the same bytes at its front, and the rest as it was
pub record SameBytes : Type 0 where
  pub read_and_written : (bytes page : List ℕ) → Bytes bytes → verdict bytes ≡ 0 → length bytes ≤ length page → (card : Card) × (reading bytes ≡ Ok card)
      × (writing card (length page) ≡ Ok (length bytes)) × (page_after card page ≡ bytes ++ drop (length bytes) page)
  pub rewritten : (bytes page : List ℕ) → verdict bytes ≡ 0 → length bytes ≤ length page
      → (rewriting bytes (length page) ≡ Ok (length bytes)) × (page_rewritten bytes page ≡ bytes ++ drop (length bytes) page)

-- 2d. The chosen shovel is the tie of the drawn rank; the same shovels and times in another order make no difference, for one pick and over a shift
pub record SameLots : Type 0 where
  pub ranked : (bytes xs shovels times : List ℕ) → NoneApplies (pick_checks bytes xs shovels times) → let card = card_of bytes in let k = ties times in
      (i : ℕ) × TieAt shovels times (drawn_rank card xs k) i × (picking bytes xs shovels times ≡ Pick.Shovel (get_or shovels i 0) k (taken card xs k))
  pub one_pick : (bytes xs shovels times shovels₂ times₂ : List ℕ) → SameShovels shovels times shovels₂ times₂
      → (picking bytes xs shovels₂ times₂ ≡ picking bytes xs shovels times) × (picked bytes xs shovels₂ times₂ ≡ picked bytes xs shovels times)
  pub shift : (bytes xs : List ℕ) (requests requests₂ : List Request) → Alike requests requests₂
      → (answers bytes xs requests₂ ≡ answers bytes xs requests) × (state_after bytes xs requests₂ ≡ state_after bytes xs requests)

-- ---- demand 3: for any card of sound form and any start, the check accepts exactly when the walk, the published step repeated, brings up every state once
-- and then returns

abbrev pub AcceptedIffCovers : Type 0
AcceptedIffCovers = (bytes : List ℕ) → ZeroIffCovers bytes (verdict bytes)

-- ---- document 02, One: one call writes a wanted count of words into a lent strip; the strip and state end as single draws would leave them, and a count of 0
-- changes nothing

pub record FilledAsDrawn : Type 0 where
  -- for every input; where the span ends past the strip, no draw is made
  pub draws : (bytes xs strip : List ℕ) (place count : ℕ) → let t = draws_made (length strip) place count in
      (filled bytes xs strip place count ≡ drawn_strip bytes xs strip place t) × (filled_state bytes xs strip place count ≡ iterate (stepped bytes) t xs)
  -- so many steps back take the state back
  pub undone : (bytes xs strip : List ℕ) (place count : ℕ) → let t = draws_made (length strip) place count in
      iterate (stepped_back bytes) t (filled_state bytes xs strip place count) ≡ xs
  pub none : (bytes xs strip : List ℕ) (place : ℕ) → (filled bytes xs strip place 0 ≡ strip) × (filled_state bytes xs strip place 0 ≡ xs)
  -- a fill, and a fill behind it, are one fill of both counts
  pub append : (bytes xs strip : List ℕ) (place j k : ℕ) → place + (j + k) ≤ length strip
      → let ys = filled_state bytes xs strip place j in let ws = filled bytes xs strip place j in
      (fill_refusal bytes ys ws (place + j) k ≡ fill_refusal bytes xs strip place (j + k))
      × (filled bytes ys ws (place + j) k ≡ filled bytes xs strip place (j + k))
      × (filled_state bytes ys ws (place + j) k ≡ filled_state bytes xs strip place (j + k))

-- ---- document 02, Two: a word of L or more is passed over and another is drawn, at most 16 in all; the answer gains the number taken (0 when k is 1), and the
-- state has made that many steps. That no shovel of k equal ones gets more loads than another is counted over all states, for the first words of picks

pub record FairRanks : Type 0 where
  -- L is a multiple of k, the largest that is not above 2^n, and more than half of the words are below it
  pub multiple : (card : Card) (k : ℕ) → 0 < k → let M = 2 ^ card.width in (limit card k ≡ M / k * k) × (M < limit card k + k)
  pub most : (card : Card) (k : ℕ) → 0 < k → k ≤ 2 ^ card.width → 2 ^ card.width < 2 * limit card k
  -- no word is taken for one alone, and only then; else all but the last are passed over, the last is below L or the sixteenth, and its remainder serves
  pub none : (card : Card) (xs : List ℕ) (k : ℕ) → (taken card xs k ≡ 0) ↔ (k ≡ 1)
  pub few : (card : Card) (xs : List ℕ) (k : ℕ) → taken card xs k ≤ most_taken
  pub over : (card : Card) (xs : List ℕ) (k t : ℕ) → suc t < taken card xs k → limit card k ≤ word_at card xs t
  pub kept : (card : Card) (xs : List ℕ) (k : ℕ) → k ≢ 1 → taken card xs k < most_taken → word card (orbit card xs (taken card xs k)) < limit card k
  pub serves : (card : Card) (xs : List ℕ) (k : ℕ) → drawn_rank card xs k ≡ word card (orbit card xs (taken card xs k)) % k
  -- the state has made as many steps as the pick tells, for every input, and so many steps back undo it
  pub steps : (bytes xs shovels times : List ℕ) → let t = words_taken (picking bytes xs shovels times) in
      picked bytes xs shovels times ≡ iterate (stepped bytes) t xs
  pub undone : (bytes xs shovels times : List ℕ) → let t = words_taken (picking bytes xs shovels times) in
      iterate (stepped_back bytes) t (picked bytes xs shovels times) ≡ xs
  -- of the numbers of n bits, each rank is given by equally many
  pub ranks : (card : Card) (k r : ℕ) → r < k → count (2 ^ card.width) (gives_rank (2 ^ card.width) k r) ≡ limit card k / k
  -- and each of them is the word of equally many states, along the orbit from any state
  pub words : (bytes xs : List ℕ) → Ready bytes xs → (w : ℕ) → w < 2 ^ (card_of bytes).width → let card = card_of bytes in
      count (states card) (λ t. eqb (word card (orbit card xs t)) w) ≡ 2 ^ ((card.words - 1) * card.width)
  -- so that over the whole orbit the first words send equally many trucks to each of the tied shovels
  pub loads : (bytes xs shovels times : List ℕ) → NoneApplies (pick_checks bytes xs shovels times) → ties times ≢ 1
      → (i : ℕ) → i < length times → is_tie times i ≡ true → let card = card_of bytes in let k = ties times in
      count (states card) (λ t. sent_by_first (get_or shovels i 0) (picking bytes (orbit card xs t) shovels times))
      ≡ limit card k / k * 2 ^ ((card.words - 1) * card.width)

-- ---- document 02, Four: the smallest number of seconds, at least 1, by which one shovel's time, lowered or raised and still 0 to 4294967295, would send the truck
-- elsewhere from the same state. Among equal changes the lower shovel number wins, then lowering before raising. A change whose pick would be refused doesn't
-- count. 19 when no such change exists, as with a list of one. (The state is lent to read only.)

pub record NearestChange : Type 0 where
  -- the change that is told counts, and is told with the changed pick
  pub counts : (bytes xs shovels times : List ℕ) (n : Nearest) → IsMargin bytes xs shovels times (Ok n)
      → (c : Change) × Counts times (Elsewhere bytes xs shovels times) c × Tells bytes xs shovels times c n
  -- no change that counts comes before it
  pub least : (bytes xs shovels times : List ℕ) (n : Nearest) → IsMargin bytes xs shovels times (Ok n)
      → (e : Change) → Counts times (Elsewhere bytes xs shovels times) e → let number = get_or shovels e.place 0 in
      (n.seconds ≤ e.seconds) × (n.seconds ≡ e.seconds → n.changed ≤ number)
      × (n.seconds ≡ e.seconds → n.changed ≡ number → n.raised ≡ true → e.raised ≡ true)
  -- 19 exactly where none counts, once the pick is not refused; so for a list of one
  pub firm : (bytes xs shovels times : List ℕ) → NoneApplies (pick_checks bytes xs shovels times) → (m : Result Nearest ℕ) → IsMargin bytes xs shovels times m
      → (m ≡ Err (number NoSuchChange)) ↔ ((c : Change) → Counts times (Elsewhere bytes xs shovels times) c → ⊥)
  pub alone : (bytes xs shovels times : List ℕ) → NoneApplies (pick_checks bytes xs shovels times) → length times ≡ 1
      → (m : Result Nearest ℕ) → IsMargin bytes xs shovels times m → m ≡ Err (number NoSuchChange)
  -- a change whose pick is refused doesn't count
  pub unrefused : (bytes xs shovels times : List ℕ) (c : Change) → Counts times (Elsewhere bytes xs shovels times) c
      → NoneApplies (pick_checks bytes xs shovels (changed times c))
  -- there is one answer, whatever the order of the list
  pub one : (bytes xs shovels times : List ℕ) (m m₂ : Result Nearest ℕ) → IsMargin bytes xs shovels times m → IsMargin bytes xs shovels times m₂ → m ≡ m₂
  pub order : (bytes xs shovels times shovels₂ times₂ : List ℕ) → SameShovels shovels times shovels₂ times₂
      → (m m₂ : Result Nearest ℕ) → IsMargin bytes xs shovels times m → IsMargin bytes xs shovels₂ times₂ m₂ → m₂ ≡ m

-- ---- document 02, Five: 2 to 8 words, hence a table of 4 to 256 entries and at most 267 bytes. The words past x3 enter the output word behind the filter, and
-- a card of 2 to 4 words draws what it drew

pub record UpToEightWords : Type 0 where
  pub words : (bytes : List ℕ) → verdict bytes ≡ 0 → (2 ≤ (card_of bytes).words) × ((card_of bytes).words ≤ 8)
  pub short : (bytes : List ℕ) → verdict bytes ≡ 0 → length bytes ≤ 267
  pub reached : (bytes : List ℕ) × (verdict bytes ≡ 0) × ((card_of bytes).words ≡ 8) × (length bytes ≡ 267)
  pub as_before : (bytes xs : List ℕ) → Ready bytes xs → (card_of bytes).words ≤ 4
      → word (card_of bytes) xs ≡ filtered (card_of bytes) (λ k. get_or xs k 0)

-- ---- document 02, Six: for the cards P1 and P2, from every state, no shift of 1 to 2^128 - 1 words maps the endless word sequence onto itself, and 2^128 does.
-- With what it rests on, for every accepted card, and with what does not hold

pub record NoEarlyRepeat : Type 0 where
  pub published : All (λ bytes. WordPeriod bytes (2 ^ 128)) (p1 ∷ p2 ∷ [])
  -- the words of every accepted card repeat after N draws, from every state, and where they do so earlier, after N / 2
  pub repeats : (bytes xs : List ℕ) → Ready bytes xs → Period (word_at (card_of bytes) xs) (states (card_of bytes))
  pub halved : (bytes xs : List ℕ) → Ready bytes xs → let card = card_of bytes in
      (d : ℕ) → 0 < d → d < states card → Period (word_at card xs) d → Period (word_at card xs) (states card / 2)
  -- N / 2 steps on every column is as it was but the top one, which the table has moved 2^(m - 1) times
  pub lower : (bytes xs : List ℕ) → Ready bytes xs → let card = card_of bytes in
      (i : ℕ) → suc i < card.width → column i (opposite card xs) ≡ column i xs
  pub top : (bytes xs : List ℕ) → Ready bytes xs → let card = card_of bytes in let i = card.width - 1 in
      column i (opposite card xs) ≡ iterate (entry card) (2 ^ (card.words - 1)) (column i xs)
  -- so N is the least period exactly where some state has another word than the state N / 2 steps on
  pub exactly : (bytes xs : List ℕ) → Ready bytes xs → let card = card_of bytes in
      LeastPeriod (word_at card xs) (states card) ↔ ((ys : List ℕ) × IsState card ys × Differs card ys)
  -- so it is of every accepted card of 32-bit words
  pub wide : (bytes xs : List ℕ) → Ready bytes xs → (card_of bytes).width ≡ 32 → LeastPeriod (word_at (card_of bytes) xs) (states (card_of bytes))
  -- but not of every accepted card: this one has 64 states, and its words repeat after 32
  pub early : (verdict repeating ≡ 0) × (states (card_of repeating) ≡ 64)
      × ((xs : List ℕ) → IsState (card_of repeating) xs → Period (word_at (card_of repeating) xs) 32)
  -- and every column of the state but the top one repeats early: column i after 2^(m (i + 1)) steps, and no sooner
  pub columns : (bytes xs : List ℕ) → Ready bytes xs → let card = card_of bytes in
      (i : ℕ) → i < card.width → LeastPeriod (λ t. column i (orbit card xs t)) (2 ^ (card.words * suc i))

-- ---- document 02, Seven: a tie in a recorded pick leaves a record at the front of the page, and bytes past it are untouched; a pick without a tie leaves the
-- page untouched. The desk reads every field, and a lacking one is told as absent. A cab gives its truck number and sees the shovel, alone

pub record CabAndDesk : Type 0 where
  -- of a tie, the first 8 + 4m bytes of the page are a record: the desk reads truck, shovel, ties, words taken and the state as lent
  pub read_back : (bytes xs shovels times page : List ℕ) (truck s k t : ℕ) → truck < 65536 → Halves shovels
      → recorded_picking bytes xs shovels times (length page) ≡ Pick.Shovel s k t → k ≢ 1
      → let n = record_bytes (card_of bytes).words in let after = recorded_page bytes xs shovels times truck page in
      Whole (take n after) × (reading_record (take n after) ≡ Ok (full_record truck s k t xs)) × (drop n after ≡ drop n page)
  -- and a pick from that state, with the same lists, gives this answer and leaves this state
  pub replayed : (bytes xs shovels times page : List ℕ) (truck s k t : ℕ) → truck < 65536 → Halves shovels
      → recorded_picking bytes xs shovels times (length page) ≡ Pick.Shovel s k t → k ≢ 1
      → let w = take (record_bytes (card_of bytes).words) (recorded_page bytes xs shovels times truck page) in
      (r : Record) × (reading_record w ≡ Ok r) × let ys = state_of r in
      (picking bytes ys shovels times ≡ Pick.Shovel s k t) × (picked bytes ys shovels times ≡ recorded_state bytes xs shovels times (length page))
  pub no_tie : (bytes xs shovels times page : List ℕ) (truck s t : ℕ) → recorded_picking bytes xs shovels times (length page) ≡ Pick.Shovel s 1 t
      → recorded_page bytes xs shovels times truck page ≡ page
  -- of any whole record it reads a field as absent exactly where the field's bit does not stand
  pub absent : (bytes : List ℕ) → Whole bytes → (r : Record) × (reading_record bytes ≡ Ok r)
      × ((r.ties ≡ None) ↔ (present bytes 2 ≡ false)) × ((r.taken ≡ None) ↔ (present bytes 3 ≡ false)) × ((r.words ≡ None) ↔ (present bytes 4 ≡ false))
  -- the cab learns nothing else: two whole records with the same truck and shovel sound the same to every cab
  pub hears_the_same : (a b : List ℕ) → SameOrder a b → (cab : ℕ) → order_for cab a ≡ order_for cab b
  -- what it hears depends on nothing but whether the record is whole, its truck and its shovel; and on all of these, since its own cab tells them apart
  pub depends_on : (cab : ℕ) (bytes : List ℕ) → order_for cab bytes ≡ heard cab (is_whole bytes) (record_of bytes).truck (record_of bytes).shovel
  pub tells : (a b : List ℕ) → Whole a → let cab = (record_of a).truck in order_for cab a ≡ order_for cab b → SameOrder a b
  -- the order of the list makes no difference to answer, state and page; over a shift the standby's records are the server's, and its pages where they held the same
  pub order : (bytes xs shovels times shovels₂ times₂ : List ℕ) → SameShovels shovels times shovels₂ times₂ → (truck : ℕ) (page : List ℕ) → let room = length page in
      (recorded_picking bytes xs shovels₂ times₂ room ≡ recorded_picking bytes xs shovels times room)
      × (recorded_state bytes xs shovels₂ times₂ room ≡ recorded_state bytes xs shovels times room)
      × (recorded_page bytes xs shovels₂ times₂ truck page ≡ recorded_page bytes xs shovels times truck page)
  pub shift : (bytes xs : List ℕ) (dispatches dispatches₂ : List Dispatch) → AlikeDispatches dispatches dispatches₂
      → (outcomes bytes xs dispatches₂ ≡ outcomes bytes xs dispatches) × (end_state bytes xs dispatches₂ ≡ end_state bytes xs dispatches)
  pub pages : (bytes xs : List ℕ) (dispatches dispatches₂ : List Dispatch) → AlikeDispatches dispatches dispatches₂
      → pages_lent dispatches₂ ≡ pages_lent dispatches → pages_after bytes xs dispatches₂ ≡ pages_after bytes xs dispatches
  -- no record is longer than 40 bytes, and one is as long; the same fields, given and lacking, are the same bytes; and all fields that fit have a record
  pub short : (bytes : List ℕ) → Whole bytes → length bytes ≤ 40
  pub reached : (bytes : List ℕ) × Whole bytes × (length bytes ≡ 40)
  pub unique : (a b : List ℕ) → Bytes a → Bytes b → Whole a → Whole b → record_of a ≡ record_of b → a ≡ b
  pub written : (r : Record) → Fits r → Whole (encoded r) × (record_of (encoded r) ≡ r)

-- ---- document 02, Eight: the words of a strip as ASCII 0 and 1, each word's top bit first, n bits a word, and four integers: ones minus zeros with its sign; the
-- largest distance from zero of the running sum, read forward and read backward; the number of runs. All four are 0 for no bits. Page bytes past the last bit
-- are untouched

pub record BitsCounted : Type 0 where
  -- bit n - 1 - i of word k stands at place n k + i
  pub top_bit_first : (bytes strip page : List ℕ) → NoneApplies (bit_checks bytes strip (length page)) → let n = (card_of bytes).width in
      (k i : ℕ) → k < length strip → i < n → get_or (bit_page bytes strip page) (n * k + i) 0 ≡ 48 + bit (n - 1 - i) (get_or strip k 0)
  -- the bits on the page read back are the words
  pub read_back : (bytes strip page : List ℕ) → NoneApplies (bit_checks bytes strip (length page))
      → words_read (card_of bytes).width (length strip) (bit_page bytes strip page) ≡ strip
  pub untouched : (bytes strip page : List ℕ) → NoneApplies (bit_checks bytes strip (length page)) → let n = (card_of bytes).width * length strip in
      drop n (bit_page bytes strip page) ≡ drop n page
  -- the standard's worked examples, and no bits
  pub examples : ExamplesHold
  pub none : counts_of [] ≡ record { balance = pos 0; forward = 0; backward = 0; runs = 0 }
  -- no running sum is further from zero than is told, and one is as far; backward, of the bits reversed
  pub furthest_sum : (bits : List ℕ) → ((k : ℕ) → k ≤ length bits → nat_abs (running_sum bits k) ≤ furthest bits)
      × ((k : ℕ) × (k ≤ length bits) × (nat_abs (running_sum bits k) ≡ furthest bits))
  -- the integers agree with each other and with the number of bits
  pub parity : (bits : List ℕ) → nat_abs (balance bits) % 2 ≡ length bits % 2
  pub bound : (bits : List ℕ) → nat_abs (balance bits) ≤ length bits
  pub forward : (bits : List ℕ) → (nat_abs (balance bits) ≤ furthest bits) × (furthest bits ≤ length bits)
  pub backward : (bits : List ℕ) → (nat_abs (balance bits) ≤ furthest (reverse bits)) × (furthest (reverse bits) ≤ length bits)
  pub few_runs : (bits : List ℕ) → runs bits ≤ length bits
  -- the bits of two strips, one behind the other, are those of one strip: balances add up, and runs, less one where the bits on both sides of the cut are equal
  pub strips : (n : ℕ) (s t : List ℕ) → bits_of n (s ++ t) ≡ bits_of n s ++ bits_of n t
  pub balances : (s t : List ℕ) → balance (s ++ t) ≡ balance s +ℤ balance t
  pub joined_runs : (x : ℕ) (s : List ℕ) (y : ℕ) (t : List ℕ)
      → runs ((x ∷ s) ++ y ∷ t) + one (eqb (get_or (x ∷ s) (length s) 0) y) ≡ runs (x ∷ s) + runs (y ∷ t)
  -- one pass suffices: both distances follow from the total and from how far the running sum, read forward, comes above zero and below
  pub one_pass : (bits : List ℕ) → (furthest bits ≡ max (peak bits) (trough bits))
      × (furthest (reverse bits) ≡ max (nat_abs (balance bits +ℤ pos (trough bits))) (nat_abs (pos (peak bits) -ℤ balance bits)))

-- ---- document 02, Nine: for card P1 alone, equations 16 and 17 of document 002 on whole 32-bit words, which handle all columns together. It must equal the table
-- step on every state

pub record SameByGates : Type 0 where
  -- P1 has TSC-1's values, and no other accepted card has them
  pub values : card_of p1 ≡ tsc1_card
  pub alone : (bytes : List ℕ) → Bytes bytes → verdict bytes ≡ 0 → card_of bytes ≡ card_of p1 → bytes ≡ p1
  -- on each of the sixteen columns (16) is S, and (17) is S twice
  pub once : GivesPower equation16 1
  pub twice : GivesPower equation17 2
  -- a formula on words of n bits acts on each bit by itself: bit i is the formula on column i
  pub bitwise : (n : ℕ) (ws : List ℕ) → ((k : ℕ) → get_or ws k 0 < 2 ^ n) → (f : Formula) (i : ℕ) → i < n → bit i (on_words n ws f) ≡ on_bits (column i ws) f
  -- so the step by these formulas is the step by the table on every state, and along the orbit
  pub steps : (xs : List ℕ) → IsState (card_of p1) xs → gate_step xs ≡ step (card_of p1) xs
  pub orbits : (xs : List ℕ) → IsState (card_of p1) xs → (t : ℕ) → iterate gate_step t xs ≡ orbit (card_of p1) xs t

-- ---- document 02, Ten: grid places in whole metres. The nearest by squared distance is picked, with equals drawn as in a timed pick. All shovels within a radius
-- are listed, edge counted, by distance and then number, as a count and 64 numbers, 0 past the count

pub record ByTheMap : Type 0 where
  -- squared distances, from the truck to each shovel, are those of the integers, 0 at the same place alone, and on the map below 2^63
  pub squared : (ax ay bx by : ℤ) → pos (squared_distance ax ay bx by) ≡ ((ax -ℤ bx) *ℤ (ax -ℤ bx)) +ℤ ((ay -ℤ by) *ℤ (ay -ℤ by))
  pub same_place : (ax ay bx by : ℤ) → (squared_distance ax ay bx by ≡ 0) ↔ ((ax ≡ bx) × (ay ≡ by))
  pub measured : (q : Places) (i : ℕ) → i < length q.xs
      → get_or (distances_of q) i 0 ≡ squared_distance q.x q.y (get_or q.xs i (pos 0)) (get_or q.ys i (pos 0))
  pub narrow : (ax ay bx by : ℤ) → All (λ c. is_on_map c ≡ true) (ax ∷ ay ∷ bx ∷ by ∷ []) → squared_distance ax ay bx by < 2 ^ 63
  -- coordinates are allowed up to a million either way, and a radius from 0 to three million
  pub coordinates : (c : ℤ) → (is_on_map c ≡ true) ↔ (nat_abs c ≤ 1000000)
  pub radii : (r : ℤ) → (is_radius r ≡ true) ↔ ((n : ℕ) × (r ≡ pos n) × (n ≤ 3000000))
  -- where neither 12 nor 25 applies, the pick is the timed pick by these distances, refusals included
  pub timed : (bytes state : List ℕ) (q : Places) → paired q.shovels q.xs q.ys ≡ true → on_map q.x q.y q.xs q.ys ≡ true
      → (map_picking bytes state q ≡ picking bytes state q.shovels (distances_of q)) × (map_picked bytes state q ≡ picked bytes state q.shovels (distances_of q))
  -- and where nothing is refused, the chosen shovel is one of the nearest, of the rank drawn among them
  pub nearest : (bytes state : List ℕ) (q : Places) → NoneApplies (map_pick_checks bytes state q)
      → let card = card_of bytes in let ds = distances_of q in let k = ties ds in
      (i : ℕ) × TieAt q.shovels ds (drawn_rank card state k) i × (map_picking bytes state q ≡ Pick.Shovel (get_or q.shovels i 0) k (taken card state k))
  -- as many steps back as words were taken undo it
  pub undone : (bytes state : List ℕ) (q : Places) → let t = words_taken (map_picking bytes state q) in
      iterate (stepped_back bytes) t (map_picked bytes state q) ≡ state
  -- the order of the list makes no difference, for one pick and over a shift of timed picks and picks by the map in any mix
  pub order : (bytes state : List ℕ) (q q₂ : Places) → SamePlaces q q₂
      → (map_picking bytes state q₂ ≡ map_picking bytes state q) × (map_picked bytes state q₂ ≡ map_picked bytes state q)
  pub shift : (bytes state : List ℕ) (calls calls₂ : List Call) → AlikeCalls calls calls₂
      → (mixed_answers bytes state calls₂ ≡ mixed_answers bytes state calls) × (mixed_state bytes state calls₂ ≡ mixed_state bytes state calls)
  -- the list: exactly the shovels whose squared distance is at most the radius squared; ascending; each once; 0 past the count
  pub exactly : (q : Places) (radius : ℤ) → NoneApplies (within_checks q radius) → (i : ℕ) → i < length q.shovels → let w = within_radius q radius in
      (get_or (distances_of q) i 0 ≤ square radius) ↔ ((p : ℕ) × (p < w.count) × (get_or w.shovels p 0 ≡ get_or q.shovels i 0))
  pub only_these : (q : Places) (radius : ℤ) → NoneApplies (within_checks q radius) → (p : ℕ) → let w = within_radius q radius in p < w.count
      → (i : ℕ) × (i < length q.shovels) × (get_or w.shovels p 0 ≡ get_or q.shovels i 0)
  pub ascending : (q : Places) (radius : ℤ) → NoneApplies (within_checks q radius) → (p r i j : ℕ) → let w = within_radius q radius in
      p < r → r < w.count → i < length q.shovels → j < length q.shovels → get_or w.shovels p 0 ≡ get_or q.shovels i 0 → get_or w.shovels r 0 ≡ get_or q.shovels j 0
      → let ds = distances_of q in (get_or ds i 0 ≤ get_or ds j 0) × (get_or ds i 0 ≡ get_or ds j 0 → get_or q.shovels i 0 < get_or q.shovels j 0)
  pub once : (q : Places) (radius : ℤ) → NoneApplies (within_checks q radius) → (p r : ℕ) → let w = within_radius q radius in
      p < r → r < w.count → get_or w.shovels p 0 ≢ get_or w.shovels r 0
  pub sixty_four : (q : Places) (radius : ℤ) → length (within_radius q radius).shovels ≡ 64
  pub past : (q : Places) (radius : ℤ) → NoneApplies (within_checks q radius) → (p : ℕ) → let w = within_radius q radius in
      w.count ≤ p → get_or w.shovels p 0 ≡ 0
  -- whatever the order of the shovels handed over
  pub same_list : (q q₂ : Places) → SamePlaces q q₂ → (radius : ℤ) → within_radius q₂ radius ≡ within_radius q radius

-- ---- document 02, Eleven: the fewest table places whose entries alone make every completion get 7; of several such sets, the one whose ascending places come
-- first in comparison. The answer is their count and the places in ascending order

pub record FewestPlaces : Type 0 where
  -- 1 to 6 are told as check tells them; 26 exactly of a table that is a single cycle; and places are shown exactly where check tells 7
  pub form : (bytes : List ℕ) → first_of (form_checks bytes) ≢ 0 → first_of (bad_checks bytes) ≡ verdict bytes
  pub sound_ring : (bytes : List ℕ) → NoneApplies (form_checks bytes) → let card = card_of bytes in
      (first_of (bad_checks bytes) ≡ 26) ↔ SingleCycle (2 ^ card.words) (entry card) 0
  pub broken : (bytes : List ℕ) → NoneApplies (form_checks bytes) → (first_of (bad_checks bytes) ≡ 0) ↔ (verdict bytes ≡ 7)
  -- the places shown are those of a fatal set, ascending; no fatal set has fewer, and none of as many comes first
  pub least : (bytes : List ℕ) (r : BadPlaces) → Shows bytes r → NoneApplies (bad_checks bytes) → let N = 2 ^ (card_of bytes).words in
      (P : ℕ → Bool) × LeastSet N (Fatal (card_of bytes)) P × (r.count ≡ count N P) × (take r.count r.places ≡ members N P)
  -- a set is fatal exactly where two of its places have the same entry, or it holds a cycle shorter than the table
  pub rule : (card : Card) → let N = 2 ^ card.words in ((x : ℕ) → x < N → entry card x < N) → (P : ℕ → Bool)
      → Fatal card P ↔ (RepeatIn N (entry card) P ⊎ ShortCycleIn N (entry card) P)
  -- whoever leaves the entries there as they are can't mend the table: a card of sound form and as many words that has them gets 7
  pub not_mended : (bytes other : List ℕ) (r : BadPlaces) → Shows bytes r → NoneApplies (bad_checks bytes)
      → NoneApplies (form_checks other) → (card_of other).words ≡ (card_of bytes).words
      → ((k : ℕ) → k < r.count → let x = get_or r.places k 0 in entry (card_of other) x ≡ entry (card_of bytes) x) → verdict other ≡ 7
  -- they are places of the table, ascending, half of it at most, and 0 stands past the count
  pub below : (bytes : List ℕ) (r : BadPlaces) → Shows bytes r → NoneApplies (bad_checks bytes)
      → (k : ℕ) → k < r.count → get_or r.places k 0 < 2 ^ (card_of bytes).words
  pub ascending : (bytes : List ℕ) (r : BadPlaces) → Shows bytes r → (j k : ℕ) → j < k → k < r.count → get_or r.places j 0 < get_or r.places k 0
  pub half : (bytes : List ℕ) (r : BadPlaces) → Shows bytes r → NoneApplies (bad_checks bytes) → 2 * r.count ≤ 2 ^ (card_of bytes).words
  pub past : (bytes : List ℕ) (r : BadPlaces) → Shows bytes r → (k : ℕ) → r.count ≤ k → get_or r.places k 0 ≡ 0
  -- there is an answer to all bytes, and only one
  pub some : (bytes : List ℕ) → (r : BadPlaces) × Shows bytes r
  pub one : (bytes : List ℕ) (r r₂ : BadPlaces) → Shows bytes r → Shows bytes r₂ → r ≡ r₂

-- ---- the whole

pub record Demands : Type 0 where
  pub one : AnsweredOrRefused
  pub two_a : Published
  pub two_b : Undone
  pub two_c : SameBytes
  pub two_d : SameLots
  pub three : AcceptedIffCovers
  pub request_one : FilledAsDrawn
  pub request_two : FairRanks
  pub request_four : NearestChange
  pub request_five : UpToEightWords
  pub request_six : NoEarlyRepeat
  pub request_seven : CabAndDesk
  pub request_eight : BitsCounted
  pub request_nine : SameByGates
  pub request_ten : ByTheMap
  pub request_eleven : FewestPlaces
