-- THE PROOF OF THE CLAIM: each statement of specs/Demands.antt from the theorems of the crates below, and `demands`, which is all of them.
use mathlib.Core.Path.{◌≡◌, refl, sym, ap, ◌∙◌}
use mathlib.Core.Bool.{Bool, true, false, cond}
use mathlib.Core.List.{List, ◌++◌}
use Prim.Native.Nat.{ℕ, ◌+◌, ◌-◌, ◌^◌}
use native.Mathlib.Omega.{arith}
use borrow.Author.Tests.{ne_eqb, le-ltb, leb-true, le-leb}
use native.Mathlib.Nat.{lt_of_le_of_lt}
use lib.Dec.{eqb, lit<}
use lib.IntN.{nat_abs}
use lib.ListN.{length, get_or, take, drop}
use Rattle.std.specs.Prelude.{Ok, Err}
use Rattle.cycle.proofs.Remainder.{multiple_is, multiple-largest, most-kept, ranks_fair}
use Rattle.refusals.specs.Refusals.{Check, first_of, NoneApplies, answered}
use Rattle.refusals.proofs.Refusals.{first-none, none_first, none_left, none-append}
use Rattle.tsc.specs.Columns.{column}
use Rattle.tsc.specs.Step.{step, orbit}
use Rattle.tsc.specs.Word.{orbit_words}
use Rattle.tsc.specs.Coverage.{step_back}
use Rattle.tsc.proofs.Step.{column-step}
use Rattle.tsc.proofs.StepBack.{back_of_step_lem}
use Rattle.tsc.proofs.Word.{word_of_few}
use Rattle.tsc.proofs.Balanced.{word_balanced}
use Rattle.tsc.proofs.ColumnPeriod.{column-period, opposite-top, opposite-lower}
use Rattle.tsc.proofs.WordPeriod.{words_return, words-halved, word-period}
use Rattle.card_format.specs.Reading.{card_of, form_checks, reading}
use Rattle.card_format.specs.Verdict.{card_checks, verdict, Accepted}
use Rattle.card_format.specs.Writing.{writing, page_after, rewrite_checks, rewriting, page_rewritten}
use Rattle.card_format.proofs.Verdict.{verdict_covers, accepted_card}
use Rattle.card_format.proofs.RoundTrip.{accepted-short, accepted-writing}
use Rattle.card_format.proofs.Examples.{longest, longest_accepted}
use Rattle.diagnoses.specs.BadPlaces.{bad_checks}
use Rattle.diagnoses.proofs.Fatal.{fatal_iff}
use Rattle.diagnoses.proofs.Answers.{bad_form, ring_iff, shown_iff, ascending, zeros-past, exactly, shown-below, shows_exists, shows_unique, shown-half, still_seven}
use Rattle.periods.proofs.Computed.{published_periods, repeating-accepted, repeating-early}
use Rattle.periods.proofs.Wide.{wide-period}
use Rattle.draws.specs.Calls.{refusal_for, stepped, stepped_back, drawing}
use Rattle.draws.proofs.Opening.{passes, unless_passed}
use Rattle.draws.proofs.Called.{only-before}
use Rattle.draws.proofs.Draws.{back_of_stepped, draws-state, draws-word, orbit_lists}
use Rattle.fills.specs.Fills.{fill_refusal, filled, filled_state}
use Rattle.fills.proofs.Fills.{fill_draws, fill_undone, fill_none, fill_append}
use Rattle.samples.proofs.Tried.{taken-none_iff, taken-few, taken-over, taken-serves, taken-kept}
use Rattle.picks.specs.Picks.{pick_refusal, picking, picked}
use Rattle.picks.proofs.Choice.{pick_chooses, pick_order}
use Rattle.picks.proofs.Steps.{pick_steps, pick_undone}
use Rattle.picks.proofs.Shift.{standby_alike}
use Rattle.picks.proofs.Fair.{picks_fair}
use Rattle.margins.proofs.Answers.{margin_refused, margin_one}
use Rattle.margins.proofs.Alike.{margin_order}
use Rattle.margins.proofs.Firm.{counts-unrefused, told_counts, told_least, firm-exactly, alone-firm}
use Rattle.picks.specs.declared.Pick.{Pick}
use Rattle.picks.specs.declared.Pick.TheVariants.{Shovel, Refused}
use Rattle.records.specs.Reading.{reading_record}
use Rattle.records.specs.Orders.{order_for}
use Rattle.records.proofs.Reading.{read_absent, whole_unique, whole_short}
use Rattle.records.proofs.Writing.{encoded_whole, encoded_back}
use Rattle.records.proofs.Full.{longest_record}
use Rattle.records.proofs.Orders.{order-heard, cabs_alike, cab_tells}
use Rattle.records.specs.Writing.{recorded_on}
use Rattle.recorded_picks.specs.Recorded.{recorded_refusal, recorded_picking, recorded_state, record_left, recorded_page}
use Rattle.recorded_picks.proofs.Order.{recorded_order, page-order, standby_records, standby_pages}
use Rattle.recorded_picks.proofs.Desk.{page-left, page-kept, record_read, record_replayed}
use Rattle.bit_counts.specs.Calls.{bit_refusal, counting_bits, bit_page}
use Rattle.bit_counts.proofs.Sums.{balance-append, balance-parity, balance-bound}
use Rattle.bit_counts.proofs.Extremes.{forward_extremes, backward_extremes, furthest_is, forward_bounds, backward_bounds}
use Rattle.bit_counts.proofs.Runs.{runs_append, runs-bound}
use Rattle.bit_counts.proofs.Bits.{bits_of-append}
use Rattle.bit_counts.proofs.Counting.{page_digits, page_back, page_rest}
use Rattle.bit_counts.proofs.Examples.{examples_hold, no_bits}
use Rattle.gates.proofs.Formulas.{bit-on_words, equation_16, equation_17}
use Rattle.gates.proofs.GateStep.{card_p1, tsc1_alone, gate_step_lem, gate_orbit}
use Rattle.places.proofs.Distances.{squared_is, squared_zero, squared_le, distance_is}
use Rattle.places.proofs.Places.{radius_is}
use Rattle.ties.specs.Ties.{ties, TieAt}
use Rattle.samples.specs.Samples.{taken, drawn_rank}
use Rattle.places.specs.Places.{Places, distances_of, most_coordinate}
use Rattle.map_picks.specs.MapPicks.{map_pick_checks, map_pick_refusal, map_picking, map_picked}
use Rattle.map_picks.proofs.Timed.{map-timed, map-passed}
use Rattle.map_picks.proofs.Order.{map_pick_order}
use Rattle.map_picks.proofs.Shift.{mixed_alike, map-undone}
use Rattle.nearby.specs.Calls.{within_checks, listing, no_list, within_radius}
use Rattle.nearby.proofs.Answers.{answer-exactly, answer-only, answer-ascending, answer-once, answer-length, answer-past, within-order}
use Rattle.demands.specs.Demands.{ByTable, nothing, AnsweredOrRefused, Ready, Published, Undone, SameBytes, SameLots, AcceptedIffCovers, FilledAsDrawn, FairRanks, NearestChange, UpToEightWords, NoEarlyRepeat, CabAndDesk, BitsCounted, SameByGates, ByTheMap, FewestPlaces, Demands}

-- ---- demand 1

-- a call that is worked out from the first refusal r that applies, and from whether r is 0
by_first : {A L : Type 0} {refused : ℕ → A} {checks : List Check} {lent : L} (call : Bool → ℕ → A × L)
    → ((r : ℕ) → call false r ≡ (refused r, lent)) → let r = first_of checks in ByTable refused checks lent (call true 0) (call (eqb r 0) r)
by_first {checks} call h =
    let r = first_of checks in
    record {
      passes = λ n. ap (λ (r : ℕ). call (eqb r 0) r) (first-none checks n);
      refuses = λ ne. ap (λ (b : Bool). call b r) (ne_eqb r 0 ne) ∙ h r;
    }

-- as most are: the good answer and what it leaves, or the refusal and what was lent
by_table : {A : Type 0} {refused : ℕ → A} {checks : List Check} {lent : List ℕ} {good : A × List ℕ} → let r = first_of checks in
    ByTable refused checks lent good (cond (eqb r 0) good.0 (refused r), cond (eqb r 0) good.1 lent)
by_table {refused} {lent} {good} = by_first (λ b r. (cond b good.0 (refused r), cond b good.1 lent)) (λ r. refl)

-- the same where nothing is lent
by_answer : {A : Type 0} {checks : List Check} {x : A} → ByTable Err checks nothing (Ok x, nothing) (answered (first_of checks) x, nothing)
by_answer {x} = by_first (λ b r. (cond b (Ok x) (Err r), nothing)) (λ r. refl)

pub answered_or_refused : AnsweredOrRefused
unfolding verdict reading writing page_after rewriting page_rewritten refusal_for stepped stepped_back drawing fill_refusal filled filled_state pick_refusal picking picked recorded_refusal recorded_picking recorded_state recorded_page reading_record order_for bit_refusal counting_bits bit_page map_pick_refusal map_picking map_picked within_radius
answered_or_refused =
    record {
      of_check = λ bytes. by_first (λ b r. (r, nothing)) (λ r. refl);
      of_read = λ bytes. by_answer;
      of_write = λ card page. by_table;
      of_rewrite = λ bytes page. by_table;
      of_step = λ bytes xs. by_first (λ b r. (r, cond b (step (card_of bytes) xs) xs)) (λ r. refl);
      of_step_back = λ bytes xs. by_first (λ b r. (r, cond b (step_back (card_of bytes) xs) xs)) (λ r. refl);
      of_draw = λ bytes xs. by_table;
      of_fill = λ bytes xs strip place count. let card = card_of bytes in
          let row = take place strip ++ orbit_words card xs count ++ drop (place + count) strip in
          by_first (λ b r. (r, (cond b row strip, cond b (orbit card xs count) xs))) (λ r. refl);
      of_pick = λ bytes xs shovels times. by_table;
      of_recorded_pick = λ bytes xs shovels times truck page. let answer : Bool → ℕ → Pick = λ b r. cond b (picking bytes xs shovels times) (Refused r) in
          by_first (λ b r. (answer b r, (cond b (picked bytes xs shovels times) xs, recorded_on (record_left truck xs (answer b r)) page))) (λ r. refl);
      of_read_record = λ bytes. by_answer;
      of_order = λ truck bytes. by_answer;
      of_bit_counts = λ bytes strip page. by_table;
      of_pick_by_map = λ bytes state q. by_table;
      of_within = λ q radius. by_first (λ b r. (cond b (listing q radius) (no_list r), nothing)) (λ r. refl);
      of_bad_places = λ bytes r a ne. a.refused (omega arith);
      of_margin = λ bytes xs shovels times m h n. (margin_refused bytes xs shovels times n m).0 h;
    }

-- ---- demand 2

-- with an accepted card and a state of its size no call is refused, and it leaves the step or the step back
module _ (bytes xs : List ℕ) (h : Ready bytes xs) where
  ok : Accepted (card_of bytes)
  ok = accepted_card bytes h.accepted

  none : refusal_for bytes xs ≡ 0
  none = passes bytes xs h.accepted h.state

  forth : stepped bytes xs ≡ step (card_of bytes) xs
  unfolding stepped
  forth = sym (unless_passed bytes xs _ none)

  back : stepped_back bytes xs ≡ step_back (card_of bytes) xs
  unfolding stepped_back
  back = sym (unless_passed bytes xs _ none)

pub published : Published
published =
    record {
      columns = λ bytes xs h i l. ap (column i) (forth bytes xs h) ∙ column-step (card_of bytes) (ok bytes xs h).formed xs h.state.0 i l;
      states = λ bytes xs h. draws-state bytes xs (none bytes xs h);
      words = λ bytes xs h. draws-word bytes xs (none bytes xs h);
    }

pub undone : Undone
undone =
    record {
      back_of_step = λ bytes xs h. back_of_stepped bytes xs (none bytes xs h);
      step_of_back = λ bytes xs h. let card = card_of bytes in
          let b = only-before card (ok bytes xs h) xs h.state in
          ap (stepped bytes) (back bytes xs h) ∙ forth bytes (step_back card xs) (record { accepted = h.accepted; state = b.0 }) ∙ b.1;
      only = λ bytes xs ys h g e.
          (only-before (card_of bytes) (ok bytes ys g) ys g.state).2 xs h.state (sym (forth bytes xs h) ∙ e) ∙ sym (back bytes ys g);
      back_of_step_defined = λ card a. back_of_step_lem card a.formed a.period;
      only_defined = only-before;
    }

pub same_bytes : SameBytes
unfolding verdict rewrite_checks NoneApplies
same_bytes =
    record {
      read_and_written = λ bytes page b z l.
          let r = (answered_or_refused.of_read bytes).passes (none_left (form_checks bytes) _ (none_first _ z)) in
          let w = accepted-writing bytes page b z l in
          (card_of bytes, λ i. (r i).0, w.0, w.1);
      rewritten = λ bytes page z l.
          let room = le-ltb (length page) (length bytes) l in
          let r = (answered_or_refused.of_rewrite bytes page).passes (none-append (card_checks bytes) _ (none_first _ z) (room, tt)) in
          (λ i. (r i).0, λ i. (r i).1);
    }

pub same_lots : SameLots
unfolding pick_refusal
same_lots =
    record {
      ranked = λ bytes xs shovels times n. pick_chooses bytes xs shovels times (first-none _ n);
      one_pick = pick_order;
      shift = standby_alike;
    }

-- ---- demand 3

pub accepted_iff_covers : AcceptedIffCovers
accepted_iff_covers = verdict_covers

-- ---- document 02, One

pub filled_as_drawn : FilledAsDrawn
filled_as_drawn = record { draws = fill_draws; undone = fill_undone; none = fill_none; append = fill_append }

-- ---- document 02, Two

pub fair_ranks : FairRanks
unfolding pick_refusal
fair_ranks =
    record {
      multiple = λ card k pos. let M : ℕ = 2 ^ card.width in (multiple_is M k, (multiple-largest M k pos).1);
      most = λ card k pos. most-kept (2 ^ card.width) k pos;
      none = taken-none_iff;
      few = taken-few;
      over = taken-over;
      kept = taken-kept;
      serves = taken-serves;
      steps = pick_steps;
      undone = pick_undone;
      ranks = λ card k r l. ranks_fair (2 ^ card.width) k (omega arith) r l;
      words = λ bytes xs h.
          let card = card_of bytes in
          let a = ok bytes xs h in
          word_balanced card a.formed.words (omega (arith, a.formed.width)) (orbit card xs) (orbit_lists bytes xs (none bytes xs h));
      loads = λ bytes xs shovels times n. picks_fair bytes xs shovels times (first-none _ n);
    }

-- ---- document 02, Four

pub nearest_change : NearestChange
unfolding pick_refusal
nearest_change =
    record {
      counts = told_counts;
      least = told_least;
      firm = λ bytes xs shovels times n. firm-exactly bytes xs shovels times (first-none _ n);
      alone = λ bytes xs shovels times n one m h.
          let z = first-none _ n in
          (firm-exactly bytes xs shovels times z m h).1 (alone-firm bytes xs shovels times z one);
      unrefused = λ bytes xs shovels times c k. none_first _ (counts-unrefused bytes xs shovels times c k);
      one = margin_one;
      order = margin_order;
    }

-- ---- document 02, Five

pub up_to_eight_words : UpToEightWords
up_to_eight_words =
    record {
      words = λ bytes z. let a = accepted_card bytes z in (a.formed.words, a.few);
      short = accepted-short;
      reached = (longest, longest_accepted.0, longest_accepted.1, longest_accepted.2);
      as_before = λ bytes xs h few. word_of_few (card_of bytes) xs (omega (arith, h.state.0));
    }

-- ---- document 02, Six

pub no_early_repeat : NoEarlyRepeat
no_early_repeat =
    record {
      published = published_periods;
      repeats = λ bytes xs h. let a = ok bytes xs h in words_return (card_of bytes) a.formed a.period xs;
      halved = λ bytes xs h. let a = ok bytes xs h in words-halved (card_of bytes) a.formed a.period xs;
      lower = λ bytes xs h i l. let a = ok bytes xs h in
          opposite-lower (card_of bytes) a.formed a.period xs h.state ((card_of bytes).width - 1) (omega arith) i (omega arith);
      top = λ bytes xs h. let a = ok bytes xs h in
          opposite-top (card_of bytes) a.formed a.period xs h.state ((card_of bytes).width - 1) (omega (arith, a.formed.width));
      exactly = λ bytes xs h. let a = ok bytes xs h in word-period (card_of bytes) a.formed a.period xs;
      wide = λ bytes xs h w. wide-period (card_of bytes) (ok bytes xs h) w xs;
      early = (repeating-accepted.0, repeating-accepted.1, λ xs sx. repeating-early xs);
      columns = λ bytes xs h. let a = ok bytes xs h in column-period (card_of bytes) a.formed a.period xs h.state;
    }

-- ---- document 02, Seven

pub cab_and_desk : CabAndDesk
cab_and_desk =
    record {
      read_back = λ bytes xs shovels times page truck s k t lt h answer tie.
          let l = page-left bytes xs shovels times (length page) s k t answer truck lt h tie page refl in
          let r = record_read bytes xs shovels times (length page) s k t answer truck lt h tie in
          (rw l.0 r.0, ap reading_record l.0 ∙ r.1, l.1);
      replayed = λ bytes xs shovels times page truck s k t lt h answer tie.
          let l = page-left bytes xs shovels times (length page) s k t answer truck lt h tie page refl in
          let e = ap reading_record l.0 ∙ (record_read bytes xs shovels times (length page) s k t answer truck lt h tie).1 in
          (_, e, record_replayed bytes xs shovels times (length page) s k t answer truck lt h tie);
      no_tie = λ bytes xs shovels times page truck s t. page-kept bytes xs shovels times truck page s t;
      absent = read_absent;
      hears_the_same = cabs_alike;
      depends_on = order-heard;
      tells = cab_tells;
      order = λ bytes xs shovels times shovels₂ times₂ h truck page.
          let o = recorded_order bytes xs shovels times shovels₂ times₂ h (length page) in
          (o.0, o.1, page-order bytes xs shovels times shovels₂ times₂ h truck page);
      shift = standby_records;
      pages = standby_pages;
      short = whole_short;
      reached = longest_record;
      unique = whole_unique;
      written = λ r f. (encoded_whole r f, encoded_back r f);
    }

-- ---- document 02, Eight

pub bits_counted : BitsCounted
unfolding bit_refusal
bits_counted =
    record {
      top_bit_first = λ bytes strip page n. page_digits bytes strip page (first-none _ n);
      read_back = λ bytes strip page n. page_back bytes strip page (first-none _ n);
      untouched = λ bytes strip page n. page_rest bytes strip page (first-none _ n);
      examples = examples_hold;
      none = no_bits;
      furthest_sum = furthest_is;
      parity = balance-parity;
      bound = balance-bound;
      forward = forward_bounds;
      backward = backward_bounds;
      few_runs = runs-bound;
      strips = bits_of-append;
      balances = balance-append;
      joined_runs = runs_append;
      one_pass = λ bits. (forward_extremes bits, backward_extremes bits);
    }

-- ---- document 02, Nine

pub same_by_gates : SameByGates
same_by_gates =
    record {
      values = card_p1;
      alone = λ bytes b z e. tsc1_alone bytes b z (e ∙ card_p1);
      once = equation_16;
      twice = equation_17;
      bitwise = λ n ws fits f i l. bit-on_words n ws fits i l f;
      steps = λ xs. rw card_p1 (gate_step_lem xs);
      orbits = λ xs. rw card_p1 (gate_orbit xs);
    }

-- ---- document 02, Ten

-- no check of a pick by the map applies: none of the timed pick by its distances does
module _ (bytes state : List ℕ) (q : Places) (h : NoneApplies (map_pick_checks bytes state q)) where
  unrefused : map_pick_refusal bytes state q ≡ 0
  unfolding map_pick_refusal
  unrefused = first-none (map_pick_checks bytes state q) h

  near : let card = card_of bytes in let ds = distances_of q in let k = ties ds in
      (i : ℕ) × TieAt q.shovels ds (drawn_rank card state k) i × (map_picking bytes state q ≡ Shovel (get_or q.shovels i 0) k (taken card state k))
  near =
      let p = map-passed bytes state q unrefused in
      let c = pick_chooses bytes state q.shovels (distances_of q) p.1 in
      (c.0, c.1, (map-timed bytes state q p.0.is_paired p.0.all_allowed).0 ∙ c.2)

pub by_the_map : ByTheMap
by_the_map =
    record {
      squared = squared_is;
      same_place = squared_zero;
      measured = λ q. distance_is q.x q.y q.xs q.ys;
      narrow = λ ax ay bx by h. lt_of_le_of_lt (squared_le ax ay bx by h.0 h.1.0 h.1.1.0 h.1.1.1.0) (lit< tt);
      coordinates = λ c. (leb-true (nat_abs c) most_coordinate, le-leb (nat_abs c) most_coordinate);
      radii = radius_is;
      timed = map-timed;
      nearest = near;
      undone = map-undone;
      order = map_pick_order;
      shift = mixed_alike;
      exactly = λ q radius h. answer-exactly q radius (first-none (within_checks q radius) h);
      only_these = λ q radius h. answer-only q radius (first-none (within_checks q radius) h);
      ascending = λ q radius h. answer-ascending q radius (first-none (within_checks q radius) h);
      once = λ q radius h. answer-once q radius (first-none (within_checks q radius) h);
      sixty_four = answer-length;
      past = λ q radius h. answer-past q radius (first-none (within_checks q radius) h);
      same_list = within-order;
    }

-- ---- document 02, Eleven

pub fewest_places : FewestPlaces
fewest_places =
    record {
      form = bad_form;
      sound_ring = ring_iff;
      broken = shown_iff;
      least = λ bytes r a h. exactly bytes r a (first-none (bad_checks bytes) h);
      rule = fatal_iff;
      not_mended = λ bytes other r a h. still_seven bytes other r a (first-none (bad_checks bytes) h);
      below = λ bytes r a h. shown-below bytes r a (first-none (bad_checks bytes) h);
      ascending = ascending;
      half = λ bytes r a h. shown-half bytes r a (first-none (bad_checks bytes) h);
      past = zeros-past;
      some = shows_exists;
      one = shows_unique;
    }

-- ---- the whole

pub demands : Demands
demands =
    record {
      one = answered_or_refused;
      two_a = published;
      two_b = undone;
      two_c = same_bytes;
      two_d = same_lots;
      three = accepted_iff_covers;
      request_one = filled_as_drawn;
      request_two = fair_ranks;
      request_four = nearest_change;
      request_five = up_to_eight_words;
      request_six = no_early_repeat;
      request_seven = cab_and_desk;
      request_eight = bits_counted;
      request_nine = same_by_gates;
      request_ten = by_the_map;
      request_eleven = fewest_places;
    }
