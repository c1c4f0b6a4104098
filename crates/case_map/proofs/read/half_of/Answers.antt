use Rattle.std.proofs.Common.{◌≡◌, ◌≢◌, ℕ, ◌+◌, ◌-◌, length, take, drop, length-drop, ap, sym, ◌∙◌, rules, tests, arith}
use Rattle.std.proofs.Math.Seq.{take_all, take-length}
use Rattle.std.proofs.Math.ListN.{drop_of_length-le}
use Rattle.std.specs.Option.{unwrap_or}
use Rattle.std.proofs.lemmas.Iterator.{YieldsList-from_slice, IsFirst-from_position}
use Rattle.case_fields.specs.Text.{index_of}
use Rattle.case_map.specs.Coordinates.{half_in, biased_in}
use Rattle.case_map.proofs.Places.{colon_at, nothing}
use Rattle.case_map.proofs.read.half_of.Goals as goal
use Rattle.case_map.proofs.read.half_of.Goals.{After-position}

-- where the colon is
found : (c : After-position) → let f = c.args.place.now in index_of 58 f ≡ unwrap_or c.position.result (length f)
found c = let f = c.args.place.now in
    colon_at f c.position.result
    (IsFirst-from_position _ _ c.position.result (λ x. x ≡ 58) (λ x. x ≢ 58) c.position.ensures.ran (YieldsList-from_slice f c.iter.ensures.rest)
    (λ x q k. search (rules, tests)) (λ x q k. search (rules, tests)))

pub returns-in-Some : goal.returns-in-Some
unfolding half_in
returns-in-Some c = let f = c.args.place.now in
    let k = c.in-Some.at + 1 in
    let at = found (goal.at.returns-in-Some c).After-position ∙ ap (λ o. unwrap_or o (length f)) c.in-Some.is in
    c.biased_of.ensures ∙ simp (c.if-second.true) (ap biased_in (take_all (length f - k) (drop k f) (omega (arith, length-drop k f)) ∙ ap (λ (i : ℕ). drop (i + 1) f) (sym at)))

pub returns-in-Some-2 : goal.returns-in-Some-2
unfolding half_in
returns-in-Some-2 c = let f = c.args.place.now in
    let at = found (goal.at.returns-in-Some-2 c).After-position ∙ ap (λ o. unwrap_or o (length f)) c.in-Some.is in
    c.biased_of-in-Some-2.ensures ∙ simp (c.if-second.false) (ap (λ (i : ℕ). biased_in (take i f)) (sym at))

pub returns-in-None : goal.returns-in-None
unfolding half_in
returns-in-None c = let f = c.args.place.now in
    let at = found (goal.at.returns-in-None c).After-position ∙ ap (λ o. unwrap_or o (length f)) c.in-None.is in
    simp (c.if-second-2.true) (sym nothing ∙ ap biased_in (sym (drop_of_length-le f {i = index_of 58 f + 1} (omega (arith, at)))))

pub returns-in-None-2 : goal.returns-in-None-2
unfolding half_in
returns-in-None-2 c = let f = c.args.place.now in
    let at = found (goal.at.returns-in-None-2 c).After-position ∙ ap (λ o. unwrap_or o (length f)) c.in-None-2.is in
    c.biased_of-in-None-2.ensures ∙ simp (c.if-second-2.false) (ap biased_in (sym (take-length f)) ∙ ap (λ (i : ℕ). biased_in (take i f)) (sym at))
