use Rattle.std.proofs.Common.{rules, ◌≡◌, ℕ, true, false, length, ◌||◌, eqb, ltb, get_or, ap, arith}
use borrow.Author.Tests.{tests}
use Rattle.std.proofs.lemmas.Iterator.{first_from_Range}
use Rattle.completions.specs.Finding.{clashes}
use Rattle.diagnosis.specs.Marks.{entry_of}
use Rattle.diagnosis.proofs.Found.{found_from}
use Rattle.diagnosis.proofs.pair.first_clash.Goals as goal

pub returns : goal.returns
returns c =
    let t = c.args.table.now in
    let f = entry_of t in
    let p = clashes (length t) f in
    let counts = c.uses_of-counts.result in
    let seen : (y : ℕ) → (ltb 1 (get_or counts (f y) 0) || eqb (f (f y)) y) ≡ p y = λ y. ap (λ (n : ℕ). ltb 1 n || eqb (f (f y)) y) (c.uses_of-counts.ensures (f y)) in
    found_from p 0 (length t) c.find.result (λ k l. absurd (omega arith)) (first_from_Range _ _ _ c.find.result (λ y. p y ≡ true) (λ y. p y ≡ false) c.find.ensures.ran (λ y q k. search (rules, tests, seen)) (λ y q k. search (rules, tests, seen)))
