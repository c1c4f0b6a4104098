use Rattle.std.proofs.Common.{rules, ◌≡◌, ℕ, ◌<◌, Bool, true, false, length}
use borrow.Author.Tests.{tests, le-ltb}
use Rattle.std.proofs.lemmas.Iterator.{first_from_Range}
use Rattle.completions.specs.Finding.{clash, clashes_with}
use Rattle.completions.proofs.Clashes.{with_past}
use Rattle.diagnosis.specs.Marks.{entry_of}
use Rattle.diagnosis.proofs.Found.{found_after}
use Rattle.diagnosis.proofs.pair.partner.Goals as goal

pub returns : goal.returns
returns c =
    let f = entry_of c.args.table.now in
    let x = c.args.x in
    let v = c.from-v.result in
    let clashed = λ (b : Bool) (y : ℕ). clash x v y (f y) ≡ b in
    let known = λ (b : Bool) (y : ℕ) (l : x < y) (h : clash x v y (f y) ≡ b). with_past f x y b l (rw c.from-v.ensures at h) in
    found_after (clashes_with f x) x (length c.args.table.now) c.find.result clashed known (λ k l. simp (le-ltb x k l)) (first_from_Range _ _ _ c.find.result (clashed true) (clashed false) c.find.ensures.ran (λ y q k. search (rules, tests)) (λ y q k. search (rules, tests)))
