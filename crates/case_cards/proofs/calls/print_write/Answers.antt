use mathlib.Core.Path.{◌≡◌, sym}
use borrow.Author.Rules.{rules}
use lib.ListN.{length}
use lib.Seq.{length-take-le}
use native.Mathlib.Omega.{arith}
use Rattle.case_answers.specs.Page.{most_page}
use Rattle.case_cards.proofs.calls.print_write.Goals as goal

pub slice_bounds-page-end : goal.slice_bounds-page-end
slice_bounds-page-end g c = let z : length c.untouched-page.result ≡ most_page = search rules in
    omega (arith, z, c.requires)

pub slice_bounds-write-end : goal.slice_bounds-write-end
slice_bounds-write-end g c = let z : length c.untouched-page.result ≡ most_page = search rules in
    sym (length-take-le _ _ (omega (arith, z, c.requires)))
