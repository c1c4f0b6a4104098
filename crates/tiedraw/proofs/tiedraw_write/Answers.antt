use mathlib.Core.Path.{ap, ◌∙◌}
use mathlib.Core.List.{List}
use Prim.Native.Nat.{ℕ}
use native.Mathlib.Omega.{arith}
use Rattle.std.specs.Prelude.{Err}
use Rattle.tsc.specs.declared.Card.{Card}
use Rattle.c_answers.specs.Answers.{written_length}
use Rattle.c_answers.proofs.Given.{overlong-refused, fitting_written, padded-long, padded_full, filled_all}
use Rattle.tiedraw.proofs.tiedraw_write.Goals as goal

pub returns-then-table-gt-TABLE_SIZE : goal.returns-then-table-gt-TABLE_SIZE
returns-then-table-gt-TABLE_SIZE c =
    let refused = overlong-refused _ c.args.page.now (padded-long c.args.table.now (omega (arith, c.if-table-gt-TABLE_SIZE.true))) in
    record { answer = c.length_of.ensures ∙ ap (λ (n : ℕ). written_length (Err n)) c.number.ensures ∙ refused.0; after = refused.1 }

pub returns : goal.returns
returns c = let a = c.args in
    let table = a.table.now in
    -- the card of the values given, with a table t
    let card : List ℕ → Card = λ t. record {
      words = a.words;
      width = a.width;
      table = t;
      odd_power = a.odd_power;
      even_power = a.even_power;
      constant = a.constant;
      filter = a.filter;
      sum_term = a.sum_term;
    } in
    let same = ap card (filled_all table _ c.table_from.ensures) in
    let w = fitting_written _ a.page.now same (omega (arith, padded_full table (omega (arith, c.if-table-gt-TABLE_SIZE.false)))) in
    record {
      answer = c.length_of-2.ensures ∙ ap written_length (c.numbered.ensures ∙ c.write.ensures.value) ∙ w.0;
      after = c.write.ensures.page_after ∙ w.1;
    }
