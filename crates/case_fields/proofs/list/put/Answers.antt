use Rattle.case_fields.proofs.Lists.{with_above, with_full, with_one}
use Rattle.case_fields.specs.Lists.{held}
use Rattle.case_fields.proofs.list.put.Goals as goal
use Rattle.case_fields.proofs.list.put.Goals.{then-most-number-via-then-most-number, then-most-number-via-else-most-number+then-words-count}

pub returns-then-most-number-clause-value : goal.returns-then-most-number-clause-value
returns-then-most-number-clause-value c = let a = c.args in
    elim c.then-most-number.branch [
      | then-most-number-via-then-most-number w ↦ with_above a.most a.number (held a.words.now a.count) w.if-most-number.true
      | then-most-number-via-else-most-number+then-words-count w ↦ with_full a.most a.number (held a.words.now a.count) w.if-words-count.true
    ]

pub returns-clause-value : goal.returns-clause-value
returns-clause-value c = let a = c.args in
    with_one a.most a.number (held a.words.now a.count) c.if-most-number.false c.if-words-count.false
