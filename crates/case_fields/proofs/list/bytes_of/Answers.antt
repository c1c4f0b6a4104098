use Rattle.std.proofs.Common.{Some, option_map, sym, ap, ap₂, ◌∙◌}
use Rattle.case_fields.specs.Lists.{held, bytes_in}
use Rattle.case_fields.proofs.Pairs.{no_bytes}
use Rattle.case_fields.proofs.list.bytes_of.Goals as goal
use Rattle.case_fields.proofs.list.bytes_of.Goals.{then-is_nothing, else-is_nothing+in_ok-count}

pub returns-then-is_empty : goal.returns-then-is_empty
returns-then-is_empty g c = sym (no_bytes g.row.SIZE c.args.field.now (sym c.is_empty.ensures ∙ c.if-is_empty.true))

pub returns-in_err-count : goal.returns-in_err-count
unfolding bytes_in
returns-in_err-count g c =
    simp (sym c.is_nothing.ensures ∙ c.if-is_nothing.false, sym c.is_empty.ensures ∙ c.if-is_empty.false)
    (c.from_residual.ensures ∙ sym (c.read_pairs_into.ensures.value ∙ ap (option_map (held c.read_pairs_into.new.words)) c.in_err-count.was))

pub returns : goal.returns
unfolding bytes_in
returns g c =
    elim c.if-is_nothing.branch [
      | then-is_nothing w ↦ simp (sym c.is_nothing.ensures ∙ w.if-is_nothing.true) (ap₂ (λ xs n. Some (held xs n)) w.words-is w.count-is)
      | else-is_nothing+in_ok-count w ↦
          simp (sym c.is_nothing.ensures ∙ w.if-is_nothing.false, sym c.is_empty.ensures ∙ c.if-is_empty.false)
          (ap₂ (λ xs n. Some (held xs n)) w.words-is w.count-is ∙ sym (w.read_pairs_into.ensures.value ∙ ap (option_map (held w.read_pairs_into.new.words)) w.in_ok-count.was))
    ]
