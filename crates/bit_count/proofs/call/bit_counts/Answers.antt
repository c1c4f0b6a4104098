use Rattle.std.proofs.lemmas.Result.{err_from_is_err_and}
use Rattle.bit_counts.proofs.Counting.{refused_card, found_narrow, refused_strip, fitting, counted}
use Rattle.bit_count.proofs.call.bit_counts.Goals as goal

pub returns-in_err-values : goal.returns-in_err-values
returns-in_err-values c = let a = c.args in
    let p = err_from_is_err_and c.from_residual.result c.from_residual.ensures.1 in
    let both = refused_card a.card.now a.strip.now a.page.now c.accept.ensures c.in_err-values.was in
    record { answer = rw (p.1, p.2) both.0; page = both.1 }

pub returns-in_err-strip_refusal : goal.returns-in_err-strip_refusal
returns-in_err-strip_refusal c = let a = c.args in
    let p = err_from_is_err_and c.from_residual-in_err-strip_refusal.result c.from_residual-in_err-strip_refusal.ensures.1 in
    let both = refused_strip a.card.now a.strip.now a.page.now c.accept.ensures c.in_ok-values.was c.strip_refusal.ensures c.in_err-strip_refusal.was in
    record { answer = rw (p.1, p.2) both.0; page = both.1 }

pub count_bits-requires : goal.count_bits-requires
count_bits-requires c = let a = c.args in
    let fits = fitting a.card.now a.strip.now a.page.now c.accept.ensures c.in_ok-values.was c.strip_refusal.ensures c.in_ok-strip_refusal.was in
    (found_narrow a.card.now a.strip.now a.page.now c.accept.ensures c.in_ok-values.was, fits.short, fits.enough)

pub returns : goal.returns
returns c = let a = c.args in
    let done = c.count_bits.ensures in
    let both = counted a.card.now a.strip.now a.page.now c.accept.ensures c.in_ok-values.was c.strip_refusal.ensures c.in_ok-strip_refusal.was _ _ done.counted done.page in
    record { answer = both.0; page = both.1 }
