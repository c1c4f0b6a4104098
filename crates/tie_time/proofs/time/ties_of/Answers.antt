use Rattle.std.proofs.Common.{rules, ◌≡◌, ◌∙◌, count_by, eqb}
use Rattle.ties.proofs.Entries.{count-entries}
use Rattle.ties.proofs.Least.{ties_counted}
use Rattle.tie_time.proofs.time.ties_of.Goals as goal

pub returns : goal.returns
returns c = let times = c.args.times.now in
    let e : c.count.result ≡ count_by (λ t. eqb t c.args.least) times = search rules in e ∙ count-entries (λ t. eqb t c.args.least) 0 times ∙ ties_counted times c.args.least c.requires
