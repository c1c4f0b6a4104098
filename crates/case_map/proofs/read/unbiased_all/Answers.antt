use Rattle.std.proofs.Common.{pos, rules}
use Rattle.case_map.proofs.read.unbiased_all.Goals as goal

pub returns : goal.returns
returns c = λ i h. let k = c.map.ensures.items.at i 0 (pos 0) h in search rules
