use Rattle.words.proofs.Masks.{bit_join}
use Rattle.words.proofs.mask.join.Goals as goal

pub returns : goal.returns
returns c i l = bit_join c.args.x c.args.f c.args.g i
