use Rattle.transposition.proofs.Groups.{group_images}
use Rattle.transposition.proofs.replace.group_of.Goals as goal

pub columns_of-c-requires : goal.columns_of-c-requires
columns_of-c-requires c = c.requires

pub chosen-requires : goal.chosen-requires
chosen-requires c = c.requires

pub returns : goal.returns
returns c = let a = c.args in
    let columns = c.columns_of-c in
    let odd = c.images_of in
    let even = c.images_of-2 in
    group_images a.g a.selector a.low a.powers.now.odd a.powers.now.even a.s.words columns.result odd.result even.result c.transpose-o.result c.transpose-e.result c.chosen.result
    columns.ensures odd.ensures c.transpose-o.ensures even.ensures c.transpose-e.ensures c.chosen.ensures
