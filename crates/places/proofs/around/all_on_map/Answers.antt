use Rattle.std.proofs.Common.{rules, tests, ◌∙◌, pos}
use Rattle.std.proofs.lemmas.Iterator.{YieldsList-from_slice}
use Rattle.std.proofs.lemmas.Iterator.Search.{all_from_yields_List}
use Rattle.ties.proofs.Entries.{every-entry}
use Rattle.places.specs.Places.{is_on_map, all_on_map}
use Rattle.places.proofs.around.all_on_map.Goals as goal

pub returns : goal.returns
unfolding all_on_map
returns c = let cs = c.args.cs.now in
    all_from_yields_List is_on_map _ _ _ c.all.ensures.ran (YieldsList-from_slice cs (cc)) (λ x b q k. search (rules, tests)) ∙ every-entry is_on_map (pos 0) cs
