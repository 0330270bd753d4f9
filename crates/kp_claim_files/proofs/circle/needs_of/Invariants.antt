use Rattle.std.proofs.Common.{◌≡◌, ◌++◌, map, drop}
use Rattle.std.specs.List.{filter_map}
use Rattle.indexmap.specs.IndexMap.{get_by_text}
use Rattle.kp_layers.specs.Walks.{numbers_of}
use Rattle.kp_claim_sentences.specs.Items.{items_view}
use Rattle.kp_claim_files.proofs.circle.needs_of.Given as goal

abbrev pub invariant-loop-item : goal.invariant-loop-item
invariant-loop-item l =
    numbers_of l.needs.items ++ map (λ i. filter_map (get_by_text l.places) i.depends) (items_view (drop l.item-index l.items))
    ≡ map (λ i. filter_map (get_by_text l.places) i.depends) (items_view l.items)
