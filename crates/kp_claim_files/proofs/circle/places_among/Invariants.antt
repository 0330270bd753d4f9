use Rattle.std.proofs.Common.{◌≡◌, ◌++◌, drop}
use Rattle.std.specs.List.{filter_map}
use Rattle.indexmap.specs.IndexMap.{get_by_text}
use Rattle.kp_kore.specs.View.{names_view}
use Rattle.kp_claim_files.proofs.circle.places_among.Given as goal

abbrev pub invariant-loop-label : goal.invariant-loop-label
invariant-loop-label l =
    l.found.items ++ filter_map (get_by_text l.places) (names_view (drop l.label-index l.labels))
    ≡ filter_map (get_by_text l.places) (names_view l.labels)
