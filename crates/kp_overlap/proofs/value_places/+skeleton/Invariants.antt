use Rattle.std.proofs.Common.{take, map}
use Rattle.indexmap.specs.IndexMap.{get_by_text}
use Rattle.kp_rules.specs.Skeletons.{skeleton_view, forms_of}
use Rattle.kp_signature.specs.View.{signature_view}
use Rattle.kp_overlap.specs.Placing.{PlacesForms}
use Rattle.kp_overlap.specs.Views.{graph_view}
use Rattle.kp_overlap.proofs.value_places.+skeleton.Given as goal

abbrev pub invariant-skeleton_places-loop-skeleton : goal.invariant-skeleton_places-loop-skeleton
invariant-skeleton_places-loop-skeleton l =
    PlacesForms (signature_view l.signature) (graph_view l.initial.graph) (get_by_text l.initial.names) (graph_view l.graph) (get_by_text l.names) (forms_of (map skeleton_view (take l.skeleton-index l.skeletons))) l.places.items
