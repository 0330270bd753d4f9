use Rattle.std.proofs.Common.{take, map}
use Rattle.kp_ground.specs.View.{value_view, values_of}
use Rattle.kp_signature.specs.View.{signature_view}
use Rattle.kp_overlap.specs.Placing.{PlacesValues}
use Rattle.kp_overlap.specs.Views.{graph_view}
use Rattle.kp_overlap.proofs.value_places.+value.Given as goal

abbrev pub invariant-value_places-loop-value : goal.invariant-value_places-loop-value
invariant-value_places-loop-value l =
    PlacesValues (signature_view l.signature) (graph_view l.initial.graph) (graph_view l.graph) (values_of (map value_view (take l.value-index l.values))) l.places.items
