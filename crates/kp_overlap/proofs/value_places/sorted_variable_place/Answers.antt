use Rattle.std.proofs.Common.{string_bytes}
use Rattle.indexmap.specs.IndexMap.{get_by_text}
use Rattle.kp_kore.specs.View.{sort_view}
use Rattle.kp_overlap.specs.Views.{graph_view}
use Rattle.kp_overlap.proofs.PlaceCode.{variable_sorted}
use Rattle.kp_overlap.proofs.value_places.sorted_variable_place.Goals as goal

pub returns : goal.returns
returns c = λ g.
    variable_sorted g (graph_view c.args.graph.now) (get_by_text c.args.names.now) (graph_view c.variable_place.new.graph) (graph_view c.ask.new.self) (get_by_text c.variable_place.new.names) (string_bytes c.args.name.now.value)
    c.in_ok-place.place (sort_view c.args.sort.now) (c.in_ok-place.ensures g) c.in_ok-ask.ensures
