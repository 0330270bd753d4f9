use Rattle.kp_kore.specs.View.{sort_view}
use Rattle.kp_overlap.specs.Views.{graph_view}
use Rattle.kp_overlap.proofs.PlaceCode.{sorted_placed}
use Rattle.kp_overlap.proofs.value_places.sorted_place.Goals as goal

pub returns : goal.returns
returns c = λ g.
    sorted_placed g (graph_view c.args.graph.now) (graph_view c.add.new.self) (graph_view c.ask.new.self) c.in_ok-place.place (sort_view c.args.sort.now) c.in_ok-place.ensures.place c.in_ok-place.ensures.graph c.in_ok-ask.ensures
