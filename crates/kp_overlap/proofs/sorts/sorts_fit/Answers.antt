use Rattle.std.proofs.Common.{sym, ap, map}
use Rattle.kp_overlap.specs.Views.{graph_view, placed_view, shape_view}
use Rattle.kp_overlap.proofs.sorts.sorts_fit.Goals as goal

pub returns : goal.returns
returns c i j graph labels holders =
    c.placed_sorts_fit.ensures (graph_view c.args.graph.now) i j (ap (map shape_view) (sym c.deref.ensures.value)) (ap (map placed_view) (sym c.deref-2.ensures.value)) labels holders
