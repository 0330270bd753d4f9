use Rattle.std.proofs.Common.{sym, ap, subst, map}
use Rattle.kp_signature.specs.View.{signature_view}
use Rattle.kp_overlap.specs.Labels.{AreLabels}
use Rattle.kp_overlap.specs.Views.{graph_view, shape_view}
use Rattle.kp_overlap.proofs.meeting.has_solution.Goals as goal

pub returns : goal.returns
returns c graph =
    let g = signature_view c.args.signature.now in
    let x = graph_view c.args.graph.now in
    c.is_labelled.ensures graph (subst (AreLabels g x c.args.first c.args.second) (sym c.deref-2.ensures.value) (c.in_ok-labels.ensures g x (ap (map shape_view) (sym c.deref.ensures.value))))
