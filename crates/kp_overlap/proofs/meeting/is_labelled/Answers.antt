use Rattle.std.proofs.Common.{rules, ◌≡◌, sym, ap, map, true}
use Rattle.kp_signature.specs.View.{signature_view}
use Rattle.kp_overlap.specs.Views.{graph_view, shape_view}
use Rattle.kp_overlap.proofs.meeting.is_labelled.Goals as goal

pub returns : goal.returns
returns c graph labels =
    let g = signature_view c.args.signature.now in
    let x = graph_view c.args.graph.now in
    let i = c.args.first in
    let j = c.args.second in
    let met : c.are_settled.result ≡ true = search rules in
    c.is_held.ensures i j graph labels (c.are_settled.ensures.0 met) (c.in_ok-holders.ensures g x i j (ap (map shape_view) (sym c.deref.ensures.value)) graph labels)
