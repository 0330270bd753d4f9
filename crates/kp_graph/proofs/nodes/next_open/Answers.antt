use Rattle.std.proofs.Common.{◌≡◌, ◌≤◌, length, sym, ◌∙◌, arith}
use Rattle.std.proofs.lemmas.List.{length-map}
use Rattle.kp_graph.specs.Kept.{before_open}
use Rattle.kp_graph.specs.View.{node_view, nodes_view}
use Rattle.kp_graph.proofs.Places.{kept_at}
use Rattle.kp_graph.proofs.KeptLemmas.{before_within, stops, goes}
use Rattle.kp_graph.proofs.nodes.next_open.Goals as goal

pub loop-place-preserved : goal.loop-place-preserved
loop-place-preserved c = goes (nodes_view c.args.nodes.now) c.loop-place.place (node_view c.index-nodes-place.result) c.loop-place.invariant (kept_at c.args.nodes.now c.loop-place.place c.index-nodes-place.result c.loop-place-test.true c.index-nodes-place.is) (sym c.is_open.ensures ∙ c.if-not-is_open.true)

pub returns-else-not-is_open : goal.returns-else-not-is_open
returns-else-not-is_open c =
    let most : before_open (nodes_view c.args.nodes.now) ≤ c.loop-place.place = stops (nodes_view c.args.nodes.now) c.loop-place.place (node_view c.index-nodes-place.result) (kept_at c.args.nodes.now c.loop-place.place c.index-nodes-place.result c.loop-place-test.true c.index-nodes-place.is) (sym c.is_open.ensures ∙ c.if-not-is_open.false) in
    let least : c.loop-place.place ≤ before_open (nodes_view c.args.nodes.now) = c.loop-place.invariant in
    omega arith

pub returns-after-loop-place : goal.returns-after-loop-place
returns-after-loop-place c =
    let long : length (nodes_view c.args.nodes.now) ≡ length c.args.nodes.now = length-map c.args.nodes.now node_view in
    let most : before_open (nodes_view c.args.nodes.now) ≤ length (nodes_view c.args.nodes.now) = before_within (nodes_view c.args.nodes.now) in
    let least : c.loop-place.place ≤ before_open (nodes_view c.args.nodes.now) = c.loop-place.invariant in
    let end : length c.args.nodes.now ≤ c.loop-place.place = c.loop-place-test.false in
    omega arith
